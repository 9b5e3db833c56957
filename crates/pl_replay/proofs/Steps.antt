-- A journal that is read line by line.
use Rattle.std.proofs.Common.{◌≡◌, ℕ, ◌+◌, ◌⊎◌, inl, inr, List, [], ◌∷◌, ◌++◌, length, Option, Some, None, Result, Ok, Err, IsErrAnd, false, refl, ◌∙◌, ap, sym, subst, append_assoc, arith}
use Rattle.std.proofs.lemmas.List.{append-nil}
use Rattle.pl_model.specs.declared.whole.Model.{Model}
use Rattle.pl_facts.specs.declared.options.Options.{Options}
use Rattle.pl_entry.specs.declared.entry.Entry.{Entry}
use Rattle.pl_journal.specs.Rendering.Lines.{text_of}
use Rattle.pl_io.specs.declared.errors.LineFault.{LineFault}
use Rattle.pl_io.specs.declared.errors.LineFault.TheVariants as fault
use Rattle.pl_io.specs.Reader.{Reader}
use Rattle.pl_journal.specs.Parsing.Journal.{IsLineOf}
use Rattle.pl_machine.specs.Legal.{Legal, opening, IsHistory, world_of}
use Rattle.pl_machine.specs.Sound.{State}
use Rattle.pl_replay.specs.declared.verdict.Verdict.{Verdict}
use Rattle.pl_replay.specs.declared.verdict.Verdict.TheVariants as verdict
use Rattle.pl_input.specs.Waits.{GetsMessage, GetsEnd, GetsFault}
use Rattle.pl_replay.specs.Journals.{entry_lines, lines_from, IsNoLine, IsWrongBehind, IsWrongNext, JudgesLine}
use Rattle.pl_replay.specs.Verifying.{IsReadSoFar, Verified, Stops, Verifies}
use Rattle.pl_input.proofs.Reading.{took_none, took_more, used_later, halts_later, memory_after}
use Rattle.pl_replay.proofs.Blanks.{entries_append, no_entries, one_entry}
use Rattle.pl_replay.proofs.Logs.{lines_push}

pub read_none : (m : Model) (old : Reader) (before : Option (List ℕ)) → old.failed ≡ None → IsReadSoFar m [] old before old before
read_none m old before working = record {
  lines = [];
  took = took_none old before working;
  entries = refl;
}

-- the lines so far and one more
one_more : (m : Model) (log : List Entry) (xs ys : List (List ℕ)) (line : List ℕ) → entry_lines xs ≡ lines_from m 0 log → entry_lines ys ≡ line ∷ [] → entry_lines (xs ++ ys) ≡ lines_from m 0 log ++ line ∷ []
one_more m log xs ys line first one = entries_append xs ys ∙ (ap (λ (ls : List (List ℕ)). ls ++ entry_lines ys) first ∙ ap (λ (ls : List (List ℕ)). lines_from m 0 log ++ ls) one)

none_more : (m : Model) (log : List Entry) (xs ys : List (List ℕ)) → entry_lines xs ≡ lines_from m 0 log → entry_lines ys ≡ [] → entry_lines (xs ++ ys) ≡ lines_from m 0 log
none_more m log xs ys first none = entries_append xs ys ∙ (ap (λ (ls : List (List ℕ)). ls ++ entry_lines ys) first ∙ (ap (λ (ls : List (List ℕ)). lines_from m 0 log ++ ls) none ∙ append-nil (lines_from m 0 log)))

pub read_on : (m : Model) (log : List Entry) (e : Entry) (old mid new : Reader) (before middle after : Option (List ℕ)) (line : List ℕ)
    → IsReadSoFar m log old before mid middle → GetsMessage mid middle line new after → line ≡ text_of m (length log) e → IsReadSoFar m (log ++ e ∷ []) old before new after
read_on m log e old mid new before middle after line so_far gets text = record {
  lines = so_far.lines ++ (gets.lines ++ line ∷ []);
  took = took_more old mid new before middle after so_far.lines (gets.lines ++ line ∷ []) so_far.took gets.took;
  entries =
      let zero : length log ≡ 0 + length log = omega arith in
      one_more m log so_far.lines (gets.lines ++ line ∷ []) line so_far.entries (one_entry gets.lines line gets.blank gets.message)
      ∙ (ap (λ (l : List ℕ). lines_from m 0 log ++ l ∷ []) text
      ∙ (ap (λ k. lines_from m 0 log ++ text_of m k e ∷ []) zero ∙ sym (lines_push m 0 log e)));
}

pub goes_on : (m : Model) (state next : State) (old mid new : Reader) (before middle after : Option (List ℕ)) (line : List ℕ)
    → state.model ≡ m → IsReadSoFar m state.log old before mid middle → GetsMessage mid middle line new after → JudgesLine state line None next → IsReadSoFar m next.log old before new after
goes_on m state next old mid new before middle after line model so_far gets goes =
    subst (λ (log : List Entry). IsReadSoFar m log old before new after) (sym goes.log)
    (read_on m state.log goes.entry old mid new before middle after line so_far gets
    (subst (λ (m : Model). line ≡ text_of m (length state.log) goes.entry) model goes.shows))

pub wrong_line : (m : Model) (log : List Entry) (v : Verdict) (old mid new : Reader) (before middle after : Option (List ℕ)) (line : List ℕ)
    → IsReadSoFar m log old before mid middle → GetsMessage mid middle line new after → IsWrongNext m log line v → Verified m old before v None new after
wrong_line m log v old mid new before middle after line so_far gets wrong = record {
  lines = so_far.lines ++ (gets.lines ++ line ∷ []);
  took = took_more old mid new before middle after so_far.lines (gets.lines ++ line ∷ []) so_far.took gets.took;
  judged = inr (record { log = log; line = line; shows = one_more m log so_far.lines (gets.lines ++ line ∷ []) line so_far.entries (one_entry gets.lines line gets.blank gets.message); wrong = wrong });
  no_further = inr (record { before = so_far.lines ++ gets.lines; line = line; is = sym (append_assoc so_far.lines gets.lines (line ∷ [])); other = gets.message });
}

pub wrong_behind : (m : Model) (state next : State) (v : Verdict) (old mid new : Reader) (before middle after : Option (List ℕ)) (line : List ℕ)
    → state.model ≡ m → Legal state.model state.log → IsReadSoFar m state.log old before mid middle → GetsMessage mid middle line new after → JudgesLine state line (Some v) next → Verified m old before v None new after
wrong_behind m state next v old mid new before middle after line model legal so_far gets wrong =
    wrong_line m state.log v old mid new before middle after line so_far gets (inr (subst (λ (m : Model). Legal m state.log) model legal, subst (λ (m : Model). IsWrongBehind m state.log line v) model wrong))

pub wrong_first : (m : Model) (old new : Reader) (before after : Option (List ℕ)) (line : List ℕ) → old.failed ≡ None
    → GetsMessage old before line new after → IsNoLine m line 0 → Verified m old before (verdict.NotALine 0) None new after
wrong_first m old new before after line working gets none =
    wrong_line m [] (verdict.NotALine 0) old old new before before after line (read_none m old before working) gets (inl (refl, refl, none))

pub no_lines : (m : Model) (old new : Reader) (before after : Option (List ℕ)) → GetsEnd old before new after → Verified m old before (verdict.NotALine 0) None new after
no_lines m old new before after ends = record {
  lines = ends.lines;
  took = ends.took;
  judged = inl (record { verdict = refl; none = no_entries ends.lines ends.blank; used_up = ends.used_up });
  no_further = inl (no_entries ends.lines ends.blank);
}

pub opened : (m : Model) (o : Options) (old new : Reader) (before after : Option (List ℕ)) (line : List ℕ) → old.failed ≡ None
    → GetsMessage old before line new after → IsLineOf m line 0 (opening o) → IsReadSoFar m (opening o ∷ []) old before new after
opened m o old new before after line working gets is =
    read_on m [] (opening o) old old new before before after line (read_none m old before working) gets is.text

pub all_right : (m : Model) (state : State) (v : Verdict) (machine : Option State) (old mid new : Reader) (before middle after : Option (List ℕ))
    → state.model ≡ m → state.spoiled ≡ false → IsReadSoFar m state.log old before mid middle → GetsEnd mid middle new after
    → (n : ℕ) → n ≡ length state.log → v ≡ verdict.Legal n state.world.done → machine ≡ Some state → IsHistory state.model state.log state.world → Verified m old before v machine new after
all_right m state v machine old mid new before middle after model unspoiled so_far ends n count is there history =
    subst (λ (o : Option State). Verified m old before v o new after) (sym there) (record {
      lines = so_far.lines ++ ends.lines;
      took = took_more old mid new before middle after so_far.lines ends.lines so_far.took ends.took;
      judged = record {
        verdict = is ∙ ap (λ k. verdict.Legal k state.world.done) count;
        journal = record { legal = subst (λ (m : Model). Legal m state.log) model history.legal; shows = none_more m state.log so_far.lines ends.lines so_far.entries (no_entries ends.lines ends.blank) };
        unspoiled = unspoiled;
        model = model;
        world = history.world ∙ ap (λ (m : Model). world_of m state.log) model;
        used_up = used_later old.limit old.room before so_far.lines mid.room middle after so_far.took.gave ends.used_up;
      };
      no_further = tt;
    })

pub stops : (m : Model) (log : List Entry) (f : LineFault) (old mid new : Reader) (before middle after : Option (List ℕ)) → (log ≡ []) ⊎ Legal m log
    → IsReadSoFar m log old before mid middle → GetsFault mid middle f new after → Stops m old before f new after
stops m log f old mid new before middle after right so_far gets = record {
  log = log;
  right = right;
  lines = so_far.lines ++ gets.lines;
  halts = halts_later old mid new before middle after so_far.lines gets.lines f so_far.took gets.halts;
  entries = none_more m log so_far.lines gets.lines so_far.entries (no_entries gets.lines gets.blank);
}

pub stops_behind : (m : Model) (state : State) (f : LineFault) (old mid new : Reader) (before middle after : Option (List ℕ)) → state.model ≡ m → Legal state.model state.log
    → IsReadSoFar m state.log old before mid middle → GetsFault mid middle f new after → Stops m old before f new after
stops_behind m state f old mid new before middle after model legal so_far gets =
    stops m state.log f old mid new before middle after (inr (subst (λ (m : Model). Legal m state.log) model legal)) so_far gets

pub stops_first : (m : Model) (f : LineFault) (old new : Reader) (before after : Option (List ℕ)) → old.failed ≡ None → GetsFault old before f new after → Stops m old before f new after
stops_first m f old new before after working gets = stops m [] f old old new before before after (inl refl) (read_none m old before working) gets

pub memory_stops : (m : Model) (log : List Entry) (old mid new : Reader) (before middle after : Option (List ℕ)) → (log ≡ []) ⊎ Legal m log
    → IsReadSoFar m log old before mid middle → Stops m old before fault.Memory new after
memory_stops m log old mid new before middle after right so_far = record {
  log = log;
  right = right;
  lines = so_far.lines;
  halts = memory_after old mid new before middle after so_far.lines so_far.took;
  entries = so_far.entries;
}

pub memory_behind : (m : Model) (state : State) (f : LineFault) (old mid new : Reader) (before middle after : Option (List ℕ)) → f ≡ fault.Memory → state.model ≡ m → Legal state.model state.log
    → IsReadSoFar m state.log old before mid middle → Stops m old before f new after
memory_behind m state f old mid new before middle after is model legal so_far =
    subst (λ (f : LineFault). Stops m old before f new after) (sym is) (memory_stops m state.log old mid new before middle after (inr (subst (λ (m : Model). Legal m state.log) model legal)) so_far)

pub memory_first : (m : Model) (f : LineFault) (old new : Reader) (before after : Option (List ℕ)) → f ≡ fault.Memory → old.failed ≡ None → Stops m old before f new after
memory_first m f old new before after is working =
    subst (λ (f : LineFault). Stops m old before f new after) (sym is) (memory_stops m [] old old new before before after (inl refl) (read_none m old before working))

pub gives_stops : (m : Model) (old new : Reader) (before after : Option (List ℕ)) (r : Result (Verdict × Option State) LineFault) (f : LineFault) → IsErrAnd r (λ given. given ≡ f) → Stops m old before f new after → Verifies m old before r new after
gives_stops m old new before after (Ok judged) f is stopped = absurd is
gives_stops m old new before after (Err given) f is stopped = subst (λ (f : LineFault). Stops m old before f new after) (sym is) stopped

pub follows_opening : (m : Model) (o : Options) (state : State) (old mid new : Reader) (before middle after : Option (List ℕ)) (line : List ℕ) (r : Result (Verdict × Option State) LineFault)
    → state.model ≡ m → state.log ≡ opening o ∷ [] → old.failed ≡ None → GetsMessage old before line mid middle → IsLineOf m line 0 (opening o)
    → ((first : Reader) (all : Option (List ℕ)) → IsReadSoFar state.model state.log first all mid middle → Verifies state.model first all r new after)
    → Verifies m old before r new after
follows_opening m o state old mid new before middle after line r model log working gets is next =
    subst (λ (m : Model). Verifies m old before r new after) model
    (next old before
    (subst (λ (log : List Entry). IsReadSoFar state.model log old before mid middle) (sym log)
    (subst (λ (m : Model). IsReadSoFar m (opening o ∷ []) old before mid middle) (sym model)
    (opened m o old mid before middle line working gets is))))
