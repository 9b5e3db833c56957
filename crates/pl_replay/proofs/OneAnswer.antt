-- Over the same bytes a reader gives the same lines, so one verdict is given.
use Rattle.std.proofs.Common.{◌≡◌, ℕ, ◌+◌, ◌⊎◌, inl, inr, Bool, false, not, List, [], ◌∷◌, ◌++◌, length, Option, Some, None, Result, Ok, Err, refl, sym, subst, ap, ◌∙◌, arith, length-append}
use Rattle.std.proofs.lemmas.List.{append-nil, nil_from_length}
use Rattle.std.proofs.lemmas.List.Elements.{filter-append}
use Rattle.pl_model.specs.declared.whole.Model.{Model}
use Rattle.pl_model.specs.Checked.{IsChecked}
use Rattle.pl_entry.specs.declared.entry.Entry.{Entry}
use Rattle.pl_journal.specs.Rendering.Lines.{text_of}
use Rattle.pl_io.specs.declared.errors.LineFault.{LineFault}
use Rattle.pl_io.specs.declared.errors.LineFault.TheVariants as fault
use Rattle.pl_io.specs.Lines.{after_line, Next, next_of, given, ended, line_too_long, input_too_long}
use Rattle.pl_io.specs.Reader.{Reader}
use Rattle.pl_input.specs.Words.{is_blank_line}
use Rattle.pl_machine.specs.World.{World}
use Rattle.pl_machine.specs.Legal.{Legal, world_of}
use Rattle.pl_machine.specs.Sound.{State}
use Rattle.pl_replay.specs.declared.verdict.Verdict.{Verdict}
use Rattle.pl_replay.specs.declared.verdict.Verdict.TheVariants as verdict
use Rattle.pl_input.specs.Reads.{GivesLine, GivesLines, GivesLinesKnown, WhyKnown}
use Rattle.pl_replay.specs.Journals.{entry_lines, lines_from, IsJournalOf, IsWrongAtLast}
use Rattle.pl_replay.specs.Verifying.{IsLegalJournal, IsNoJournal, Judges, Verified, Stops, Verifies}
use Rattle.pl_replay.specs.Holding.{HoldsLegal, HoldsWrong, HoldsNothing, Tells}
use Rattle.pl_replay.proofs.Verdicts.{IsRight, one_log, never_begins, right_never_begins, one_verdict}

-- ---- the same lines

given_line : (x y rest : List ℕ) → given x rest ≡ given y rest → x ≡ y
given_line x y rest same = cc

put_line : (x y : List ℕ) (xs ys : List (List ℕ)) → x ≡ y → xs ≡ ys → x ∷ xs ≡ y ∷ ys
put_line x y xs ys first rest = cc

one_room : (limit room : ℕ) (bytes x y : List ℕ) (left other : ℕ) → GivesLine limit room bytes x left → GivesLine limit room bytes y other → other ≡ left
one_room limit room bytes x y left other one two = omega (arith, one.leaves, two.leaves)

-- where some of the lines were read, these are read behind them
record GoesOn (limit left : ℕ) (rest : List ℕ) (xs ys : List (List ℕ)) (last : ℕ) (end : List ℕ) : Type 0 where
  more : List (List ℕ)
  is : ys ≡ xs ++ more
  took : GivesLines limit left rest more last end

fronts : (limit room : ℕ) (bytes : List ℕ) (xs ys : List (List ℕ)) (left last : ℕ) (rest end : List ℕ) → GivesLines limit room bytes xs left rest → GivesLines limit room bytes ys last end
    → GoesOn limit left rest xs ys last end ⊎ GoesOn limit last end ys xs left rest
fronts limit room bytes [] ys left last rest end one other =
    inl (record { more = ys; is = refl; took = subst (λ k. GivesLines limit k rest ys last end) (sym one.0) (subst (λ (b : List ℕ). GivesLines limit room b ys last end) (sym one.1) other) })
fronts limit room bytes (x ∷ xs) [] left last rest end one other =
    inr (record { more = x ∷ xs; is = refl; took = subst (λ k. GivesLines limit k end (x ∷ xs) left rest) (sym other.0) (subst (λ (b : List ℕ). GivesLines limit room b (x ∷ xs) left rest) (sym other.1) one) })
fronts limit room bytes (x ∷ xs) (y ∷ ys) left last rest end one other =
    by_rest (fronts limit one.0 (after_line bytes) xs ys left last rest end one.2 (subst (λ k. GivesLines limit k (after_line bytes) ys last end) (one_room limit room bytes x y one.0 other.0 one.1 other.1) other.2))
  where
    same : x ≡ y
    same = given_line x y (after_line bytes) (sym one.1.next ∙ other.1.next)

    by_rest : GoesOn limit left rest xs ys last end ⊎ GoesOn limit last end ys xs left rest → GoesOn limit left rest (x ∷ xs) (y ∷ ys) last end ⊎ GoesOn limit last end (y ∷ ys) (x ∷ xs) left rest
    by_rest (inl on) = inl (record { more = on.more; is = put_line y x ys (xs ++ on.more) (sym same) on.is; took = on.took })
    by_rest (inr on) = inr (record { more = on.more; is = put_line x y xs (ys ++ on.more) same on.is; took = on.took })

none_given : (limit room : ℕ) (line rest : List ℕ) → next_of limit room [] ≡ given line rest → ⊥
unfolding next_of
none_given limit room line rest is = let over : ended ≡ given line rest = is in (cc)

no_more : (limit left last : ℕ) (more : List (List ℕ)) (end : List ℕ) → GivesLines limit left [] more last end → more ≡ []
no_more limit left last [] end took = refl
no_more limit left last (line ∷ more) end took = absurd (none_given limit left line (after_line []) took.1.next)

-- ---- what a reader gave of bytes that are known

record GaveLines (old : Reader) (bytes : List ℕ) (lines : List (List ℕ)) (left : ℕ) (after : Option (List ℕ)) : Type 0 where
  rest : List ℕ
  is : after ≡ Some rest
  took : GivesLines old.limit old.room bytes lines left rest

gave : (old : Reader) (bytes : List ℕ) (lines : List (List ℕ)) (left : ℕ) (after : Option (List ℕ)) → GivesLinesKnown old.limit old.room (Some bytes) lines left after → GaveLines old bytes lines left after
gave old bytes lines left None took = absurd took
gave old bytes lines left (Some rest) took = record { rest = rest; is = refl; took = took }

none_left : (rest : List ℕ) (after : Option (List ℕ)) → after ≡ Some rest → after ≡ Some [] → rest ≡ []
none_left rest after is used = cc

record IsFront (xs ys : List (List ℕ)) : Type 0 where
  more : List (List ℕ)
  is : ys ≡ xs ++ more

entries_front : (xs ys more : List (List ℕ)) → ys ≡ xs ++ more → IsFront (entry_lines xs) (entry_lines ys)
entries_front xs ys more is = record { more = entry_lines more; is = ap (λ (ls : List (List ℕ)). entry_lines ls) is ∙ filter-append (λ line. not (is_blank_line line)) xs more }

one_front : (old : Reader) (bytes : List ℕ) (xs ys : List (List ℕ)) (left last : ℕ) (after end : Option (List ℕ)) → GaveLines old bytes xs left after → GaveLines old bytes ys last end
    → IsFront (entry_lines xs) (entry_lines ys) ⊎ IsFront (entry_lines ys) (entry_lines xs)
one_front old bytes xs ys left last after end one other = by_front (fronts old.limit old.room bytes xs ys left last one.rest other.rest one.took other.took)
  where
    by_front : GoesOn old.limit left one.rest xs ys last other.rest ⊎ GoesOn old.limit last other.rest ys xs left one.rest → IsFront (entry_lines xs) (entry_lines ys) ⊎ IsFront (entry_lines ys) (entry_lines xs)
    by_front (inl on) = inl (entries_front xs ys on.more on.is)
    by_front (inr on) = inr (entries_front ys xs on.more on.is)

-- where all bytes were read, no other reading has more lines
all_read : (old : Reader) (bytes : List ℕ) (xs ys : List (List ℕ)) (left last : ℕ) (after end : Option (List ℕ)) → GaveLines old bytes xs left after → after ≡ Some [] → GaveLines old bytes ys last end
    → IsFront (entry_lines ys) (entry_lines xs)
all_read old bytes xs ys left last after end one used other = by_front (fronts old.limit old.room bytes xs ys left last one.rest other.rest one.took other.took)
  where
    by_front : GoesOn old.limit left one.rest xs ys last other.rest ⊎ GoesOn old.limit last other.rest ys xs left one.rest → IsFront (entry_lines ys) (entry_lines xs)
    by_front (inl on) =
        let none : on.more ≡ [] = no_more old.limit left last on.more other.rest (subst (λ (b : List ℕ). GivesLines old.limit left b on.more last other.rest) (none_left one.rest after one.is used) on.took) in
        entries_front ys xs [] (sym (append-nil xs) ∙ (ap (λ (ls : List (List ℕ)). xs ++ ls) (sym none) ∙ (sym on.is ∙ sym (append-nil ys))))
    by_front (inr on) = entries_front ys xs on.more on.is

-- ---- one verdict

same_lines : (xs ys : List (List ℕ)) → IsFront xs ys → IsFront ys xs → xs ≡ ys
same_lines xs ys one other =
    let first : length ys ≡ length xs + length one.more = ap (λ (ls : List (List ℕ)). length ls) one.is ∙ length-append xs one.more in
    let second : length xs ≡ length ys + length other.more = ap (λ (ls : List (List ℕ)). length ls) other.is ∙ length-append ys other.more in
    let none : length one.more ≡ 0 = omega (arith, first, second) in
    sym (append-nil xs) ∙ (ap (λ (ls : List (List ℕ)). xs ++ ls) (sym (nil_from_length one.more none)) ∙ sym one.is)

abbrev state : Bool → Model → List Entry → World → State
state spoiled model log world = record { spoiled = spoiled; model = model; log = log; world = world }

state_is : (s t : State) → s.spoiled ≡ t.spoiled → s.model ≡ t.model → s.log ≡ t.log → s.world ≡ t.world → s ≡ t
state_is s t spoiled model log world =
    ap (λ x. state x s.model s.log s.world) spoiled ∙ (ap (λ x. state t.spoiled x s.log s.world) model ∙ (ap (λ x. state t.spoiled t.model x s.world) log ∙ ap (λ x. state t.spoiled t.model t.log x) world))

one_machine : (m : Model) (xs ys : List (List ℕ)) (v w : Verdict) (one other : State) (before after last end : Option (List ℕ)) → IsChecked m → xs ≡ ys
    → IsLegalJournal m xs v one before after → IsLegalJournal m ys w other last end → (v ≡ w) × (Some one ≡ Some other)
one_machine m xs ys v w one other before after last end checked same a b =
    let log : one.log ≡ other.log = one_log m ys one.log other.log checked (subst (λ (ls : List (List ℕ)). IsJournalOf m ls one.log) same a.journal) b.journal in
    let world : one.world ≡ other.world = a.world ∙ (ap (λ (l : List Entry). world_of m l) log ∙ sym b.world) in (
      a.verdict ∙ (ap (λ (l : List Entry). verdict.Legal (length l) one.world.done) log ∙ (ap (λ (x : World). verdict.Legal (length other.log) x.done) world ∙ sym b.verdict)),
      ap (λ (s : State). Some s) (state_is one other (a.unspoiled ∙ sym b.unspoiled) (a.model ∙ sym b.model) log world),
    )

legal_or_none : (m : Model) (lines : List (List ℕ)) (log : List Entry) → IsJournalOf m lines log → IsFront lines [] → ⊥
legal_or_none m lines [] is front = absurd is.legal
legal_or_none m lines (e ∷ es) is front =
    let shown : length lines ≡ length (text_of m 0 e ∷ lines_from m 1 es) = ap (λ (ls : List (List ℕ)). length ls) is.shows in
    let none : length (lines ++ front.more) ≡ 0 = ap (λ (ls : List (List ℕ)). length ls) (sym front.is) in
    omega (arith, shown, none, length-append lines front.more)

legal_or_wrong : (m : Model) (lines front : List (List ℕ)) (log : List Entry) (v : Verdict) → IsChecked m → IsJournalOf m lines log → IsWrongAtLast m front v → IsFront front lines → ⊥
legal_or_wrong m lines front log v checked is wrong begins = never_begins m log front begins.more v checked is.legal wrong (sym is.shows ∙ begins.is)

none_or_wrong : (m : Model) (front : List (List ℕ)) (v : Verdict) → IsChecked m → IsWrongAtLast m front v → IsFront front [] → ⊥
none_or_wrong m front v checked wrong begins = right_never_begins m [] front begins.more v checked (inl refl) wrong begins.is

one_wrong : (m : Model) (xs ys : List (List ℕ)) (v w : Verdict) → IsChecked m → IsWrongAtLast m xs v → IsWrongAtLast m ys w → IsFront xs ys ⊎ IsFront ys xs → v ≡ w
one_wrong m xs ys v w checked one other (inl front) = sym (one_verdict m ys xs front.more w v checked other one front.is).0
one_wrong m xs ys v w checked one other (inr front) = (one_verdict m xs ys front.more v w checked one other front.is).0

-- a verdict on bytes, and the lines for which it is given
record IsJudged (m : Model) (old : Reader) (bytes : List ℕ) (v : Verdict) (machine : Option State) : Type 0 where
  lines : List (List ℕ)
  left : ℕ
  after : Option (List ℕ)
  took : GivesLinesKnown old.limit old.room (Some bytes) lines left after
  judged : Judges m (entry_lines lines) v machine (Some bytes) after

judged_of : (m : Model) (old new : Reader) (bytes : List ℕ) (after : Option (List ℕ)) (v : Verdict) (machine : Option State) → Verified m old (Some bytes) v machine new after → IsJudged m old bytes v machine
judged_of m old new bytes after v machine a = record { lines = a.lines; left = new.room; after = after; took = a.took.gave; judged = a.judged }

read_of : (m : Model) (old : Reader) (bytes : List ℕ) (v : Verdict) (machine : Option State) (a : IsJudged m old bytes v machine) → GaveLines old bytes a.lines a.left a.after
read_of m old bytes v machine a = gave old bytes a.lines a.left a.after a.took

one_judgement : (m : Model) (old : Reader) (bytes : List ℕ) (v w : Verdict) (machine other : Option State) → IsChecked m → IsJudged m old bytes v machine → IsJudged m old bytes w other → (v ≡ w) × (machine ≡ other)
one_judgement m old bytes v w (Some one) (Some other) checked a b =
    let first = read_of m old bytes v (Some one) a in
    let second = read_of m old bytes w (Some other) b in
    one_machine m (entry_lines a.lines) (entry_lines b.lines) v w one other (Some bytes) a.after (Some bytes) b.after checked
    (same_lines (entry_lines a.lines) (entry_lines b.lines)
    (all_read old bytes b.lines a.lines b.left a.left b.after a.after second b.judged.used_up first)
    (all_read old bytes a.lines b.lines a.left b.left a.after b.after first a.judged.used_up second))
    a.judged b.judged
one_judgement m old bytes v w (Some one) None checked a b = absurd (by_other b.judged)
  where
    first : GaveLines old bytes a.lines a.left a.after
    first = read_of m old bytes v (Some one) a

    second : GaveLines old bytes b.lines b.left b.after
    second = read_of m old bytes w None b

    by_other : IsNoJournal (entry_lines b.lines) w (Some bytes) b.after ⊎ IsWrongAtLast m (entry_lines b.lines) w → ⊥
    by_other (inl none) = legal_or_none m (entry_lines a.lines) one.log a.judged.journal (subst (λ (ls : List (List ℕ)). IsFront (entry_lines a.lines) ls) none.none (all_read old bytes b.lines a.lines b.left a.left b.after a.after second none.used_up first))
    by_other (inr wrong) = legal_or_wrong m (entry_lines a.lines) (entry_lines b.lines) one.log w checked a.judged.journal wrong (all_read old bytes a.lines b.lines a.left b.left a.after b.after first a.judged.used_up second)
one_judgement m old bytes v w None (Some other) checked a b = absurd (by_one a.judged)
  where
    first : GaveLines old bytes a.lines a.left a.after
    first = read_of m old bytes v None a

    second : GaveLines old bytes b.lines b.left b.after
    second = read_of m old bytes w (Some other) b

    by_one : IsNoJournal (entry_lines a.lines) v (Some bytes) a.after ⊎ IsWrongAtLast m (entry_lines a.lines) v → ⊥
    by_one (inl none) = legal_or_none m (entry_lines b.lines) other.log b.judged.journal (subst (λ (ls : List (List ℕ)). IsFront (entry_lines b.lines) ls) none.none (all_read old bytes a.lines b.lines a.left b.left a.after b.after first none.used_up second))
    by_one (inr wrong) = legal_or_wrong m (entry_lines b.lines) (entry_lines a.lines) other.log v checked b.judged.journal wrong (all_read old bytes b.lines a.lines b.left a.left b.after a.after second b.judged.used_up first)
one_judgement m old bytes v w None None checked a b = (by_both a.judged b.judged, refl)
  where
    first : GaveLines old bytes a.lines a.left a.after
    first = read_of m old bytes v None a

    second : GaveLines old bytes b.lines b.left b.after
    second = read_of m old bytes w None b

    by_both : IsNoJournal (entry_lines a.lines) v (Some bytes) a.after ⊎ IsWrongAtLast m (entry_lines a.lines) v → IsNoJournal (entry_lines b.lines) w (Some bytes) b.after ⊎ IsWrongAtLast m (entry_lines b.lines) w → v ≡ w
    by_both (inl one) (inl other) = one.verdict ∙ sym other.verdict
    by_both (inl one) (inr other) = absurd (none_or_wrong m (entry_lines b.lines) w checked other (subst (λ (ls : List (List ℕ)). IsFront (entry_lines b.lines) ls) one.none (all_read old bytes a.lines b.lines a.left b.left a.after b.after first one.used_up second)))
    by_both (inr one) (inl other) = absurd (none_or_wrong m (entry_lines a.lines) v checked one (subst (λ (ls : List (List ℕ)). IsFront (entry_lines a.lines) ls) other.none (all_read old bytes b.lines a.lines b.left a.left b.after a.after second other.used_up first)))
    by_both (inr one) (inr other) = one_wrong m (entry_lines a.lines) (entry_lines b.lines) v w checked one other (one_front old bytes a.lines b.lines a.left b.left a.after b.after first second)

pub one_answer : (m : Model) (old new last : Reader) (bytes : List ℕ) (after rest : Option (List ℕ)) (v w : Verdict) (machine other : Option State) → IsChecked m
    → Verified m old (Some bytes) v machine new after → Verified m old (Some bytes) w other last rest → (v ≡ w) × (machine ≡ other)
one_answer m old new last bytes after rest v w machine other checked a b =
    one_judgement m old bytes v w machine other checked (judged_of m old new bytes after v machine a) (judged_of m old last bytes rest w other b)

-- ---- where a verdict is given, no limit is passed

-- no line is next, and some bytes are left
record IsBarred (limit left : ℕ) (rest : List ℕ) : Type 0 where
  no_line : (line behind : List ℕ) → next_of limit left rest ≡ given line behind → ⊥
  some : rest ≡ [] → ⊥

ended_here : (limit left : ℕ) (rest : List ℕ) → rest ≡ [] → next_of limit left rest ≡ ended
unfolding next_of
ended_here limit left [] none = refl
ended_here limit left (b ∷ bs) none = absurd (cc)

apart : (is : Next) (line behind : List ℕ) → (is ≡ line_too_long) ⊎ (is ≡ input_too_long) → is ≡ given line behind → ⊥
apart is line behind (inl long) got = cc
apart is line behind (inr long) got = cc

apart_ended : (is : Next) → (is ≡ line_too_long) ⊎ (is ≡ input_too_long) → is ≡ ended → ⊥
apart_ended is (inl long) over = cc
apart_ended is (inr long) over = cc

barred : (limit left : ℕ) (rest : List ℕ) → (next_of limit left rest ≡ line_too_long) ⊎ (next_of limit left rest ≡ input_too_long) → IsBarred limit left rest
barred limit left rest why = record {
  no_line = λ line behind is. apart (next_of limit left rest) line behind why is;
  some = λ none. apart_ended (next_of limit left rest) why (ended_here limit left rest none);
}

barred_no_more : (limit left last : ℕ) (rest end : List ℕ) (more : List (List ℕ)) → IsBarred limit left rest → GivesLines limit left rest more last end → more ≡ []
barred_no_more limit left last rest end [] bar took = refl
barred_no_more limit left last rest end (line ∷ more) bar took = absurd (bar.no_line line (after_line rest) took.1.next)

-- what was read up to a bar begins with what any reading gave
up_to_bar : (old : Reader) (bytes : List ℕ) (xs ys : List (List ℕ)) (left last : ℕ) (after end : Option (List ℕ)) (stop : GaveLines old bytes xs left after) → IsBarred old.limit left stop.rest → GaveLines old bytes ys last end
    → IsFront (entry_lines ys) (entry_lines xs)
up_to_bar old bytes xs ys left last after end stop bar other = by_front (fronts old.limit old.room bytes xs ys left last stop.rest other.rest stop.took other.took)
  where
    by_front : GoesOn old.limit left stop.rest xs ys last other.rest ⊎ GoesOn old.limit last other.rest ys xs left stop.rest → IsFront (entry_lines ys) (entry_lines xs)
    by_front (inl on) =
        let none : on.more ≡ [] = barred_no_more old.limit left last stop.rest other.rest on.more bar on.took in
        entries_front ys xs [] (sym (append-nil xs) ∙ (ap (λ (ls : List (List ℕ)). xs ++ ls) (sym none) ∙ (sym on.is ∙ sym (append-nil ys))))
    by_front (inr on) = entries_front ys xs on.more on.is

none_behind : (limit left last : ℕ) (rest end : List ℕ) (more : List (List ℕ)) → more ≡ [] → GivesLines limit left rest more last end → end ≡ rest
none_behind limit left last rest end [] none took = took.1
none_behind limit left last rest end (line ∷ more) none took = absurd (cc)

not_all_read : (old : Reader) (bytes : List ℕ) (xs ys : List (List ℕ)) (left last : ℕ) (after end : Option (List ℕ)) (stop : GaveLines old bytes xs left after) → IsBarred old.limit left stop.rest → GaveLines old bytes ys last end
    → end ≡ Some [] → ⊥
not_all_read old bytes xs ys left last after end stop bar other used = by_front (fronts old.limit old.room bytes xs ys left last stop.rest other.rest stop.took other.took)
  where
    over : other.rest ≡ []
    over = none_left other.rest end other.is used

    by_front : GoesOn old.limit left stop.rest xs ys last other.rest ⊎ GoesOn old.limit last other.rest ys xs left stop.rest → ⊥
    by_front (inl on) =
        bar.some (sym (none_behind old.limit left last stop.rest other.rest on.more (barred_no_more old.limit left last stop.rest other.rest on.more bar on.took) on.took) ∙ over)
    by_front (inr on) =
        let took : GivesLines old.limit last [] on.more left stop.rest = subst (λ (b : List ℕ). GivesLines old.limit last b on.more left stop.rest) over on.took in
        bar.some (none_behind old.limit last left [] stop.rest on.more (no_more old.limit last left on.more stop.rest took) took)

never_barred : (m : Model) (old : Reader) (bytes : List ℕ) (v : Verdict) (machine : Option State) (log : List Entry) (lines : List (List ℕ)) (left : ℕ) (rest : Option (List ℕ))
    → IsChecked m → IsJudged m old bytes v machine → IsRight m log → entry_lines lines ≡ lines_from m 0 log → (stop : GaveLines old bytes lines left rest) → IsBarred old.limit left stop.rest → ⊥
never_barred m old bytes v (Some machine) log lines left rest checked a right shown stop bar =
    not_all_read old bytes lines a.lines left a.left rest a.after stop bar (read_of m old bytes v (Some machine) a) a.judged.used_up
never_barred m old bytes v None log lines left rest checked a right shown stop bar = by_judged a.judged
  where
    lines_read : GaveLines old bytes a.lines a.left a.after
    lines_read = read_of m old bytes v None a

    by_judged : IsNoJournal (entry_lines a.lines) v (Some bytes) a.after ⊎ IsWrongAtLast m (entry_lines a.lines) v → ⊥
    by_judged (inl none) = not_all_read old bytes lines a.lines left a.left rest a.after stop bar lines_read none.used_up
    by_judged (inr wrong) =
        let front = up_to_bar old bytes lines a.lines left a.left rest a.after stop bar lines_read in
        right_never_begins m log (entry_lines a.lines) front.more v checked right wrong (sym shown ∙ front.is)

stops_barred : (m : Model) (old : Reader) (bytes : List ℕ) (v : Verdict) (machine : Option State) (f : LineFault) (log : List Entry) (lines : List (List ℕ)) (left : ℕ) (rest : Option (List ℕ))
    → IsChecked m → IsJudged m old bytes v machine → IsRight m log → entry_lines lines ≡ lines_from m 0 log → GivesLinesKnown old.limit old.room (Some bytes) lines left rest → WhyKnown old.limit left rest f
    → (f ≡ fault.Read) ⊎ (f ≡ fault.Memory)
stops_barred m old bytes v machine f log lines left None checked a right shown took why = absurd took
stops_barred m old bytes v machine fault.Read log lines left (Some rest) checked a right shown took why = inl refl
stops_barred m old bytes v machine (fault.Long n) log lines left (Some rest) checked a right shown took why =
    absurd (never_barred m old bytes v machine log lines left (Some rest) checked a right shown (record { rest = rest; is = refl; took = took }) (barred old.limit left rest (inl why)))
stops_barred m old bytes v machine fault.Total log lines left (Some rest) checked a right shown took why =
    absurd (never_barred m old bytes v machine log lines left (Some rest) checked a right shown (record { rest = rest; is = refl; took = took }) (barred old.limit left rest (inr why)))
stops_barred m old bytes v machine fault.Memory log lines left (Some rest) checked a right shown took why = inr refl

judged_or_stopped : (m : Model) (old new : Reader) (bytes : List ℕ) (after : Option (List ℕ)) (v : Verdict) (machine : Option State) (f : LineFault) → IsChecked m → IsJudged m old bytes v machine → Stops m old (Some bytes) f new after → (f ≡ fault.Read) ⊎ (f ≡ fault.Memory)
judged_or_stopped m old new bytes after v machine f checked a stops = stops_barred m old bytes v machine f stops.log stops.lines stops.halts.left stops.halts.rest checked a stops.right stops.entries stops.halts.gave stops.halts.why

pub faults_of_the_moment : (m : Model) (old new last : Reader) (bytes : List ℕ) (after rest : Option (List ℕ)) (v : Verdict) (machine : Option State) (f : LineFault) → IsChecked m
    → Verified m old (Some bytes) v machine new after → Stops m old (Some bytes) f last rest → (f ≡ fault.Read) ⊎ (f ≡ fault.Memory)
faults_of_the_moment m old new last bytes after rest v machine f checked a stops = judged_or_stopped m old last bytes rest v machine f checked (judged_of m old new bytes after v machine a) stops

-- ---- what is answered of an input

tells : (m : Model) (old new : Reader) (bytes : List ℕ) (after : Option (List ℕ)) (v : Verdict) (machine : Option State) (answer : Result (Verdict × Option State) LineFault) → IsChecked m
    → IsJudged m old bytes v machine → Verifies m old (Some bytes) answer new after → Tells answer v machine
tells m old new bytes after v machine (Ok judged) checked is answers =
    one_judgement m old bytes judged.0 v judged.1 machine checked (judged_of m old new bytes after judged.0 judged.1 answers) is
tells m old new bytes after v machine (Err f) checked is answers = judged_or_stopped m old new bytes after v machine f checked is answers

pub legal_is_told : (m : Model) (old new : Reader) (bytes : List ℕ) (after : Option (List ℕ)) (log : List Entry) (answer : Result (Verdict × Option State) LineFault) → IsChecked m
    → HoldsLegal m old bytes log → Verifies m old (Some bytes) answer new after → Tells answer (verdict.Legal (length log) (world_of m log).done) (Some (record { spoiled = false; model = m; log = log; world = world_of m log }))
legal_is_told m old new bytes after log answer checked holds answers =
    tells m old new bytes after (verdict.Legal (length log) (world_of m log).done) (Some (record { spoiled = false; model = m; log = log; world = world_of m log })) answer checked
    (record { lines = holds.lines; left = holds.left; after = Some []; took = holds.all; judged = record { verdict = refl; journal = holds.journal; unspoiled = refl; model = refl; world = refl; used_up = refl } })
    answers

pub wrong_is_told : (m : Model) (old new : Reader) (bytes : List ℕ) (after : Option (List ℕ)) (v : Verdict) (answer : Result (Verdict × Option State) LineFault) → IsChecked m
    → HoldsWrong m old bytes v → Verifies m old (Some bytes) answer new after → Tells answer v None
wrong_is_told m old new bytes after v answer checked holds answers =
    tells m old new bytes after v None answer checked (record { lines = holds.lines; left = holds.left; after = Some holds.rest; took = holds.front; judged = inr holds.wrong }) answers

pub nothing_is_told : (m : Model) (old new : Reader) (bytes : List ℕ) (after : Option (List ℕ)) (answer : Result (Verdict × Option State) LineFault) → IsChecked m
    → HoldsNothing old bytes → Verifies m old (Some bytes) answer new after → Tells answer (verdict.NotALine 0) None
nothing_is_told m old new bytes after answer checked holds answers =
    tells m old new bytes after (verdict.NotALine 0) None answer checked (record { lines = holds.lines; left = holds.left; after = Some []; took = holds.all; judged = inl (record { verdict = refl; none = holds.none; used_up = refl }) }) answers
