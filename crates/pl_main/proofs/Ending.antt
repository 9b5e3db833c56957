-- The end of a run of one thread over an input: from its head, and from what was played.
use Rattle.std.proofs.Common.{◌≡◌, ℕ, ◌≤◌, List, [], ◌∷◌, ◌++◌, length, drop, true, false, Option, Some, None, ◌⊎◌, inl, inr, Err, refl, sym, ◌∙◌, ap, subst, append_assoc, arith}
use Rattle.std.proofs.lemmas.List.{append-nil}
use Rattle.std.specs.declared.vec.Vec.{Vec}
use Rattle.std.specs.declared.alloc.Global.{Global}
use Rattle.pl_io.specs.Lines.{ahead, lines_of}
use Rattle.pl_io.specs.Writes.{AppendsFront}
use Rattle.pl_model.specs.declared.whole.Model.{Model}
use Rattle.pl_entry.specs.declared.entry.Entry.{Entry}
use Rattle.pl_input.specs.Words.{model_text_of, messages_of, split_of}
use Rattle.pl_machine.specs.World.{World, fresh_world}
use Rattle.pl_machine.specs.Legal.{Legal, opening, world_from, world_of}
use Rattle.pl_main.specs.Solo.{Rule, follows, FollowsAll}
use Rattle.pl_machine.specs.Finished.{inputs_of}
use Rattle.pl_machine.specs.Sound.{State}
use Rattle.pl_driver.specs.Rounds.{SameRun}
use Rattle.pl_journal.specs.Rendering.Lines.{line_of, text_from, text_of_log}
use Rattle.pl_check.specs.Accepting.{IsModelText}
use Rattle.pl_input.specs.declared.halt.Halt.{Halt}
use Rattle.pl_input.specs.declared.halt.Halt.TheVariants as halt
use Rattle.pl_input.specs.Reads.{GivesLines}
use Rattle.pl_input.specs.Stops.{ReadLeaves, LimitLeaves, StopsBy}
use Rattle.pl_input.specs.Waits.{line_in}
use Rattle.pl_input.specs.Heads.{IsHead, IsBegun}
use Rattle.pl_main.specs.Tells.{FillsUp, at_once, within}
use Rattle.pl_journal.specs.Written.{Adds, WriteStops}
use Rattle.pl_input.specs.Places.{Place}
use Rattle.pl_main.specs.Plays.{AnswersMessages, EndsAll, AnswersAll, AnswersUntilHalt, AnswersNextUntilFull, AnswersUntil, AnswersAllOrStops}
use Rattle.pl_main.specs.Runs.{fresh_state, unopened, in_opening, in_play, ModelRuns, IsKeptModel}
use Rattle.pl_main.specs.Top.{ShowsNoLine, ShowsLimit, program_options, line_limit, total_limit, fresh_reader, HasRead}
use Rattle.pl_input.proofs.Reading.{gave_append, gave_lines, known}
use Rattle.pl_input.proofs.Beginning.{head_then}
use Rattle.pl_journal.proofs.AboutWriting.{adds_then}
use Rattle.pl_main.proofs.Playing.{inputs_append, joined}
use Rattle.pl_main.proofs.LastLines.{BeginsAt, GotNext, all_messages, behind_text, ends_all, ends_behind, ends_last, ends_read, ends_some, ends_used_up, got_next, has_read, read_to}
use Rattle.pl_main.specs.Endings.{IsDone, IsFull, IsPastLimit, IsReadFault, WaitsBehind}
use Rattle.pl_main.proofs.Heading.{shows_limit, shows_none, split_is}
use Rattle.pl_main.specs.RunKinds.{run_by}
use Rattle.pl_machine.proofs.ShortLogs.{log_is_short}

-- ---- a run over a model

pub run_stops : (R : Rule) (turns : ℕ) (m : Model) (start place : Place) (held opened now : Option (List ℕ)) (e : Halt) (new : State)
    → Adds held opened (text_from m 0 (opening (program_options turns) ∷ [])) → AnswersAllOrStops R (fresh_state turns m) start opened (Err e) new place now → Legal new.model new.log → ModelRuns R turns m start held (Err e) place now
run_stops R turns m start place held opened now halt.Limit new first playing legal = record { opened = opened; new = new; first = first; playing = playing; legal = legal }
run_stops R turns m start place held opened now halt.Full new first playing legal = record { opened = opened; new = new; first = first; playing = playing; legal = legal }
run_stops R turns m start place held opened now halt.Read new first playing legal = record { opened = opened; new = new; first = first; playing = playing; legal = legal }
run_stops R turns m start place held opened now halt.Write new first playing legal = in_play (record { opened = opened; new = new; first = first; playing = playing; legal = legal })
run_stops R turns m start place held opened now halt.Memory new first playing legal = in_play (record { opened = opened; new = new; first = first; playing = playing; legal = legal })

-- memory was wanting for the machine
pub run_unopened : {R : Rule} (turns : ℕ) (m : Model) (start : Place) (held : Option (List ℕ)) → ModelRuns R turns m start held (Err halt.Memory) start held
run_unopened turns m start held = unopened refl refl

-- the open entry's line was not written whole
pub run_unwritten : (R : Rule) (turns : ℕ) (m : Model) (start : Place) (held now : Option (List ℕ)) (e : Halt) (faults later : ℕ) → Legal m (opening (program_options turns) ∷ []) → AppendsFront held now (text_from m 0 (opening (program_options turns) ∷ []))
    → WriteStops faults later e → ModelRuns R turns m start held (Err e) start now
run_unwritten R turns m start held now halt.Write faults later legal front cause = in_opening legal front refl
run_unwritten R turns m start held now halt.Memory faults later legal front cause = in_opening legal front refl
run_unwritten R turns m start held now halt.Read faults later legal front cause = absurd cause
run_unwritten R turns m start held now halt.Limit faults later legal front cause = absurd cause
run_unwritten R turns m start held now halt.Full faults later legal front cause = absurd cause

-- ---- what was logged

pub record IsLogged (R : Rule) (turns : ℕ) (m : Model) (new : State) (held now : Option (List ℕ)) (entries : List Entry) : Type 0 where
  pub legal : Legal m (opening (program_options turns) ∷ entries)
  pub solo : FollowsAll R m (opening (program_options turns) ∷ entries)
  pub world : new.world ≡ world_of m (opening (program_options turns) ∷ entries)
  pub text : Adds held now (text_of_log m (opening (program_options turns) ∷ entries))

pub logged : {R : Rule} (turns : ℕ) (m : Model) (new : State) (held opened now : Option (List ℕ)) (entries : List Entry)
    → Legal new.model new.log → SameRun (fresh_state turns m) new → new.log ≡ opening (program_options turns) ∷ entries
    → follows R (fresh_world m (program_options turns)) entries → new.world ≡ world_from (fresh_world m (program_options turns)) entries
    → Adds held opened (text_from m 0 (opening (program_options turns) ∷ [])) → Adds opened now (text_from m 1 entries) → IsLogged R turns m new held now entries
unfolding FollowsAll world_of
logged turns m new held opened now entries legal same log solo world first text = record {
  legal = subst (λ (x : Model). Legal x (opening (program_options turns) ∷ entries)) same.model (subst (λ (l : List Entry). Legal new.model l) log legal);
  solo = solo;
  world = world;
  text = subst (λ (t : List ℕ). Adds held now (t ++ text_from m 1 entries)) (append-nil (line_of m 0 (opening (program_options turns)))) (adds_then held opened now (text_from m 0 (opening (program_options turns) ∷ [])) (text_from m 1 entries) first text);
}

-- ---- how runs end

abbrev pub done_ends : {R : Rule} (turns : ℕ) (input words heads_rest : List ℕ) (heads : List (List ℕ)) (m : Model) (start place : Place) (source_left held opened now : Option (List ℕ)) (new : State)
    → IsHead heads words → GivesLines line_limit total_limit input heads start.reader.room heads_rest → start.ahead ≡ Some heads_rest → BeginsAt start → IsModelText words m
    → Adds held opened (text_from m 0 (opening (program_options turns) ∷ [])) → AnswersAll R (fresh_state turns m) start opened new place now → Legal new.model new.log → ahead place.reader.held source_left ≡ place.ahead → IsDone (run_by R turns) input source_left held now
done_ends turns input words heads_rest heads m start place source_left held opened now new head gave is_ahead begins accepted first plays legal behind =
    let k = known start.reader.limit start.reader.room line_limit start.reader.room start.ahead heads_rest plays.lines place.reader.room place.ahead begins.limit refl is_ahead plays.gave in
    let ends = subst (λ (a : Option (List ℕ)). EndsAll (Some heads_rest) a plays.lines (inputs_of plays.entries)) k.is (subst (λ (b : Option (List ℕ)). EndsAll b place.ahead plays.lines (inputs_of plays.entries)) is_ahead plays.messages) in
    let split = split_is input heads words (lines_of heads_rest) head (gave_lines line_limit total_limit input heads start.reader.room heads_rest gave) in
    let both = head_then heads words plays.lines head in
    let l = logged turns m new held opened now plays.entries legal plays.same plays.log plays.solo plays.world first plays.written in
    record {
      model = m;
      log = opening (program_options turns) ∷ plays.entries;
      words = words;
      text = split.text;
      accepted = accepted;
      finished = record {
        legal = l.legal;
        done = ap (λ (w : World). w.done) (sym l.world) ∙ plays.done;
        inputs = sym (ends_all k.rest plays.lines (inputs_of plays.entries) ends) ∙ sym (ap messages_of (gave_lines line_limit start.reader.room heads_rest plays.lines place.reader.room k.rest k.gave)) ∙ sym split.messages;
      };
      closed = ap (λ (w : World). w.closed) (sym l.world) ∙ plays.closed;
      says = record { legal = l.legal; solo = l.solo; options = refl };
      read = record {
        lines = heads ++ plays.lines;
        left = place.reader.room;
        rest = k.rest;
        more = [];
        gave = gave_append line_limit total_limit input heads plays.lines start.reader.room heads_rest place.reader.room k.rest gave k.gave;
        text = both.0;
        behind = ap messages_of both.1 ∙ ends_read k.rest plays.lines (inputs_of plays.entries) ends ∙ sym (append-nil (inputs_of plays.entries));
        no_others = inl refl;
        no_further = λ front line e. (let last = ends_last k.rest plays.lines (inputs_of plays.entries) front line ends e in ends_behind heads plays.lines last.0 line last.1);
        used_up = λ front e. ends_used_up k.rest plays.lines (inputs_of plays.entries) front ends e;
        none = λ e. absurd (ends_some k.rest plays.lines (inputs_of plays.entries) ends e);
        source = read_to place source_left k.rest (plays.few begins.few) behind k.is;
      };
      written = l.text;
    }

-- the lines behind which no line was given
pub record IsStopped (R : Rule) (e : Halt) (turns : ℕ) (input : List ℕ) (source_left held now : Option (List ℕ)) : Type 0 where
  pub lines : List (List ℕ)
  pub left : ℕ
  pub rest : List ℕ
  pub gave : GivesLines line_limit total_limit input lines left rest
  pub why : StopsBy e line_limit left (Some rest)
  pub source : e ≡ halt.Read → ShowsNoLine line_limit left rest source_left
  pub past : e ≡ halt.Limit → ShowsLimit line_limit left rest source_left
  pub asked : ((model_text_of lines ≡ None) × (now ≡ held)) ⊎ WaitsBehind (run_by R turns) lines held now

pub past_limit : {R : Rule} (turns : ℕ) (input : List ℕ) (source_left held now : Option (List ℕ)) → IsStopped R halt.Limit turns input source_left held now → IsPastLimit (run_by R turns) input source_left held now
past_limit turns input source_left held now s = record { lines = s.lines; left = s.left; rest = s.rest; gave = s.gave; why = s.why; source = s.past refl; asked = s.asked }

pub read_fault : {R : Rule} (turns : ℕ) (input : List ℕ) (source_left held now : Option (List ℕ)) → IsStopped R halt.Read turns input source_left held now → IsReadFault (run_by R turns) input source_left held now
read_fault turns input source_left held now s = record { lines = s.lines; left = s.left; rest = s.rest; gave = s.gave; source = s.source refl; asked = s.asked }

pub stopped_ends : {R : Rule} (e : Halt) (turns : ℕ) (input words heads_rest : List ℕ) (heads : List (List ℕ)) (m : Model) (start place : Place) (source_left held opened now : Option (List ℕ)) (new : State)
    → IsHead heads words → GivesLines line_limit total_limit input heads start.reader.room heads_rest → start.ahead ≡ Some heads_rest → BeginsAt start → IsModelText words m
    → Adds held opened (text_from m 0 (opening (program_options turns) ∷ [])) → AnswersUntilHalt R e (fresh_state turns m) start opened new place now → Legal new.model new.log → ahead place.reader.held source_left ≡ place.ahead → IsStopped R e turns input source_left held now
stopped_ends e turns input words heads_rest heads m start place source_left held opened now new head gave is_ahead begins accepted first plays legal behind =
    let k = known start.reader.limit start.reader.room line_limit start.reader.room start.ahead heads_rest plays.lines plays.left plays.rest begins.limit refl is_ahead plays.gave in
    let both = head_then heads words plays.lines head in
    let l = logged turns m new held opened now plays.entries legal plays.same plays.log plays.solo plays.world first plays.written in
    record {
      lines = heads ++ plays.lines;
      left = plays.left;
      rest = k.rest;
      gave = gave_append line_limit total_limit input heads plays.lines start.reader.room heads_rest plays.left k.rest gave k.gave;
      why = subst (λ (r : Option (List ℕ)). StopsBy e line_limit plays.left r) k.is (subst (λ n. StopsBy e n plays.left plays.rest) begins.limit plays.why);
      source = λ read.
          shows_none line_limit plays.left plays.rest k.rest place.reader.held place.ahead source_left
          (subst (λ n. ReadLeaves n plays.left plays.rest place.reader.held place.ahead) begins.limit (plays.leaves read)) k.is behind;
      past = λ over.
          shows_limit line_limit plays.left plays.rest k.rest place.reader.held place.ahead source_left
          (subst (λ n. LimitLeaves n plays.left plays.rest place.reader.held place.ahead) begins.limit (plays.past over begins.few)) k.is behind;
      asked = inr record {
        model = m;
        log = opening (program_options turns) ∷ plays.entries;
        words = words;
        text = both.0;
        accepted = accepted;
        says = record { legal = l.legal; solo = l.solo; options = refl };
        messages = ap messages_of both.1 ∙ plays.messages;
        closed = ap (λ (w : World). w.closed) (sym l.world) ∙ plays.ready.closed;
        going = ap (λ (w : World). w.done) (sym l.world) ∙ plays.ready.going;
        written = l.text;
      };
    }

-- ---- a log that is full

-- what the log of a filled run holds
record IsFilled (R : Rule) (turns : ℕ) (m : Model) (new : State) (opened now : Option (List ℕ)) (before : List (Option (List ℕ))) (next : Option (List ℕ)) : Type 0 where
  entries : List Entry
  log : new.log ≡ opening (program_options turns) ∷ entries
  solo : follows R (fresh_world m (program_options turns)) entries
  world : new.world ≡ world_from (fresh_world m (program_options turns)) entries
  same : SameRun (fresh_state turns m) new
  going : new.world.done ≡ false
  full : 250000 ≤ length new.log
  text : Adds opened now (text_from m 1 entries)
  due : ((new.world.closed ≡ false) × (inputs_of entries ≡ before ++ next ∷ [])) ⊎ ((new.world.closed ≡ true) × (inputs_of entries ≡ before))

filled : {R : Rule} (turns : ℕ) (m : Model) (start place behind : Place) (opened written now : Option (List ℕ)) (mid new : State) (input : Option (List ℕ))
    → (plays : AnswersMessages R (fresh_state turns m) start opened mid place written) → FillsUp R mid input new → Adds written now (text_from mid.model (length mid.log) (drop (length mid.log) new.log)) → IsFilled R turns m new opened now (inputs_of plays.entries) input
filled turns m start place behind opened written now mid new input plays (at_once full is) text =
    let j = joined (fresh_state turns m) mid new opened written now plays.entries [] plays.log plays.solo plays.world plays.same plays.written
    (ap (λ (s : State). s.log) is ∙ sym (append-nil mid.log)) tt (ap (λ (s : State). s.world) is)
    record { model = ap (λ (s : State). s.model) is; options = ap (λ (s : State). s.world.options) is } text in
    record {
      entries = plays.entries ++ [];
      log = j.log;
      solo = j.solo;
      world = j.world;
      same = j.same;
      going = ap (λ (s : State). s.world.done) is ∙ plays.ready.going;
      full = subst (λ (n : ℕ). 250000 ≤ n) (ap (λ (s : State). length s.log) (sym is)) (subst (λ (n : ℕ). n ≤ length mid.log) (ap (λ o. o.entries) plays.same.options) full);
      text = j.text;
      due = inr (ap (λ (s : State). s.world.closed) is ∙ plays.ready.closed, ap inputs_of (append-nil plays.entries));
    }
filled turns m start place behind opened written now mid new input plays (within told) text =
    let j = joined (fresh_state turns m) mid new opened written now plays.entries told.entries plays.log plays.solo plays.world plays.same plays.written told.log told.solo told.world told.same text in
    record {
      entries = plays.entries ++ told.entries;
      log = j.log;
      solo = j.solo;
      world = j.world;
      same = j.same;
      going = told.going;
      full = subst (λ (n : ℕ). n ≤ length new.log) (ap (λ o. o.entries) plays.same.options) told.full;
      text = j.text;
      due = inl (told.open_round, inputs_append plays.entries told.entries ∙ ap (λ (ns : List (Option (List ℕ))). inputs_of plays.entries ++ ns) told.inputs);
    }

between : (n : ℕ) → n ≤ 250000 → 250000 ≤ n → n ≡ 250000
between n low high = omega (arith, low, high)

-- what is unanswered behind a log that is full, and why an entry is due
record LeavesMore (m : Model) (log : List Entry) (words input : List ℕ) (source_left : Option (List ℕ)) : Type 0 where
  unanswered : List (Option (List ℕ))
  messages : (split_of input).messages ≡ inputs_of log ++ unanswered
  pending : List (Option (List ℕ))
  read : HasRead words (inputs_of log ++ pending) input source_left
  due : (((world_of m log).closed ≡ false) × (pending ≡ [])) ⊎ (((world_of m log).closed ≡ true) × ((message : Option (List ℕ)) × ((pending ≡ message ∷ []) × ((others : List (Option (List ℕ))) × (unanswered ≡ message ∷ others)))))

leaves_more : (m : Model) (log : List Entry) (input : List ℕ) (heads lines : List (List ℕ)) (words : List ℕ) (room mid : ℕ) (heads_rest bytes : List ℕ) (before : List (Option (List ℕ))) (next : Option (List ℕ)) (place : Place) (source_left : Option (List ℕ))
    → IsHead heads words → GivesLines line_limit total_limit input heads room heads_rest → GivesLines line_limit room heads_rest lines mid bytes → messages_of lines ≡ before ++ None ∷ [] → GotNext next mid bytes place
    → ahead place.reader.held source_left ≡ place.ahead → (((world_of m log).closed ≡ false) × (inputs_of log ≡ before ++ next ∷ [])) ⊎ (((world_of m log).closed ≡ true) × (inputs_of log ≡ before)) → LeavesMore m log words input source_left
leaves_more m log input heads lines words room mid heads_rest bytes before next place source_left head gave gave2 so_far got behind due = by_due due
  where
    whole : (split_of input).messages ≡ before ++ next ∷ got.all.more
    whole = all_messages input words heads lines room mid heads_rest bytes before next place head gave gave2 so_far got

    read : HasRead words (before ++ next ∷ []) input source_left
    read = has_read input words heads lines room mid heads_rest bytes before next place source_left head gave gave2 so_far got behind

    by_due : (((world_of m log).closed ≡ false) × (inputs_of log ≡ before ++ next ∷ [])) ⊎ (((world_of m log).closed ≡ true) × (inputs_of log ≡ before)) → LeavesMore m log words input source_left
    by_due (inl both) = record {
      unanswered = got.all.more;
      messages = whole ∙ sym (append_assoc before (next ∷ []) got.all.more) ∙ ap (λ (ns : List (Option (List ℕ))). ns ++ got.all.more) (sym both.1);
      pending = [];
      read = subst (λ (ns : List (Option (List ℕ))). HasRead words ns input source_left) (sym (append-nil (inputs_of log) ∙ both.1)) read;
      due = inl (both.0, refl);
    }
    by_due (inr both) = record {
      unanswered = next ∷ got.all.more;
      messages = whole ∙ ap (λ (ns : List (Option (List ℕ))). ns ++ next ∷ got.all.more) (sym both.1);
      pending = next ∷ [];
      read = subst (λ (ns : List (Option (List ℕ))). HasRead words ns input source_left) (ap (λ (ns : List (Option (List ℕ))). ns ++ next ∷ []) (sym both.1)) read;
      due = inr (both.0, (next, (refl, (got.all.more, refl))));
    }

pub full_ends : {R : Rule} (turns : ℕ) (input words heads_rest : List ℕ) (heads : List (List ℕ)) (m : Model) (start place : Place) (source_left held opened now : Option (List ℕ)) (new : State)
    → IsHead heads words → GivesLines line_limit total_limit input heads start.reader.room heads_rest → start.ahead ≡ Some heads_rest → BeginsAt start → IsModelText words m
    → Adds held opened (text_from m 0 (opening (program_options turns) ∷ [])) → AnswersUntil R (AnswersNextUntilFull R) (fresh_state turns m) start opened new place now → Legal new.model new.log → ahead place.reader.held source_left ≡ place.ahead → IsFull (run_by R turns) input source_left held now
full_ends turns input words heads_rest heads m start place source_left held opened now new head gave is_ahead begins accepted first plays legal behind =
    let f = filled turns m start plays.middle place opened plays.written now plays.waiting new (line_in plays.step.message) plays.plays plays.step.fills plays.step.written in
    let split = split_is input heads words (lines_of heads_rest) head (gave_lines line_limit total_limit input heads start.reader.room heads_rest gave) in
    let l = logged turns m new held opened now f.entries legal f.same f.log f.solo f.world first f.text in
    let k = known start.reader.limit start.reader.room line_limit start.reader.room start.ahead heads_rest plays.plays.lines plays.middle.reader.room plays.middle.ahead begins.limit refl is_ahead plays.plays.took.gave in
    let middle : BeginsAt plays.middle = record { limit = plays.plays.took.limit ∙ begins.limit; few = plays.plays.took.few begins.few } in
    let got = got_next plays.middle place k.rest plays.step.message middle k.is plays.step.gets in
    let more = leaves_more m (opening (program_options turns) ∷ f.entries) input heads plays.plays.lines words start.reader.room plays.middle.reader.room heads_rest k.rest (inputs_of plays.plays.entries) (line_in plays.step.message) place source_left head gave k.gave plays.plays.messages got behind
    (subst (λ (w : World). ((w.closed ≡ false) × (inputs_of f.entries ≡ inputs_of plays.plays.entries ++ line_in plays.step.message ∷ [])) ⊎ ((w.closed ≡ true) × (inputs_of f.entries ≡ inputs_of plays.plays.entries))) l.world f.due) in
    record {
      model = m;
      log = opening (program_options turns) ∷ f.entries;
      words = words;
      text = split.text;
      accepted = accepted;
      says = record { legal = l.legal; solo = l.solo; options = refl };
      unanswered = more.unanswered;
      messages = more.messages;
      full = ap (λ (es : List Entry). length es) (sym f.log) ∙ between (length new.log) (log_is_short new.model new.log legal) f.full;
      going = ap (λ (w : World). w.done) (sym l.world) ∙ f.going;
      pending = more.pending;
      read = more.read;
      due = more.due;
      written = l.text;
    }

-- a run that is done, with the log and the world that its machine is left with
pub record IsDoneWith (R : Rule) (turns : ℕ) (input : List ℕ) (source_left : Option (List ℕ)) (new : State) : Type 0 where
  pub done : IsDone (run_by R turns) input source_left None None
  pub log : new.log ≡ done.log
  pub world : new.world ≡ world_of done.model done.log

pub done_with : {R : Rule} (turns : ℕ) (kept : Option (Vec ℕ Global)) (start place : Place) (input : List ℕ) (source_left : Option (List ℕ)) (m : Model) (new : State)
    → IsBegun (fresh_reader line_limit) (Some input) kept start.reader start.ahead → IsKeptModel kept m → AnswersAll R (fresh_state turns m) start None new place None → Legal new.model new.log → ahead place.reader.held source_left ≡ place.ahead
    → IsDoneWith R turns input source_left new
done_with turns kept start place input source_left m new begun text plays legal behind =
    let k = known line_limit total_limit line_limit total_limit (Some input) input begun.lines start.reader.room start.ahead refl refl refl begun.took.gave in
    let l = logged turns m new None None None plays.entries legal plays.same plays.log plays.solo plays.world tt plays.written in
    record {
      done = done_ends turns input begun.words k.rest begun.lines m start place source_left None None None new begun.head k.gave k.is (behind_text kept start (Some input) begun) (text begun.words begun.keeps) tt plays legal behind;
      log = plays.log;
      world = l.world;
    }
