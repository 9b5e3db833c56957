-- A run that is cut short, by a write that failed or for want of memory.
use Rattle.std.proofs.Common.{Ok, Err, arith, ◌≡◌, ℕ, ◌+◌, List, [], ◌∷◌, ◌++◌, length, true, false, Option, Some, None, ◌⊎◌, inl, inr, refl, sym, ◌∙◌, ap, subst, append_assoc}
use Rattle.std.proofs.lemmas.List.{append-nil}
use Rattle.std.specs.declared.vec.Vec.{Vec}
use Rattle.std.specs.declared.alloc.Global.{Global}
use Rattle.pl_io.specs.Lines.{ahead, lines_of}
use Rattle.pl_io.specs.Writes.{AppendsFront}
use Rattle.pl_model.specs.declared.whole.Model.{Model}
use Rattle.pl_entry.specs.declared.entry.Entry.{Entry}
use Rattle.pl_input.specs.Words.{messages_of, split_of}
use Rattle.pl_machine.specs.World.{World}
use Rattle.pl_machine.specs.Legal.{Legal, opening, world_from, world_of}
use Rattle.pl_main.specs.Solo.{Rule, follows, FollowsAll}
use Rattle.pl_machine.specs.Finished.{inputs_of}
use Rattle.pl_machine.specs.Sound.{State}
use Rattle.pl_driver.specs.Rounds.{SameRun}
use Rattle.pl_journal.specs.Rendering.Lines.{line_of, text_from, text_of_log}
use Rattle.pl_check.specs.Accepting.{IsModelText}
use Rattle.pl_input.specs.declared.halt.Halt.TheVariants as halt
use Rattle.pl_input.specs.Reads.{GivesLines}
use Rattle.pl_input.specs.Heads.{IsHead, IsBegun}
use Rattle.pl_driver.specs.CutShort.{IsCutShort, opens, answers}
use Rattle.pl_journal.specs.Written.{Adds}
use Rattle.pl_main.specs.Tells.{AnswersMessage, AnswersMessageInPart}
use Rattle.pl_input.specs.Places.{Place}
use Rattle.pl_input.specs.Waits.{line_in}
use Rattle.pl_main.specs.Plays.{AnswersMessages, unread, unheard, unwritten, LacksMemoryForNext, AnswersNextInPart, AnswersUntil}
use Rattle.pl_main.specs.Runs.{fresh_state, unopened, in_opening, in_play, IsKeptModel, ModelBreaks, ModelRuns}
use Rattle.pl_main.specs.Top.{program_options, line_limit, total_limit, fresh_reader, HasRead, WasGiven}
use Rattle.pl_input.proofs.Reading.{gave_append, gave_lines, known}
use Rattle.pl_input.proofs.Beginning.{head_then}
use Rattle.pl_journal.proofs.AboutWriting.{adds_then, appends_then, some_held}
use Rattle.pl_main.proofs.Playing.{messages_append, inputs_append, added_text, joined, joined_front}
use Rattle.pl_main.proofs.Ending.{logged, done_ends, full_ends, past_limit, read_fault, stopped_ends}
use Rattle.pl_main.proofs.LastLines.{BeginsAt, all_messages, behind_text, got_next, has_read, head_read}
use Rattle.pl_main.proofs.Running.{EndsOver}
use Rattle.pl_main.specs.Endings.{HasBegun, IsOutOfMemory, IsShort, behind_entry, in_entry, in_journal, nothing}
use Rattle.pl_main.proofs.Heading.{begins_at, split_is}
use Rattle.pl_main.specs.RunKinds.{run_by}

abbrev Message : Type 0
Message = Option (List ℕ)

-- ---- a log of the open entry alone

opened_solo : (R : Rule) (turns : ℕ) (m : Model) → FollowsAll R m (opening (program_options turns) ∷ [])
unfolding FollowsAll
opened_solo R turns m = tt

abbrev opened_run : {R : Rule} (turns : ℕ) (input words rest : List ℕ) (heads : List (List ℕ)) (room : ℕ) (m : Model) → IsHead heads words → GivesLines line_limit total_limit input heads room rest → IsModelText words m
    → Legal m (opening (program_options turns) ∷ []) → HasBegun (run_by R turns) input
opened_run {R} turns input words rest heads room m head gave accepted legal = record {
  model = m;
  log = opening (program_options turns) ∷ [];
  words = words;
  text = (split_is input heads words (lines_of rest) head (gave_lines line_limit total_limit input heads room rest gave)).text;
  accepted = accepted;
  says = record { legal = legal; solo = opened_solo R turns m; options = refl };
  unanswered = (split_of input).messages;
  messages = refl;
}

-- ---- a log that waits for a message

record HasWaited (R : Rule) (turns : ℕ) (input : List ℕ) (held now : Option (List ℕ)) : Type 0 where
  run : HasBegun (run_by R turns) input
  given : WasGiven run.words (inputs_of run.log) input
  closed : (world_of run.model run.log).closed ≡ true
  going : (world_of run.model run.log).done ≡ false
  written : Adds held now (text_of_log run.model run.log)

waited : {R : Rule} (turns : ℕ) (input words heads_rest : List ℕ) (heads : List (List ℕ)) (m : Model) (start middle : Place) (held opened written : Option (List ℕ)) (mid : State)
    → IsHead heads words → GivesLines line_limit total_limit input heads start.reader.room heads_rest → start.ahead ≡ Some heads_rest → BeginsAt start → IsModelText words m
    → Adds held opened (text_from m 0 (opening (program_options turns) ∷ [])) → AnswersMessages R (fresh_state turns m) start opened mid middle written → Legal mid.model mid.log → HasWaited R turns input held written
waited turns input words heads_rest heads m start middle held opened written mid head gave is_ahead begins accepted first plays legal =
    let k = known start.reader.limit start.reader.room line_limit start.reader.room start.ahead heads_rest plays.lines middle.reader.room middle.ahead begins.limit refl is_ahead plays.took.gave in
    let split = split_is input heads words (lines_of heads_rest) head (gave_lines line_limit total_limit input heads start.reader.room heads_rest gave) in
    let both = head_then heads words plays.lines head in
    let l = logged turns m mid held opened written plays.entries legal plays.same plays.log plays.solo plays.world first plays.written in
    record {
      run = record {
        model = m;
        log = opening (program_options turns) ∷ plays.entries;
        words = words;
        text = split.text;
        accepted = accepted;
        says = record { legal = l.legal; solo = l.solo; options = refl };
        unanswered = messages_of (lines_of k.rest);
        messages = split.messages ∙ ap messages_of (gave_lines line_limit start.reader.room heads_rest plays.lines middle.reader.room k.rest k.gave) ∙ messages_append plays.lines (lines_of k.rest) (inputs_of plays.entries) plays.messages;
      };
      given = record {
        lines = heads ++ plays.lines;
        left = middle.reader.room;
        rest = k.rest;
        gave = gave_append line_limit total_limit input heads plays.lines start.reader.room heads_rest middle.reader.room k.rest gave k.gave;
        head = both.0;
        more = None ∷ [];
        behind = ap messages_of both.1 ∙ plays.messages;
      };
      closed = ap (λ (w : World). w.closed) (sym l.world) ∙ plays.ready.closed;
      going = ap (λ (w : World). w.done) (sym l.world) ∙ plays.ready.going;
      written = l.text;
    }

-- ---- a log whose last entries were not written whole

-- the entries of a message, as far as they were made: it is their one input
record Added (R : Rule) (mid new : State) (input : Message) : Type 0 where
  entries : List Entry
  log : new.log ≡ mid.log ++ entries
  solo : follows R mid.world entries
  world : new.world ≡ world_from mid.world entries
  same : SameRun mid new
  inputs : inputs_of entries ≡ input ∷ []

added : {R : Rule} (mid new : State) (input : Message) → AnswersMessage R mid input new ⊎ AnswersMessageInPart R mid input new → Added R mid new input
added mid new input (inl told) = record { entries = told.entries; log = told.log; solo = told.solo; world = told.world; same = told.same; inputs = told.inputs }
added mid new input (inr told) = record { entries = told.entries; log = told.log; solo = told.solo; world = told.world; same = told.same; inputs = told.inputs }

opened_front : (m : Model) (first : Entry) (entries : List Entry) (held opened now : Option (List ℕ)) → Adds held opened (text_from m 0 (first ∷ [])) → AppendsFront opened now (text_from m 1 entries) → AppendsFront held now (text_of_log m (first ∷ entries))
opened_front m first entries held opened now adds front =
    subst (λ (t : List ℕ). AppendsFront held now (t ++ text_from m 1 entries)) (append-nil (line_of m 0 first)) (appends_then held opened now (text_from m 0 (first ∷ [])) (text_from m 1 entries) adds front)

-- a front of the open entry's line was written
cut_opening : (turns : ℕ) (m : Model) (held now : Option (List ℕ)) → AppendsFront held now (text_from m 0 (opening (program_options turns) ∷ [])) → IsCutShort m (opening (program_options turns) ∷ []) held now
cut_opening turns m held now front = record {
  earlier = [];
  last = opening (program_options turns) ∷ [];
  parts = refl;
  round = opens refl refl;
  written = held;
  whole = some_held held;
  part = front;
  front = front;
}

-- the last line that was asked for is the last message of the log
record HasBroken (R : Rule) (turns : ℕ) (input : List ℕ) (source_left held now : Option (List ℕ)) : Type 0 where
  run : HasBegun (run_by R turns) input
  read : HasRead run.words (inputs_of run.log) input source_left
  cut : IsCutShort run.model run.log held now

-- All entries before a message were written, and a front of the lines of those that the message brought.
cut_in_round : {R : Rule} (turns : ℕ) (m : Model) (start place : Place) (held opened now : Option (List ℕ)) (new : State) (plays : AnswersUntil R (AnswersNextInPart R) (fresh_state turns m) start opened new place now) (last : Added R plays.waiting new (line_in plays.step.message))
    → Adds held opened (text_from m 0 (opening (program_options turns) ∷ [])) → IsCutShort m (opening (program_options turns) ∷ (plays.plays.entries ++ last.entries)) held now
unfolding world_of
cut_in_round turns m start place held opened now new plays last first =
    let so_far = plays.plays in
    let answered = plays.step.answered in
    let count : length (opening (program_options turns) ∷ []) + length so_far.entries ≡ length (opening (program_options turns) ∷ so_far.entries) = omega arith in
    let text = added_text (fresh_state turns m) plays.waiting new so_far.entries last.entries so_far.log so_far.same last.log in
    record {
      earlier = opening (program_options turns) ∷ so_far.entries;
      last = last.entries;
      parts = refl;
      round = answers (line_in plays.step.message) (omega arith) (ap (λ (w : World). w.closed) (sym so_far.world) ∙ so_far.ready.closed) last.inputs;
      written = plays.written;
      whole = subst (λ (t : List ℕ). Adds held plays.written (t ++ text_from m 1 so_far.entries)) (append-nil (line_of m 0 (opening (program_options turns)))) (adds_then held opened plays.written (text_from m 0 (opening (program_options turns) ∷ [])) (text_from m 1 so_far.entries) first so_far.written);
      part = subst (λ (t : List ℕ). AppendsFront plays.written now t) (text ∙ ap (λ (n : ℕ). text_from m n last.entries) count) answered.written;
      front = opened_front m (opening (program_options turns)) (so_far.entries ++ last.entries) held opened now first
          (joined_front (fresh_state turns m) plays.waiting new opened plays.written now so_far.entries last.entries so_far.log so_far.same so_far.written last.log answered.written);
    }

broken : {R : Rule} (turns : ℕ) (input words heads_rest : List ℕ) (heads : List (List ℕ)) (m : Model) (start place : Place) (source_left held opened now : Option (List ℕ)) (new : State)
    → IsHead heads words → GivesLines line_limit total_limit input heads start.reader.room heads_rest → start.ahead ≡ Some heads_rest → BeginsAt start → IsModelText words m
    → Adds held opened (text_from m 0 (opening (program_options turns) ∷ [])) → AnswersUntil R (AnswersNextInPart R) (fresh_state turns m) start opened new place now → Legal new.model new.log → ahead place.reader.held source_left ≡ place.ahead → HasBroken R turns input source_left held now
broken turns input words heads_rest heads m start place source_left held opened now new head gave is_ahead begins accepted first plays legal behind =
    let so_far = plays.plays in
    let next = line_in plays.step.message in
    let answered = plays.step.answered in
    let last = added plays.waiting new next answered.told in
    let j = joined (fresh_state turns m) plays.waiting new None None None so_far.entries last.entries so_far.log so_far.solo so_far.world so_far.same tt last.log last.solo last.world last.same tt in
    let l = logged turns m new None None None (so_far.entries ++ last.entries) legal j.same j.log j.solo j.world tt tt in
    let k = known start.reader.limit start.reader.room line_limit start.reader.room start.ahead heads_rest so_far.lines plays.middle.reader.room plays.middle.ahead begins.limit refl is_ahead so_far.took.gave in
    let middle : BeginsAt plays.middle = record { limit = so_far.took.limit ∙ begins.limit; few = so_far.took.few begins.few } in
    let got = got_next plays.middle place k.rest plays.step.message middle k.is plays.step.gets in
    let read = has_read input words heads so_far.lines start.reader.room plays.middle.reader.room heads_rest k.rest (inputs_of so_far.entries) next place source_left head gave k.gave so_far.messages got behind in
    let inputs : inputs_of so_far.entries ++ next ∷ [] ≡ inputs_of (so_far.entries ++ last.entries) =
    sym (inputs_append so_far.entries last.entries ∙ ap (λ (ns : List Message). inputs_of so_far.entries ++ ns) last.inputs) in
    let all = all_messages input words heads so_far.lines start.reader.room plays.middle.reader.room heads_rest k.rest (inputs_of so_far.entries) next place head gave k.gave so_far.messages got in
    record {
      run = record {
        model = m;
        log = opening (program_options turns) ∷ (so_far.entries ++ last.entries);
        words = words;
        text = (split_is input heads words (lines_of heads_rest) head (gave_lines line_limit total_limit input heads start.reader.room heads_rest gave)).text;
        accepted = accepted;
        says = record { legal = l.legal; solo = l.solo; options = refl };
        unanswered = got.all.more;
        messages = all ∙ sym (append_assoc (inputs_of so_far.entries) (next ∷ []) got.all.more) ∙ ap (λ (ns : List Message). ns ++ got.all.more) inputs;
      };
      read = subst (λ (ns : List Message). HasRead words ns input source_left) inputs read;
      cut = cut_in_round turns m start place held opened now new plays last first;
    }

-- ---- behind the model's text

abbrev run_opened : {R : Rule} (turns : ℕ) (kept : Option (Vec ℕ Global)) (start : Place) (input : List ℕ) (m : Model) → IsBegun (fresh_reader line_limit) (Some input) kept start.reader start.ahead → IsKeptModel kept m
    → Legal m (opening (program_options turns) ∷ []) → HasBegun (run_by R turns) input
run_opened turns kept start input m begun text legal =
    let k = known line_limit total_limit line_limit total_limit (Some input) input begun.lines start.reader.room start.ahead refl refl refl begun.took.gave in
    opened_run turns input begun.words k.rest begun.lines start.reader.room m begun.head k.gave (text begun.words begun.keeps) legal

-- of the open entry no line was asked for
opened_read : (kept : Option (Vec ℕ Global)) (start place : Place) (input : List ℕ) (source_left : Option (List ℕ)) → (begun : IsBegun (fresh_reader line_limit) (Some input) kept start.reader start.ahead) → place ≡ start
    → ahead place.reader.held source_left ≡ place.ahead → HasRead begun.words [] input source_left
opened_read kept start place input source_left begun same behind =
    head_read input begun.words source_left (begins_at line_limit kept start.reader input start.ahead source_left begun (subst (λ (p : Place). ahead p.reader.held source_left ≡ p.ahead) same behind))

run_waited : {R : Rule} (turns : ℕ) (kept : Option (Vec ℕ Global)) (start middle : Place) (input : List ℕ) (held opened written : Option (List ℕ)) (m : Model) (mid : State) → IsBegun (fresh_reader line_limit) (Some input) kept start.reader start.ahead → IsKeptModel kept m
    → Adds held opened (text_from m 0 (opening (program_options turns) ∷ [])) → AnswersMessages R (fresh_state turns m) start opened mid middle written → Legal mid.model mid.log → HasWaited R turns input held written
run_waited turns kept start middle input held opened written m mid begun text first plays legal =
    let k = known line_limit total_limit line_limit total_limit (Some input) input begun.lines start.reader.room start.ahead refl refl refl begun.took.gave in
    waited turns input begun.words k.rest begun.lines m start middle held opened written mid begun.head k.gave k.is (behind_text kept start (Some input) begun) (text begun.words begun.keeps) first plays legal

run_broken : {R : Rule} (turns : ℕ) (kept : Option (Vec ℕ Global)) (start place : Place) (input : List ℕ) (source_left held opened now : Option (List ℕ)) (m : Model) (new : State) → IsBegun (fresh_reader line_limit) (Some input) kept start.reader start.ahead → IsKeptModel kept m
    → Adds held opened (text_from m 0 (opening (program_options turns) ∷ [])) → AnswersUntil R (AnswersNextInPart R) (fresh_state turns m) start opened new place now → Legal new.model new.log → ahead place.reader.held source_left ≡ place.ahead → HasBroken R turns input source_left held now
run_broken turns kept start place input source_left held opened now m new begun text first plays legal behind =
    let k = known line_limit total_limit line_limit total_limit (Some input) input begun.lines start.reader.room start.ahead refl refl refl begun.took.gave in
    broken turns input begun.words k.rest begun.lines m start place source_left held opened now new begun.head k.gave k.is (behind_text kept start (Some input) begun) (text begun.words begun.keeps) first plays legal behind

-- a write failed
solo_short : {R : Rule} (turns : ℕ) (kept : Option (Vec ℕ Global)) (start place : Place) (input : List ℕ) (source_left held now : Option (List ℕ)) (m : Model) → IsBegun (fresh_reader line_limit) (Some input) kept start.reader start.ahead → IsKeptModel kept m
    → ModelBreaks R halt.Write turns m start held place now → ahead place.reader.held source_left ≡ place.ahead → IsShort (run_by R turns) input source_left held now
solo_short turns kept start place input source_left held now m begun text (unopened is same) behind = absurd (let h : halt.Write ≡ halt.Memory = is in (cc))
solo_short turns kept start place input source_left held now m begun text (in_opening legal front same) behind =
    in_journal (run_opened turns kept start input m begun text legal) (opened_read kept start place input source_left begun same behind) (cut_opening turns m held now front)
solo_short turns kept start place input source_left held now m begun text (in_play run) behind =
    let b = run_broken turns kept start place input source_left held run.opened now m run.new begun text run.first run.playing run.legal behind in
    in_journal b.run b.read b.cut

-- all that was written is the journal of a log that waits for a message
waits_whole : {R : Rule} (turns : ℕ) (input : List ℕ) (source_left held written now : Option (List ℕ)) → HasWaited R turns input held written → now ≡ written → IsOutOfMemory (run_by R turns) input source_left held now
waits_whole turns input source_left held written now waits same =
    behind_entry waits.run (record { given = waits.given; closed = waits.closed }) waits.going (subst (λ (o : Option (List ℕ)). Adds held o (text_of_log waits.run.model waits.run.log)) (sym same) waits.written)

play_lacks : {R : Rule} (turns : ℕ) (kept : Option (Vec ℕ Global)) (start place middle : Place) (input : List ℕ) (source_left held opened written now : Option (List ℕ)) (m : Model) (mid new : State) → IsBegun (fresh_reader line_limit) (Some input) kept start.reader start.ahead → IsKeptModel kept m
    → Adds held opened (text_from m 0 (opening (program_options turns) ∷ [])) → AnswersMessages R (fresh_state turns m) start opened mid middle written → LacksMemoryForNext R mid middle written new place now → Legal new.model new.log → ahead place.reader.held source_left ≡ place.ahead
    → IsOutOfMemory (run_by R turns) input source_left held now
play_lacks turns kept start place middle input source_left held opened written now m mid new begun text first plays (unread same_state same) legal behind =
    waits_whole turns input source_left held written now (run_waited turns kept start middle input held opened written m mid begun text first plays (subst (λ (s : State). Legal s.model s.log) same_state legal)) same
play_lacks turns kept start place middle input source_left held opened written now m mid new begun text first plays (unheard before same) legal behind =
    waits_whole turns input source_left held written now (run_waited turns kept start middle input held opened written m mid begun text first plays before) same
play_lacks turns kept start place middle input source_left held opened written now m mid new begun text first plays (unwritten step) legal behind =
    let b = run_broken turns kept start place input source_left held opened now m new begun text first (record { waiting = mid; middle = middle; written = written; plays = plays; step = step }) legal behind in
    in_entry b.run b.read b.cut

-- memory ran out
solo_memory : {R : Rule} (turns : ℕ) (kept : Option (Vec ℕ Global)) (start place : Place) (input : List ℕ) (source_left held now : Option (List ℕ)) (m : Model) → IsBegun (fresh_reader line_limit) (Some input) kept start.reader start.ahead → IsKeptModel kept m
    → ModelBreaks R halt.Memory turns m start held place now → ahead place.reader.held source_left ≡ place.ahead → IsOutOfMemory (run_by R turns) input source_left held now
solo_memory turns kept start place input source_left held now m begun text (unopened is same) behind = nothing same
solo_memory turns kept start place input source_left held now m begun text (in_opening legal front same) behind =
    in_entry (run_opened turns kept start input m begun text legal) (opened_read kept start place input source_left begun same behind) (cut_opening turns m held now front)
solo_memory turns kept start place input source_left held now m begun text (in_play run) behind =
    let lacks = run.playing in
    play_lacks turns kept start place lacks.middle input source_left held run.opened lacks.written now m lacks.waiting run.new begun text run.first lacks.plays lacks.step run.legal behind

-- ---- how a run of one thread ends

pub ends_solo : (R : Rule) (turns : ℕ) → EndsOver (run_by R turns) (ModelRuns R turns)
ends_solo R turns kept start place input source_left held now m (Ok u) begun text run behind =
    let k = known line_limit total_limit line_limit total_limit (Some input) input begun.lines start.reader.room start.ahead refl refl refl begun.took.gave in
    done_ends turns input begun.words k.rest begun.lines m start place source_left held run.opened now run.new begun.head k.gave k.is (behind_text kept start (Some input) begun) (text begun.words begun.keeps) run.first run.playing run.legal behind
ends_solo R turns kept start place input source_left held now m (Err halt.Limit) begun text run behind =
    let k = known line_limit total_limit line_limit total_limit (Some input) input begun.lines start.reader.room start.ahead refl refl refl begun.took.gave in
    past_limit turns input source_left held now (stopped_ends halt.Limit turns input begun.words k.rest begun.lines m start place source_left held run.opened now run.new begun.head k.gave k.is (behind_text kept start (Some input) begun) (text begun.words begun.keeps) run.first run.playing run.legal behind)
ends_solo R turns kept start place input source_left held now m (Err halt.Read) begun text run behind =
    let k = known line_limit total_limit line_limit total_limit (Some input) input begun.lines start.reader.room start.ahead refl refl refl begun.took.gave in
    read_fault turns input source_left held now (stopped_ends halt.Read turns input begun.words k.rest begun.lines m start place source_left held run.opened now run.new begun.head k.gave k.is (behind_text kept start (Some input) begun) (text begun.words begun.keeps) run.first run.playing run.legal behind)
ends_solo R turns kept start place input source_left held now m (Err halt.Full) begun text run behind =
    let k = known line_limit total_limit line_limit total_limit (Some input) input begun.lines start.reader.room start.ahead refl refl refl begun.took.gave in
    full_ends turns input begun.words k.rest begun.lines m start place source_left held run.opened now run.new begun.head k.gave k.is (behind_text kept start (Some input) begun) (text begun.words begun.keeps) run.first run.playing run.legal behind
ends_solo R turns kept start place input source_left held now m (Err halt.Write) begun text run behind = solo_short turns kept start place input source_left held now m begun text run behind
ends_solo R turns kept start place input source_left held now m (Err halt.Memory) begun text run behind = solo_memory turns kept start place input source_left held now m begun text run behind
