-- The end of a run of a crew over an input: that of its team, and the lines of the planners.
use Rattle.std.proofs.Common.{◌≡◌, ℕ, zero, suc, ◌+◌, ◌<◌, ◌≤◌, List, [], ◌∷◌, ◌++◌, length, Option, Some, Result, Ok, Err, refl, sym, ◌∙◌, ap, subst, arith, length-append}
use Rattle.std.proofs.lemmas.List.{append-nil}
use Rattle.std.specs.declared.vec.Vec.{Vec}
use Rattle.std.specs.declared.alloc.Global.{Global}
use Rattle.pl_io.specs.Lines.{ahead}
use Rattle.pl_io.specs.Writes.{AppendsFront}
use Rattle.pl_model.specs.declared.whole.Model.{Model}
use Rattle.pl_model.specs.Checked.{IsChecked}
use Rattle.pl_entry.specs.declared.entry.Entry.{Entry}
use Rattle.pl_journal.specs.Rendering.Lines.{text_of_log}
use Rattle.pl_journal.specs.Written.{Adds}
use Rattle.pl_input.specs.declared.halt.Halt.{Halt}
use Rattle.pl_input.specs.declared.halt.Halt.TheVariants as halt
use Rattle.pl_input.specs.Heads.{IsBegun}
use Rattle.pl_input.specs.Places.{Place}
use Rattle.pl_marks.specs.declared.mark.Mark.{Mark}
use Rattle.pl_marks.specs.Marks.{Signed, marks_of}
use Rattle.pl_pair.specs.Runs.{pair_of, TeamRun}
use Rattle.pl_many.specs.Tallies.{lines_from, lines_of, planner_line, tally_of}
use Rattle.pl_many.specs.CrewRuns.{crew_of, Tails}
use Rattle.pl_journal.proofs.AboutWriting.{adds_then}
use Rattle.pl_many.proofs.Tallying.{line_some}
use Rattle.pl_main.specs.declared.command.Team.{Team}
use Rattle.pl_main.specs.declared.command.Team.TheVariants as team
use Rattle.pl_main.specs.Top.{line_limit, fresh_reader}
use Rattle.pl_main.specs.Runs.{fresh_state, IsKeptModel, RunsAs, IsTeam, ModelRunsAs}
use Rattle.pl_main.specs.Endings.{text_with, EndedAs, IsToldInPart, in_tail, behind_journal}
use Rattle.pl_main.specs.RunKinds.{planner_lines, crew_run, run_of}
use Rattle.pl_main.proofs.Running.{EndsOver, outcome_for}
use Rattle.pl_main.proofs.Pairing.{none_opened, is_behind, DoneOf, done_with, ends_done, ends_err, ends_paired}

text_tail : (m : Model) (log : List Entry) (lines : List ℕ) → text_with lines m log ≡ text_of_log m log ++ lines
text_tail m log [] = sym (append-nil (text_of_log m log))
text_tail m log (x ∷ xs) = refl

lines_some : (planners : ℕ) (marks : List Mark) (log : List Entry) → 0 < planners → 0 < length (lines_of planners marks log)
lines_some zero marks log some = absurd (omega (arith, some))
lines_some (suc more) marks log some =
    (let line = line_some 1 (tally_of 1 marks log) in let long = length-append (planner_line 1 (tally_of 1 marks log)) (lines_from (1 + 1) more marks log) in omega (arith, line, long))

module _ (turns planners seed : ℕ) (few : 0 < planners) (kept : Option (Vec ℕ Global)) (start place : Place) (input : List ℕ) (source_left held now : Option (List ℕ)) (m : Model) (begun : IsBegun (fresh_reader line_limit) (Some input) kept start.reader start.ahead)
    (text : IsKeptModel kept m) (behind : ahead place.reader.held source_left ≡ place.ahead) where
  abbrev Run : Result (Unit {0}) Halt → Option (List ℕ) → Type 0
  Run answer written = TeamRun (crew_of planners seed 1) (fresh_state turns m) start held answer place written

  module _ (written : Option (List ℕ)) (run : Run (Ok tt) written) where
    abbrev lines : List ℕ
    lines = lines_of planners (marks_of run.history.signs.by) run.log

    whole : DoneOf turns (crew_of planners seed 1) (planner_lines turns planners seed) input source_left run.log run.history.signs.by held written
    whole = ends_done turns (crew_of planners seed 1) (planner_lines turns planners seed) input begun.words start place m source_left held written (is_behind kept start input begun) (text begun.words begun.keeps) behind run

    same_lines : lines ≡ planner_lines turns planners seed whole.done.model whole.done.log whole.done.says
    same_lines = sym (ap (λ (by : Signed). lines_of planners (marks_of by) whole.done.log) whole.by_is ∙ ap (λ (log : List Entry). lines_of planners (marks_of run.history.signs.by) log) whole.log_is)

    in_part : AppendsFront written now lines → IsToldInPart (crew_run turns planners seed) input source_left held now
    in_part front = record {
      done = whole.done;
      some = lines_some planners (marks_of whole.done.says.team.history.signs.by) whole.done.log few;
      journal = written;
      written = whole.written;
      told = subst (λ (ls : List ℕ). AppendsFront written now ls) same_lines front;
    }

    ends_told : (r : Result (Unit {0}) Halt) → Tails (Ok tt) r written now lines → EndedAs (crew_run turns planners seed) input source_left held now (outcome_for r)
    ends_told (Ok v) tail =
        let lines2 = planner_lines turns planners seed whole.done.model whole.done.log whole.done.says in
        let adds : Adds held now (text_of_log whole.done.model whole.done.log ++ lines2) =
        adds_then held written now (text_of_log whole.done.model whole.done.log) lines2 whole.written (subst (λ (ls : List ℕ). Adds written now ls) same_lines tail) in
        done_with (crew_run turns planners seed) input source_left held now whole.done (subst (λ (t : List ℕ). Adds held now t) (sym (text_tail whole.done.model whole.done.log lines2)) adds)
    ends_told (Err halt.Write) tail = in_tail (in_part tail)
    ends_told (Err halt.Memory) tail = behind_journal (in_part tail)
    ends_told (Err halt.Read) tail = absurd tail
    ends_told (Err halt.Limit) tail = absurd tail
    ends_told (Err halt.Full) tail = absurd tail

  ends_by : (answer r : Result (Unit {0}) Halt) (written : Option (List ℕ)) → (run : Run answer written) → Tails answer r written now (lines_of planners (marks_of run.history.signs.by) run.log) → EndedAs (crew_run turns planners seed) input source_left held now (outcome_for r)
  ends_by (Ok u) r written run tail = ends_told written run r tail
  ends_by (Err e) r written run tail =
      let ended = ends_err turns (crew_of planners seed 1) (planner_lines turns planners seed) kept start place input source_left held written m e begun text run behind in
      subst (λ (x : Result (Unit {0}) Halt). EndedAs (crew_run turns planners seed) input source_left held now (outcome_for x)) (sym tail.0)
      (subst (λ (n : Option (List ℕ)). EndedAs (crew_run turns planners seed) input source_left held n (Err e)) (sym tail.1) ended)

ends_crew : (turns planners seed : ℕ) → 0 < planners → EndsOver (crew_run turns planners seed) (ModelRunsAs (team.Crew planners seed) turns)
ends_crew turns planners seed few kept start place input source_left held now m r begun text run behind =
    ends_by turns planners seed few kept start place input source_left held now m begun text behind run.answer r run.written run.run run.tail

-- ---- a team

pub ends_team : (t : Team) (turns : ℕ) → IsTeam t → EndsOver (run_of t turns) (ModelRunsAs t turns)
ends_team (team.Pair seed) turns is = ends_paired turns seed
ends_team (team.Crew planners seed) turns is = ends_crew turns planners seed (let some = is.0 in omega (arith, some))

pub none_ran : (t : Team) (turns : ℕ) (m : Model) (place : Place) (held : Option (List ℕ)) → IsChecked m → (1 ≤ turns) × (turns ≤ 1000) → RunsAs t (fresh_state turns m) place held (Err halt.Memory) place held
none_ran (team.Pair seed) turns m place held checked bounds = none_opened turns (pair_of seed 1) m place held checked bounds
none_ran (team.Crew planners seed) turns m place held checked bounds = record {
  answer = Err halt.Memory;
  written = held;
  run = none_opened turns (crew_of planners seed 1) m place held checked bounds;
  tail = (refl, refl);
}
