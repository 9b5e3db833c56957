-- What a run of a crew comes to.
use Rattle.std.specs.Prelude.{◌≡◌, ◌+◌, ℕ, zero, suc, List, [], ◌∷◌, length, Option, Result, Ok, Err}
use Rattle.pl_io.specs.Writes.{AppendsFront}
use Rattle.pl_journal.specs.Written.{Adds}
use Rattle.pl_input.specs.declared.halt.Halt.{Halt}
use Rattle.pl_input.specs.declared.halt.Halt.TheVariants as halt
use Rattle.pl_input.specs.Places.{Place}
use Rattle.pl_machine.specs.Sound.{State}
use Rattle.pl_marks.specs.Marks.{marks_of}
use Rattle.pl_pair.specs.declared.duty.Duty.{Duty}
use Rattle.pl_pair.specs.declared.duty.Duty.TheVariants.{Repair, Execute}
use Rattle.pl_pair.specs.Runs.{TeamRun}
use Rattle.pl_many.specs.Tallies.{lines_of}

-- Planners by number, so many from this one on, hired behind so many entries: each has a chooser of the seed and its number added up.
abbrev pub planners_from : ℕ → ℕ → ℕ → ℕ → List Duty
planners_from number zero seed begun = []
planners_from number (suc more) seed begun = Repair number (seed + number) begun ∷ planners_from (number + 1) more seed begun

-- an executive, and so many planners by number
abbrev pub crew_of : ℕ → ℕ → ℕ → List Duty
crew_of planners seed begun = Execute ∷ planners_from 1 planners seed begun

-- What was written behind the journal. Where the team did not come to its end nothing was; else the lines, or a front of them and not all where a write failed or memory was wanting.
abbrev pub Tails : Result (Unit {0}) Halt → Result (Unit {0}) Halt → (written now : Option (List ℕ)) → List ℕ → Type 0
Tails (Ok u) (Ok v) written now lines = Adds written now lines
Tails (Ok u) (Err halt.Write) written now lines = AppendsFront written now lines
Tails (Ok u) (Err halt.Memory) written now lines = AppendsFront written now lines
Tails (Ok u) (Err halt.Read) written now lines = ⊥
Tails (Ok u) (Err halt.Limit) written now lines = ⊥
Tails (Ok u) (Err halt.Full) written now lines = ⊥
Tails (Err e) r written now lines = (r ≡ Err e) × (now ≡ written)

-- The run of an executive and these planners, and behind its journal the line of each planner.
pub record CrewRun (planners seed : ℕ) (start : State) (place : Place) (held : Option (List ℕ)) (r : Result (Unit {0}) Halt) (behind : Place) (now : Option (List ℕ)) : Type 0 where
  pub answer : Result (Unit {0}) Halt
  pub written : Option (List ℕ)
  pub run : TeamRun (crew_of planners seed (length start.log)) start place held answer behind written
  pub tail : Tails answer r written now (lines_of planners (marks_of run.history.signs.by) run.log)
