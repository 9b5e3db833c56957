-- What is wrong with timelines as they stand, and a set of conflicts that tells it.
use Rattle.std.specs.Prelude.{◌≡◌, ℕ, List, ◌++◌, map, slice_get}
use Rattle.pl_conflict.specs.declared.conflict.Conflict.{Conflict}
use Rattle.pl_conflict.specs.declared.conflict.Code.TheVariants as code
use Rattle.pl_conflict.specs.Order.{has}
use Rattle.pl_capacity.specs.Uses.{spans_now}
use Rattle.pl_level.specs.Effects.{low_now, high_now}
use Rattle.pl_state.specs.Timelines.{broken_now, bad_now}
use Rattle.pl_semantics.specs.declared.plan_state.PlanState.{PlanState}
use Rattle.pl_semantics.specs.PlanStates.{of_found}
use Rattle.pl_semantics.specs.Parts.{part_of, of_timelines}
use Rattle.pl_semantics.specs.Owners.{owner_of}
use Rattle.pl_semantics.specs.Timelines.{outside, unmet_must, bad_step}
use Rattle.pl_update.specs.declared.timelines.line.Line.{Line}
use Rattle.pl_update.specs.declared.timelines.line.Line.TheVariants.{Capacity, Level, States}

-- the conflicts of the timeline of this number as it stands; those of musts and sets begin with their activities
abbrev pub wrong_with : PlanState → ℕ → Line → List Conflict
wrong_with s line (Capacity c) = map (outside code.Over line) (spans_now c)
wrong_with s line (Level l) = map (outside code.Low line) (low_now l) ++ map (outside code.High line) (high_now l)
wrong_with s line (States x) = map (unmet_must s) (broken_now x) ++ map (bad_step s) (bad_now x)

abbrev pub wrong_at : PlanState → List Line → ℕ → List Conflict
wrong_at s lines line = of_found (wrong_with s line) (slice_get lines line)

-- of the conflicts of timelines, the set has exactly those that the timeline which they are about has
abbrev pub IsTold : PlanState → List Line → List Conflict → Type 0
IsTold s lines set = (q : Conflict) → part_of q.code ≡ of_timelines → has q set ≡ has q (of_found (wrong_at s lines) (owner_of s q))
