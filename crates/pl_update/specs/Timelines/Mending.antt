-- From some timelines, and a set of conflicts that tells what is wrong with them, to others.
use Rattle.std.specs.Prelude.{◌≡◌, ℕ, false, List, map, slice_get, Option, Some, ℤ, neg_ℤ, ◌+ℤ◌}
use Rattle.pl_conflict.specs.declared.conflict.Conflict.{Conflict}
use Rattle.pl_conflict.specs.Order.{has}
use Rattle.pl_conflict.specs.Sorting.{AreInOrder}
use Rattle.pl_semantics.specs.declared.plan_state.PlanState.{PlanState}
use Rattle.pl_semantics.specs.declared.demand.Demand.{Demand}
use Rattle.pl_semantics.specs.declared.demand.Asked.{Asked}
use Rattle.pl_semantics.specs.declared.demand.Asked.TheVariants as asked
use Rattle.pl_semantics.specs.Parts.{part_of, of_timelines}
use Rattle.pl_detect.specs.Bounds.{IsBounded}
use Rattle.pl_update.specs.declared.timelines.line.Line.{Line}
use Rattle.pl_update.specs.declared.timelines.line.Line.TheVariants.{Capacity, Level, States}
use Rattle.pl_update.specs.Timelines.Held.{held_at, asked_at}
use Rattle.pl_update.specs.Timelines.Framed.{bare, AreOrdered}
use Rattle.pl_update.specs.Timelines.Told.{IsTold}
use Rattle.pl_update.specs.Timelines.Named.{IsNamed}

-- the set was mended as the timelines changed, and is else as it was
pub record IsMended (s : PlanState) (lines lines' : List Line) (set set' : List Conflict) : Type 0 where
  pub told : IsTold s lines set → IsTold s lines' set'
  pub others : (q : Conflict) → (part_of q.code ≡ of_timelines → ⊥) → has q set' ≡ has q set
  pub sorted : AreInOrder set → AreInOrder set'

-- what the timelines hold changed by so much, however it is counted, and all else is as it was
pub record IsMoved (lines lines' : List Line) (by : ℕ → (Asked → ℤ) → ℤ) : Type 0 where
  pub frames : map bare lines' ≡ map bare lines
  pub ordered : AreOrdered lines → AreOrdered lines'
  pub held : (line : ℕ) (f : Asked → ℤ) → held_at lines' line f ≡ held_at lines line f +ℤ by line f

-- so much less
abbrev pub less : List Demand → ℕ → (Asked → ℤ) → ℤ
less ds line f = neg_ℤ (asked_at ds line f)

-- the timeline is of the sort that is asked
abbrev pub IsOfSort : Option Line → Asked → Type 0
IsOfSort (Some (Capacity c)) (asked.Use u) = c.spoiled ≡ false
IsOfSort (Some (Level l)) (asked.Effect e) = l.spoiled ≡ false
IsOfSort (Some (States x)) (asked.Set y) = x.spoiled ≡ false
IsOfSort (Some (States x)) (asked.Must m) = x.spoiled ≡ false
IsOfSort _ _ = ⊥

-- a demand of a timeline of its sort, within the bounds, on a timeline that its activity's reservation names
pub record CanAsk (s : PlanState) (lines : List Line) (d : Demand) : Type 0 where
  pub bounded : IsBounded d.asked
  pub sort : IsOfSort (slice_get lines d.line) d.asked
  pub named : IsNamed s d
