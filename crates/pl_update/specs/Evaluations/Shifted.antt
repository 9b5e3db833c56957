-- Activities that come again at other starts, and are else what they were.
use Rattle.std.specs.Prelude.{◌≡◌, ℕ, ◌+◌, ◌-◌, min, List, map, All, Some, None, unwrap_or}
use Rattle.std.specs.Option.{option_map}
use Rattle.pl_plan.specs.declared.activity.Activity.{Activity}
use Rattle.pl_plan.specs.declared.evaluated.Evaluated.{Evaluated}
use Rattle.pl_plan.specs.Activities.{activity_of}
use Rattle.pl_plan.specs.Trees.{id_of}
use Rattle.pl_semantics.specs.declared.plan_state.PlanState.{PlanState}
use Rattle.pl_semantics.specs.Whole.{IsWhole}
use Rattle.pl_update.specs.Changes.Replaced.{CanReplace, with_plan}
use Rattle.pl_update.specs.Evaluations.Kept.{Entries, AreOf}

-- an activity without its start
abbrev pub still : Activity → Activity
still a = record a { start = 0 }

-- the same activities but for their starts
abbrev pub AreStill : List Activity → List Activity → Type 0
AreStill xs ys = (q : ℕ) → option_map still (activity_of q xs) ≡ option_map still (activity_of q ys)

-- it is, but for its start, the live activity of its id, and its end was not measured, so that it goes along with the start
abbrev pub IsElsewhere : List Activity → Activity → Type 0
IsElsewhere activities a = (option_map still (activity_of a.id activities) ≡ Some (still a)) × (a.measured ≡ None)

-- what comes has the ids that go, in the same order, and only its starts are others
pub record IsShift (activities : List Activity) (gone : List ℕ) (more : List Activity) : Type 0 where
  pub ids : gone ≡ map id_of more
  pub same : All (IsElsewhere activities) more

-- the start of the live activity of an activity's id, else its own
abbrev pub start_before : List Activity → Activity → ℕ
start_before activities a = unwrap_or (option_map (λ b. b.start) (activity_of a.id activities)) a.start

-- what an activity comes to where it goes from one start to another; moments stand still at their type's end
abbrev pub moved : ℕ → ℕ → Evaluated → Evaluated
moved from to e = record e { end = option_map (λ m. min (to + (m - from)) 4294967295) e.end }

-- Where a replacement is a shift, and what was kept was that of the state before it, what is kept now is that of the state after it.
abbrev pub KeepsShifted : PlanState → List Activity → Entries → Entries → Type 0
KeepsShifted s placed old new = (gone : List ℕ) → IsWhole s → CanReplace s gone placed → IsShift s.plan.activities gone placed → AreOf s old → AreOf (with_plan gone placed s) new
