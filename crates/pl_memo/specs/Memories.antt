-- Choices that are remembered, and the states in which their answers hold.
use Rattle.std.specs.Prelude.{◌≡◌, ◌<◌, ℕ, true, List, [], ◌∷◌, ◌++◌, map, length, All}
use Rattle.pl_plan.specs.declared.activity.Activity.{Activity}
use Rattle.pl_plan.specs.declared.repair.RepairMove.{RepairMove}
use Rattle.pl_plan.specs.Activities.{activity_of}
use Rattle.pl_plan.specs.Trees.{id_of}
use Rattle.pl_semantics.specs.declared.plan_state.PlanState.{PlanState}
use Rattle.pl_semantics.specs.PlanStates.{of_found}
use Rattle.pl_semantics.specs.Moves.{is_proper}
use Rattle.pl_semantics.specs.Whole.{IsWhole}
use Rattle.pl_update.specs.Changes.Replaced.{CanReplace, with_plan}
use Rattle.pl_memo.specs.declared.memory.Answer.{Answer}
use Rattle.pl_memo.specs.declared.memory.Memory.{Memory}
use Rattle.pl_memo.specs.Differences.{IsDifference, CanLeave}
use Rattle.pl_memo.specs.Fewest.{fewest_place}

abbrev pub AreProper : PlanState → List RepairMove → Type 0
AreProper s moves = All (λ m. is_proper s m ≡ true) moves

-- the first of these moves that leaves the fewest conflicts stands at this place
pub record IsFewestAt (s : PlanState) (moves : List RepairMove) (place : ℕ) : Type 0 where
  pub there : place < length moves
  pub is : fewest_place s moves ≡ place

-- the same but for the activities of the plan, and for the id that is given next
pub record AreSameBeside (s t : PlanState) : Type 0 where
  pub model : s.model ≡ t.model
  pub goals : s.goals ≡ t.goals
  pub bases : s.bases ≡ t.bases
  pub moment : s.moment ≡ t.moment
  pub committed : s.committed ≡ t.committed
  pub limit : s.live_limit ≡ t.live_limit

-- There was a whole state in which the answer was right, and `since` is how the plan differs from the one of then.
pub record Holds (s : PlanState) (a : Answer) : Type 0 where
  pub before : PlanState
  pub whole : IsWhole before
  pub beside : AreSameBeside before s
  pub differs : IsDifference before.plan.activities s.plan.activities a.since
  pub proper : AreProper before a.moves
  pub fewest : IsFewestAt before a.moves a.place

-- all that is remembered holds in this state
abbrev pub AreRemembered : PlanState → Memory → Type 0
AreRemembered s m = All (Holds s) m.answers

-- nothing is remembered
abbrev pub nothing : Memory
nothing = record { answers = [] }

-- ---- changes of the plan

abbrev pub alone : Activity → List Activity
alone a = a ∷ []

-- the activities of these ids, as they stand
abbrev pub going : List Activity → List ℕ → List Activity
going xs [] = []
going xs (id ∷ ids) = of_found alone (activity_of id xs) ++ going xs ids

-- The state came of the one before by a replacement: these activities left the plan, and the others came.
pub record IsMadeFrom (before s : PlanState) (left more : List Activity) : Type 0 where
  pub whole : IsWhole before
  pub can : CanReplace before (map id_of left) more
  pub leave : CanLeave before.plan.activities left
  pub is : s ≡ with_plan (map id_of left) more before

-- In the state before, the first of these moves that leaves the fewest conflicts stood at this place.
pub record WasFewestAt (s : PlanState) (left more : List Activity) (moves : List RepairMove) (place : ℕ) : Type 0 where
  pub before : PlanState
  pub made : IsMadeFrom before s left more
  pub proper : AreProper before moves
  pub fewest : IsFewestAt before moves place
