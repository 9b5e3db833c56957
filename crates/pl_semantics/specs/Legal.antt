-- Which repairs may be made now, and what a repair leaves.
use Rattle.std.specs.Prelude.{◌≡◌, ℕ, ◌+◌, ◌<◌, ◌≤◌, Bool, true, false, not, List, All, filter, length, Some, is_none}
use Rattle.std.specs.List.{list_any}
use Rattle.pl_conflict.specs.declared.conflict.Conflict.{Conflict}
use Rattle.pl_plan.specs.declared.activity.Activity.{Activity}
use Rattle.pl_plan.specs.Activities.{activity_of}
use Rattle.pl_plan.specs.declared.repair.RepairMove.{RepairMove}
use Rattle.pl_semantics.specs.declared.plan_state.PlanState.{PlanState}
use Rattle.pl_semantics.specs.declared.refusal.Refusal.{Refusal}
use Rattle.pl_semantics.specs.declared.refusal.Refusal.TheVariants.{Locked, Behind, Beyond, Full}
use Rattle.pl_semantics.specs.PlanStates.{floor_of}
use Rattle.pl_semantics.specs.Conflicts.{conflicts_of}
use Rattle.pl_semantics.specs.Moves.{started_by, count_of_new, is_locked, is_behind, is_beyond, is_full, refusal_of, applied}
use Rattle.pl_semantics.specs.Candidates.{candidates_of}

-- ---- why a move is refused

-- the activity of this id passes a test, and each other one that does has a larger id
pub record IsLeast (test : Activity → Bool) (activities : List Activity) (id : ℕ) : Type 0 where
  pub a : Activity
  pub here : activity_of id activities ≡ Some a
  pub passes : test a ≡ true
  pub least : (b : Activity) → activity_of b.id activities ≡ Some b → test b ≡ true → id ≤ b.id

abbrev pub NonePasses : (Activity → Bool) → List Activity → Type 0
NonePasses test activities = All (λ a. test a ≡ false) activities

-- the first cause that stands, with the least id that it concerns
abbrev pub IsRefused : PlanState → RepairMove → Refusal → Type 0
IsRefused s m (Locked id) = IsLeast (is_locked s m) s.plan.activities id
IsRefused s m (Behind id) = NonePasses (is_locked s m) s.plan.activities × IsLeast (is_behind s) (started_by s m) id
IsRefused s m (Beyond id) = NonePasses (is_locked s m) s.plan.activities × NonePasses (is_behind s) (started_by s m) × IsLeast (is_beyond s) (started_by s m) id
IsRefused s m Full = NonePasses (is_locked s m) s.plan.activities × NonePasses (is_behind s) (started_by s m) × NonePasses (is_beyond s) (started_by s m) × (is_full s m ≡ true)

-- What a move that is not refused keeps to: it changes nothing committed, each start that it gives lies from the floor on and before
-- the horizon, and no more live than may.
pub record MayBeMade (s : PlanState) (m : RepairMove) : Type 0 where
  pub unlocked : All (λ a. is_locked s m a ≡ false) s.plan.activities
  pub above : All (λ a. floor_of s ≤ a.start) (started_by s m)
  pub within : All (λ a. a.start < s.model.horizon) (started_by s m)
  pub room : length s.plan.activities + count_of_new s m ≤ s.live_limit

-- ---- legal moves

-- it is not refused
abbrev pub is_legal : PlanState → RepairMove → Bool
is_legal s m = is_none (refusal_of s m)

-- the legal candidates of a conflict, in their order
unfoldable pub legal_for : PlanState → Conflict → List RepairMove
legal_for s k = filter (is_legal s) (candidates_of s k)

-- whether a conflict has a legal candidate
abbrev pub has_repair : PlanState → Conflict → Bool
has_repair s k = list_any (is_legal s) (candidates_of s k)

-- the conflicts that have one, in their order
unfoldable pub repairable : PlanState → List Conflict
repairable s = filter (has_repair s) (conflicts_of s)

-- no conflict has one
unfoldable pub is_stuck : PlanState → Bool
is_stuck s = not (list_any (has_repair s) (conflicts_of s))

-- how many conflicts stand after a move
unfoldable pub left_after : PlanState → RepairMove → ℕ
left_after s m = length (conflicts_of (applied s m))
