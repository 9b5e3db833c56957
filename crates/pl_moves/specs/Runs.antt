-- Moves that place the same activities at other starts.
use Rattle.std.specs.Prelude.{◌≡◌, ℕ, ◌≤◌, ◌==◌, min, Bool, true, false, ◌&&◌, List, map, take, length, None}
use Rattle.pl_plan.specs.declared.activity.Activity.{Activity}
use Rattle.pl_plan.specs.declared.repair.RepairMove.{RepairMove}
use Rattle.pl_plan.specs.declared.repair.RepairMove.TheVariants.{Add, Shift}
use Rattle.pl_plan.specs.Trees.{id_of}
use Rattle.pl_semantics.specs.declared.plan_state.PlanState.{PlanState}
use Rattle.pl_semantics.specs.Candidates.{same_number}
use Rattle.pl_semantics.specs.Legal.{left_after}
use Rattle.pl_semantics.specs.Moves.{is_proper, refusal_of}
use Rattle.pl_semantics.specs.Whole.{IsWhole}
use Rattle.pl_moves.specs.Changes.{gone_by, placed_by}
use Rattle.pl_moves.specs.Undone.{IsUndoneBy, picked}

-- the start that a move gives to what it places; 0 for one that gives none
abbrev pub start_of : RepairMove → ℕ
start_of (Add kind start goal) = start
start_of (Shift id start) = start
start_of _ = 0

-- whether the second move places the same activities as the first, maybe at another start
abbrev pub goes_on : RepairMove → RepairMove → Bool
goes_on (Add kind start goal) (Add k t g) = (kind == k) && same_number goal g
goes_on (Shift id start) (Shift i t) = id == i
goes_on _ _ = false

-- how many conflicts a move leaves, or the greatest number of the count's type if it leaves more
abbrev pub counted : PlanState → RepairMove → ℕ
counted s m = min (left_after s m) 4294967295

-- a proper move that nothing refuses
pub record CanBeMade (s : PlanState) (m : RepairMove) : Type 0 where
  pub proper : is_proper s m ≡ true
  pub allowed : refusal_of s m ≡ None

-- what the move takes out and places, and what undoes it
pub record IsTrialOf (s : PlanState) (m : RepairMove) (gone : List ℕ) (placed : List Activity) (leaving : List ℕ) (returning : List Activity) : Type 0 where
  pub whole : IsWhole s
  pub undone : IsUndoneBy s m gone placed leaving returning
  pub gone_is : gone ≡ gone_by s m
  pub placed_is : placed ≡ placed_by s m
  pub leaving_is : leaving ≡ map id_of (placed_by s m)
  pub returning_is : returning ≡ picked s.plan.activities (gone_by s m)

-- how many conflicts a move leaves, and how many each of some others leaves, from the first one on
pub record IsCountOf (s : PlanState) (m : RepairMove) (more : List RepairMove) (one : ℕ) (others : List ℕ) : Type 0 where
  pub alone : one ≡ counted s m
  pub each : others ≡ map (counted s) (take (length others) more)
  pub few : length others ≤ length more
