-- Moves that are tried one after another, each against the best so far.
use Rattle.std.specs.Prelude.{◌≡◌, ℕ, ◌+◌, ◌≤◌, nat_lt, cond, List, [], ◌∷◌, length, All, if◌then◌else◌}
use Rattle.pl_plan.specs.declared.repair.RepairMove.{RepairMove}
use Rattle.pl_semantics.specs.declared.plan_state.PlanState.{PlanState}
use Rattle.pl_semantics.specs.Legal.{left_after}
use Rattle.pl_bounds.specs.Bounds.{AreLeast}
use Rattle.pl_choose.specs.declared.best.Best.{Best}
use Rattle.pl_choose.specs.Found.{IsAllowed}

-- the better of two moves: the second if it leaves fewer conflicts than the first, else the first
abbrev pub better_of : Best → RepairMove → ℕ → Best
better_of b m left = if nat_lt left b.left then record { mv = m; left = left } else b

-- the best of one move and some others, the first among equals
abbrev pub best_of : (RepairMove → ℕ) → Best → List RepairMove → Best
best_of left b [] = b
best_of left b (m ∷ more) = best_of left (better_of b m (left m)) more

-- What a move that stands before this one has to be better than. If this one is better than the best so far, it is enough to leave as
-- many conflicts as this one: of equals the first is chosen.
abbrev pub above : Best → RepairMove → ℕ → Best
above b m left = if nat_lt left b.left then record { mv = m; left = left + 1 } else b

-- those of some elements whose numbers are below this one; the second list has the number of each
abbrev pub below : {X : Type 0} → ℕ → List ℕ → List X → List X
below most (n ∷ ns) (x ∷ xs) = cond (nat_lt n most) (x ∷ below most ns xs) (below most ns xs)
below most ns xs = []

-- Some of the moves (`kept`), with the bound of each. The best so far and these lead to the same best move as the best so far and all
-- moves, so it makes no difference whether the others are tried.
pub record AreHopes (s : PlanState) (b : Best) (moves : List RepairMove) (kept : List RepairMove) (bounds : List ℕ) : Type 0 where
  pub allowed : All (IsAllowed s) kept
  pub least : AreLeast s kept bounds
  pub count : length bounds ≡ length kept
  pub few : length kept ≤ length moves
  pub best_is : best_of (left_after s) b kept ≡ best_of (left_after s) b moves
