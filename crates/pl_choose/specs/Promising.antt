-- A conflict that stands alone, and the first move that is tried for it.
use Rattle.std.specs.Prelude.{◌≡◌, ◌≤◌, true, All, List, [], ◌∷◌}
use Rattle.pl_plan.specs.declared.repair.RepairMove.{RepairMove}
use Rattle.pl_semantics.specs.declared.plan_state.PlanState.{PlanState}
use Rattle.pl_semantics.specs.Conflicts.{conflicts_of}
use Rattle.pl_semantics.specs.Legal.{legal_for}
use Rattle.pl_semantics.specs.Moves.{is_proper}
use Rattle.pl_moves.specs.Least.{least_known}
use Rattle.pl_cand.specs.declared.proposal.Proposal.{Proposal}

-- The list begins with this item.
pub record BeginsWith {X : Type 0} (x : X) (xs : List X) : Type 0 where
  pub more : List X
  pub is : xs ≡ x ∷ more

-- Each of these moves that makes sense has at least as high a bound as this one.
abbrev pub LeaveAsMany : PlanState → RepairMove → List RepairMove → Type 0
LeaveAsMany s m ms = All (λ other. is_proper s other ≡ true → least_known s m ≤ least_known s other) ms

-- It is the first of these moves, and none of them that makes sense has a lower bound.
pub record IsForemost (s : PlanState) (m : RepairMove) (ms : List RepairMove) : Type 0 where
  pub first : BeginsWith m ms
  pub least : LeaveAsMany s m ms

-- No other conflict stands, and the move is the foremost of its legal candidates.
pub record IsPromising (s : PlanState) (p : Proposal) : Type 0 where
  pub alone : conflicts_of s ≡ p.conflict ∷ []
  pub foremost : IsForemost s p.mv (legal_for s p.conflict)
