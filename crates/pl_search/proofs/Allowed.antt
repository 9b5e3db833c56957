-- A move that may be made.
use Rattle.std.proofs.Common.{◌≡◌, ◌≤◌, true}
use Rattle.pl_lists.proofs.Elements.{none_from_test}
use Rattle.pl_plan.specs.declared.repair.RepairMove.{RepairMove}
use Rattle.pl_semantics.specs.declared.plan_state.PlanState.{PlanState}
use Rattle.pl_semantics.specs.Moves.{is_proper, refusal_of}
use Rattle.pl_semantics.specs.Legal.{is_legal}
use Rattle.pl_moves.specs.Changes.{IsOfActivities}
use Rattle.pl_search.specs.Undos.{MayBeMade}

pub may_be : (s : PlanState) (m : RepairMove) → s.next_id ≤ 3999999000 → IsOfActivities m → is_proper s m ≡ true → is_legal s m ≡ true → MayBeMade s m
may_be s m few activities proper legal = record {
  can = record { proper = proper; allowed = none_from_test (refusal_of s m) legal };
  activities = activities;
  next = few;
}
