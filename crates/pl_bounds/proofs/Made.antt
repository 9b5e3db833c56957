-- What a move that can be made leaves, and what it concerns.
use Rattle.std.proofs.Common.{◌≡◌, ◌≤◌, true, false, List, ap, ◌∙◌, subst}
use Rattle.pl_update.specs.Changes.Replaced.{CanReplace}
use Rattle.pl_update.proofs.AboutChanges.Keeping.{whole_replaced}
use Rattle.pl_conflict.specs.declared.conflict.Conflict.{Conflict}
use Rattle.pl_conflict.specs.Order.{has}
use Rattle.pl_moves.specs.Changes.{IsOfActivities, gone_by, placed_by}
use Rattle.pl_moves.specs.Runs.{CanBeMade}
use Rattle.pl_moves.proofs.Made.{IsMadeBy, made, can_replace}
use Rattle.pl_update.specs.GoalsAndActivities.Near.{Follows}
use Rattle.pl_update.specs.GoalsAndActivities.Touched.{touched_goals, touched_ids}
use Rattle.pl_update.proofs.AboutGoalsAndActivities.Touching.{follows_plan}
use Rattle.pl_plan.specs.declared.repair.RepairMove.{RepairMove}
use Rattle.pl_semantics.specs.declared.plan_state.PlanState.{PlanState}
use Rattle.pl_semantics.specs.PlanStates.{among}
use Rattle.pl_semantics.specs.Conflicts.{conflicts_of}
use Rattle.pl_semantics.specs.Moves.{applied}
use Rattle.pl_semantics.specs.Whole.{IsWhole}
use Rattle.pl_bounds.proofs.Opens.{is_open_goal, open_is_left, open_stands}

module _ (s : PlanState) (whole : IsWhole s) (next : s.next_id ≤ 3999999000) (m : RepairMove) (of : IsOfActivities m) (can : CanBeMade s m) where
  by : IsMadeBy s m
  by = made s whole m of can.proper can.allowed

  replaces : CanReplace s (gone_by s m) (placed_by s m)
  replaces = can_replace s whole next m by

  pub whole_then : IsWhole (applied s m)
  whole_then = subst (λ (t : PlanState). IsWhole t) by.is (whole_replaced s (gone_by s m) (placed_by s m) whole replaces)

  pub follows : Follows s (applied s m) (touched_goals s (gone_by s m) (placed_by s m)) (touched_ids s (gone_by s m) (placed_by s m))
  follows = subst (λ (t : PlanState). Follows s t (touched_goals s (gone_by s m) (placed_by s m)) (touched_ids s (gone_by s m) (placed_by s m))) by.is (follows_plan s (gone_by s m) (placed_by s m) whole replaces)

  -- an open goal that the move does not touch stands then
  pub stays : (q : Conflict) → is_open_goal q ≡ true → has q (conflicts_of s) ≡ true → among q.subject (touched_goals s (gone_by s m) (placed_by s m)) ≡ false → has q (conflicts_of (applied s m)) ≡ true
  stays q opened there apart =
      open_is_left (applied s m) whole_then q (ap (λ (ks : List Conflict). has q ks) (follows.opens q.subject apart) ∙ open_stands s whole q opened there)
