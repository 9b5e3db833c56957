-- A move of activities is a replacement, and leaves no fewer conflicts than its parts come to.
use Rattle.std.proofs.Common.{◌≡◌, ℕ, ◌+◌, ◌≤◌, List, map, length, subst, arith}
use Rattle.std.specs.Prelude.{All}
use Rattle.pl_plan.specs.declared.repair.RepairMove.{RepairMove}
use Rattle.pl_plan.specs.declared.repair.RepairMove.TheVariants.{Add, Delete, Shift, Detail, Abstract, Assign, Drop}
use Rattle.pl_plan.specs.declared.activity.Activity.{Activity}
use Rattle.pl_plan.specs.Activities.{AreRising}
use Rattle.pl_plan.specs.Trees.{id_of, descends, subtree_of}
use Rattle.pl_plan.proofs.RisingIds.{RiseIds, filter_rises}
use Rattle.pl_plan.proofs.Members.{ids_rise}
use Rattle.pl_semantics.specs.declared.plan_state.PlanState.{PlanState}
use Rattle.pl_semantics.specs.Whole.{IsWhole}
use Rattle.pl_semantics.specs.Moves.{applied}
use Rattle.pl_semantics.specs.Legal.{left_after}
use Rattle.pl_semantics.specs.Conflicts.{conflicts_of}
use Rattle.pl_update.specs.Changes.Replaced.{CanReplace, with_plan}
use Rattle.pl_update.proofs.AboutChanges.Keeping.{whole_replaced}
use Rattle.pl_update.specs.Timelines.Laws.{AreOnce}
use Rattle.pl_update.proofs.AboutTimelines.Replacing.{once_rising}
use Rattle.pl_moves.specs.Changes.{gone_by, placed_by, IsOfActivities}
use Rattle.pl_moves.specs.Runs.{CanBeMade}
use Rattle.pl_moves.proofs.Made.{made, can_replace}
use Rattle.pl_bounds.specs.declared.outside.Outside.{Outside}
use Rattle.pl_bounds.specs.Plain.{count_of_plain}
use Rattle.pl_bounds.specs.Ties.{count_of_links}
use Rattle.pl_bounds.specs.Bounds.{left_beside_states}
use Rattle.pl_bounds.specs.Marks.{count_of_states}
use Rattle.pl_bounds.specs.Sides.{HasLimit, AreDifferent, times_past}
use Rattle.pl_bounds.proofs.Parts.{three_parts, parts}

-- ---- what goes is named once

subtree_rises : (xs : List Activity) → AreRising xs → (top : ℕ) → RiseIds 0 (subtree_of top xs)
unfolding subtree_of
subtree_rises xs rising top = filter_rises (descends xs top) 0 (map id_of xs) (ids_rise 0 xs rising)

gone_rises : (s : PlanState) → AreRising s.plan.activities → (m : RepairMove) → RiseIds 0 (gone_by s m)
gone_rises s rising (Add kind start goal) = tt
gone_rises s rising (Delete id) = subtree_rises s.plan.activities rising id
gone_rises s rising (Shift id start) = subtree_rises s.plan.activities rising id
gone_rises s rising (Detail id alternative) = (omega arith, tt)
gone_rises s rising (Abstract id) = subtree_rises s.plan.activities rising id
gone_rises s rising (Assign id param value) = subtree_rises s.plan.activities rising id
gone_rises s rising (Drop goal) = tt

pub once_gone : (s : PlanState) → IsWhole s → (m : RepairMove) → AreOnce (gone_by s m)
once_gone s whole m = once_rising 0 (gone_by s m) (gone_rises s whole.rising m)

-- ---- a replacement

module _ (s : PlanState) (m : RepairMove) (whole : IsWhole s) (next : s.next_id ≤ 3999999000) (can : CanBeMade s m) (of : IsOfActivities m) where
  pub can_place : CanReplace s (gone_by s m) (placed_by s m)
  can_place = can_replace s whole next m (made s whole m of can.proper can.allowed)

  pub placed_is : with_plan (gone_by s m) (placed_by s m) s ≡ applied s m
  placed_is = (made s whole m of can.proper can.allowed).is

  -- with what is wrong with states
  pub leaves_all : (os : List Outside) → AreDifferent os → All (HasLimit s) os → (k n : ℕ) → k ≤ count_of_states (with_plan (gone_by s m) (placed_by s m) s) → n ≤ times_past (with_plan (gone_by s m) (placed_by s m) s) os
      → count_of_plain (applied s m) + count_of_links (applied s m) + (k + n) ≤ left_after s m
  unfolding left_after
  leaves_all os different limits k n some few =
      let all = parts (with_plan (gone_by s m) (placed_by s m) s) os (whole_replaced s (gone_by s m) (placed_by s m) whole can_place) different limits in
      subst (λ (t : PlanState). count_of_plain t + count_of_links t + (k + n) ≤ length (conflicts_of t)) placed_is (omega (arith, all, some, few))

  -- beside what is wrong with states
  pub leaves : (os : List Outside) → AreDifferent os → All (HasLimit s) os → (n : ℕ) → n ≤ times_past (with_plan (gone_by s m) (placed_by s m) s) os
      → count_of_plain (applied s m) + count_of_links (applied s m) + n ≤ left_beside_states s m
  unfolding left_beside_states
  leaves os different limits n few =
      let states : count_of_states (applied s m) ≤ count_of_states (with_plan (gone_by s m) (placed_by s m) s) = subst (λ (t : PlanState). count_of_states t ≤ count_of_states (with_plan (gone_by s m) (placed_by s m) s)) placed_is (omega arith) in
      let all = leaves_all os different limits (count_of_states (applied s m)) n states few in
      omega (arith, all)

pub leaves_both : (s : PlanState) (m : RepairMove) → count_of_plain (applied s m) + count_of_links (applied s m) + 0 ≤ left_beside_states s m
unfolding left_after left_beside_states
leaves_both s m = omega (arith, three_parts (applied s m))
