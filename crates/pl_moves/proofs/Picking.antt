-- The activities of the ids of a subtree are those of the subtree.
use Rattle.std.proofs.Common.{◌≡◌, ℕ, Bool, true, false, cond, List, map, filter, refl, sym, ap, ◌∙◌}
use Rattle.std.specs.Prelude.{◌&&◌, Option, Some, None, is_some}
use Rattle.pl_plan.specs.declared.activity.Activity.{Activity}
use Rattle.pl_plan.specs.Activities.{AreRising, activity_of}
use Rattle.pl_plan.specs.Moves.{kept}
use Rattle.pl_plan.specs.Trees.{descends, subtree_of}
use Rattle.pl_plan.proofs.ByLookUps.{filter_rising}
use Rattle.pl_plan.proofs.Kept.{found-kept}
use Rattle.pl_plan.proofs.LookUpLaws.{same_activities}
use Rattle.pl_plan.proofs.RisingIds.{RiseIds}
use Rattle.pl_semantics.specs.declared.plan_state.PlanState.{PlanState}
use Rattle.pl_semantics.specs.PlanStates.{among, found}
use Rattle.pl_semantics.specs.Whole.{IsWhole}
use Rattle.pl_semantics.specs.Moves.{moved, moved_with}
use Rattle.pl_moves.specs.Undone.{picked}
use Rattle.pl_moves.proofs.Returning.{found_picked, picked_rise, subtree_rise, has_its_id}
use Rattle.pl_moves.proofs.Subtrees.{among_subtree}

picked_kept : (xs : List Activity) (ids : List ℕ) (stays : ℕ → Bool) → AreRising xs → RiseIds 0 ids → ((q : ℕ) (o : Option Activity) → activity_of q xs ≡ o → cond (among q ids) o None ≡ cond (stays q) o None) → picked xs ids ≡ kept stays xs
picked_kept xs ids stays rising rise alike = same_activities (picked xs ids) (kept stays xs) (picked_rise xs 0 ids rise) (filter_rising (λ a. stays a.id) 0 xs rising) (λ q. found_picked xs ids q ∙ (alike q (activity_of q xs) refl ∙ sym (found-kept stays xs q)))

pub picked_subtree : (xs : List Activity) (top : ℕ) → AreRising xs → picked xs (subtree_of top xs) ≡ filter (λ a. descends xs top a.id) xs
picked_subtree xs top rising = picked_kept xs (subtree_of top xs) (descends xs top) rising (subtree_rise xs rising top) alike
  where
    alike : (q : ℕ) (o : Option Activity) → activity_of q xs ≡ o → cond (among q (subtree_of top xs)) o None ≡ cond (descends xs top q) o None
    alike q o e = rw (among_subtree xs top q, e) (by (descends xs top q) o)
      where
        by : (d : Bool) (o : Option Activity) → cond (d && is_some o) o None ≡ cond d o None
        by true None = refl
        by true (Some a) = refl
        by false o = refl

pub moved_picked : (s : PlanState) → IsWhole s → (id : ℕ) (ids : List ℕ) (a : Activity) (to : ℕ) → ids ≡ subtree_of id s.plan.activities → found s id ≡ Some a → map (moved a.start to) (picked s.plan.activities ids) ≡ moved_with s to (found s id)
moved_picked s whole id ids a to is here =
    let xs = s.plan.activities in
    let is_id : a.id ≡ id = has_its_id xs id a here in
    rw (here, is, ← is_id) (ap (map (moved a.start to)) (picked_subtree xs a.id whole.rising))
