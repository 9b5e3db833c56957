-- What is wrong with goals and activities that a change does not concern stands after it.
use Rattle.std.proofs.Common.{◌≡◌, ℕ, Bool, true, false, List, refl, ◌∙◌}
use Rattle.std.specs.Prelude.{◌||◌, ◌&&◌, not}
use Rattle.pl_conflict.specs.declared.conflict.Conflict.{Conflict}
use Rattle.pl_conflict.specs.Order.{has}
use Rattle.pl_semantics.specs.declared.plan_state.PlanState.{PlanState}
use Rattle.pl_semantics.specs.Whole.{IsWhole}
use Rattle.pl_semantics.specs.Conflicts.{conflicts_of}
use Rattle.pl_update.specs.GoalsAndActivities.Near.{near, IsPlain, Follows}
use Rattle.pl_update.proofs.AboutGoalsAndActivities.Standing.{mended}

stays : (before went comes : Bool) → before ≡ true → went ≡ false → ((before && not went) || comes) ≡ true
stays true false comes e f = refl
stays true true comes e f = absurd (cc)
stays false went comes e f = absurd (cc)

pub steady : (s t : PlanState) (numbers ids : List ℕ) → IsWhole s → IsWhole t → Follows s t numbers ids → (q : Conflict) → IsPlain q
    → has q (conflicts_of s) ≡ true → has q (near s numbers ids) ≡ false → has q (conflicts_of t) ≡ true
steady s t numbers ids whole whole_too follows q plain there off =
    mended s t numbers ids whole whole_too follows q plain ∙ stays (has q (conflicts_of s)) (has q (near s numbers ids)) (has q (near t numbers ids)) there off
