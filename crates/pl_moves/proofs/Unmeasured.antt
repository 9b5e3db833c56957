-- What a move that is not refused changes has no measured end.
use Rattle.std.proofs.Common.{◌≡◌, Bool, true, false, get_or}
use Rattle.std.specs.Prelude.{◌&&◌, All, None}
use Rattle.pl_plan.specs.declared.activity.Activity.{Activity}
use Rattle.pl_plan.specs.declared.repair.RepairMove.{RepairMove}
use Rattle.pl_plan.proofs.Kept.{each_found}
use Rattle.pl_semantics.specs.declared.plan_state.PlanState.{PlanState}
use Rattle.pl_semantics.specs.PlanStates.{is_committed}
use Rattle.pl_semantics.specs.Whole.{IsWhole}
use Rattle.pl_semantics.specs.Moves.{is_changed, is_locked, refusal_of}
use Rattle.pl_semantics.specs.Legal.{MayBeMade}
use Rattle.pl_semantics.proofs.Measured.{not_measured}
use Rattle.pl_semantics.proofs.Refusing.{may}

pub not_both : (b c : Bool) → (b && c) ≡ false → b ≡ true → c ≡ false
not_both true c e is = e
not_both false c e is = absurd (cc)

pub unmeasured : (s : PlanState) → IsWhole s → (m : RepairMove) → refusal_of s m ≡ None → All (λ (a : Activity). is_changed s m a ≡ true → a.measured ≡ None) s.plan.activities
unmeasured s whole m allowed i d lt changed =
    let a : Activity = get_or s.plan.activities i d in
    let keeps : MayBeMade s m = may s m allowed in
    let unlocked : is_locked s m a ≡ false = keeps.unlocked i d lt in
    not_measured s whole a.id a (each_found s.plan.activities whole.rising i d lt) (not_both (is_changed s m a) (is_committed s a) unlocked changed)
