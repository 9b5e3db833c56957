-- An activity that is not committed has no measured end.
use Rattle.std.proofs.Common.{◌≡◌, ℕ, ◌<◌, ◌≤◌, false, Option, Some, None, IfSome, refl, arith}
use Rattle.std.proofs.lemmas.Bool.{ltb-false}
use Rattle.pl_plan.specs.declared.activity.Activity.{Activity}
use Rattle.pl_semantics.specs.declared.plan_state.PlanState.{PlanState}
use Rattle.pl_semantics.specs.PlanStates.{found, is_committed}
use Rattle.pl_semantics.specs.Whole.{HasBegun, IsWhole}
use Rattle.pl_semantics.proofs.Found.{all_found}

-- what has begun, and starts when nothing is committed any more, has no measured end
pub unmeasured : (moment committed start : ℕ) (measured : Option ℕ) → IfSome measured (λ end. (start ≤ moment) × (start < committed)) → committed ≤ start → measured ≡ None
unmeasured moment committed start None begun le = refl
unmeasured moment committed start (Some m) begun le = absurd (let lt = begun.1 in omega (arith, lt, le))

pub not_measured : (s : PlanState) → IsWhole s → (id : ℕ) (a : Activity) → found s id ≡ Some a → is_committed s a ≡ false → a.measured ≡ None
not_measured s whole id a here free = unmeasured s.moment s.committed a.start a.measured (all_found (HasBegun s.moment s.committed) id s.plan.activities a whole.begun here) (ltb-false a.start s.committed free)
