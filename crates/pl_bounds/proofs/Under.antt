-- An activity without a chosen alternative is alone in its subtree.
use Rattle.std.proofs.Common.{◌≡◌, ℕ, eqb, List, [], ◌∷◌, None, Some, refl, sym, ap, ◌∙◌}
use Rattle.std.specs.Prelude.{◌||◌}
use Rattle.std.specs.List.{list_any}
use Rattle.std.specs.List.Sorted.{IsStrictlySortedBy}
use Rattle.std.proofs.Math.Bool.{or-false}
use Rattle.std.proofs.lemmas.Cmp.{nat_eq_equiv}
use Rattle.pl_plan.specs.declared.activity.Activity.{Activity}
use Rattle.pl_plan.specs.Activities.{activity_of}
use Rattle.pl_plan.specs.Trees.{descends, subtree_of}
use Rattle.pl_plan.proofs.Subtrees.{descends_below, subtree_is}
use Rattle.pl_semantics.specs.declared.plan_state.PlanState.{PlanState}
use Rattle.pl_semantics.specs.Whole.{IsWhole}
use Rattle.pl_update.proofs.AboutGoalsAndActivities.Childless.{childless}

pub alone_below : (s : PlanState) (id : ℕ) (a : Activity) → IsWhole s → activity_of id s.plan.activities ≡ Some a → a.detail ≡ None → subtree_of id s.plan.activities ≡ id ∷ []
unfolding IsStrictlySortedBy
alone_below s id a whole here none =
    let xs = s.plan.activities in
    sym (subtree_is xs whole.fits.rooted whole.rising id (id ∷ []) (rw here refl) (tt, tt) (λ q.
    or-false (eqb q id) ∙ (nat_eq_equiv.symm q id ∙ (sym (ap (λ (l : List ℕ). list_any (λ c. descends xs c q) l || eqb id q) (childless s id a whole here none)) ∙ descends_below xs whole.fits.rooted whole.rising id q))))
