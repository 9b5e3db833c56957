-- An activity of which no alternative is chosen has no children.
use Rattle.std.proofs.Common.{◌≡◌, ◌<◌, ℕ, eqb, Bool, true, false, List, [], ◌∷◌, length, Some, None, Option, refl, sym, subst, arith}
use Rattle.std.specs.Prelude.{All, IfSome}
use Rattle.std.proofs.lemmas.Bool.{eqb-true}
use Rattle.std.proofs.lemmas.List.Elements.{All-head, All-tail}
use Rattle.pl_model.specs.declared.whole.Model.{Model}
use Rattle.pl_model.specs.declared.alternatives.Slot.{Slot}
use Rattle.pl_plan.specs.declared.activity.Activity.{Activity}
use Rattle.pl_plan.specs.Activities.{activity_of}
use Rattle.pl_plan.specs.Fitting.{IsInSlot, chosen_slots_of}
use Rattle.pl_plan.specs.Index.{is_number}
use Rattle.pl_plan.specs.Trees.{is_child, children_of, parent_id}
use Rattle.pl_semantics.specs.declared.plan_state.PlanState.{PlanState}
use Rattle.pl_semantics.specs.Whole.{IsWhole}

module _ (model : Model) (xs : List Activity) (id : ℕ) (a : Activity) (here : activity_of id xs ≡ Some a) (none : a.detail ≡ None) where
  no_child : (y : Activity) → IsInSlot model xs y → is_child id y ≡ false
  no_child y fits = by y.parent fits
    where
      by : (o : Option (ℕ × ℕ)) → IfSome o (λ p. p.1 < length (chosen_slots_of model (activity_of p.0 xs))) → is_number id (parent_id o) ≡ false
      by None fits = refl
      by (Some p) fits = test (eqb p.0 id) refl
        where
          test : (b : Bool) → eqb p.0 id ≡ b → eqb p.0 id ≡ false
          test false e = e
          test true e = absurd (
              let at : activity_of p.0 xs ≡ Some a = subst (λ n. activity_of n xs ≡ Some a) (sym (eqb-true p.0 id e)) here in
              let slots : chosen_slots_of model (activity_of p.0 xs) ≡ [] = rw (at, none) refl in
              let less : p.1 < 0 = subst (λ (l : List Slot). p.1 < length l) slots fits in
              omega (arith, less))

  none_in : (ys : List Activity) → All (IsInSlot model xs) ys → children_of id ys ≡ []
  none_in [] all = refl
  none_in (y ∷ ys) all = rw (no_child y (All-head (IsInSlot model xs) y ys all)) (none_in ys (All-tail (IsInSlot model xs) y ys all))

pub childless : (s : PlanState) (id : ℕ) (a : Activity) → IsWhole s → activity_of id s.plan.activities ≡ Some a → a.detail ≡ None → children_of id s.plan.activities ≡ []
childless s id a whole here none = none_in s.model s.plan.activities id a here none s.plan.activities whole.fits.no_other
