-- What an activity comes to hangs on its ancestors alone.
use Rattle.std.proofs.Common.{◌≡◌, ℕ, zero, suc, ◌<◌, List, [], Option, Some, None, refl, sym, ap, ◌∙◌, arith}
use Rattle.pl_model.specs.declared.whole.Model.{Model}
use Rattle.pl_model.specs.Checked.{params_of}
use Rattle.pl_plan.specs.declared.activity.Activity.{Activity}
use Rattle.pl_plan.specs.Activities.{activity_of}
use Rattle.pl_plan.specs.Trees.{IsRooted, parent_id, parent_of, itself, child}
use Rattle.pl_plan.specs.Fitting.{kind_of}
use Rattle.pl_plan.specs.Values.{bindings_at, values_rule, values_of}
use Rattle.pl_plan.specs.Firm.{is_firm, end_of}
use Rattle.pl_plan.specs.Laws.{AreSameAbove}
use Rattle.pl_plan.proofs.Climbs.{parent_smaller, climb_root}
use Rattle.pl_plan.proofs.ValueSteps.{values_at_root, values_at_child, settled_same}

module _ (model : Model) (xs ys : List Activity) (rooted : IsRooted xs) (rooted_too : IsRooted ys) where
  none_has_none : (zs : List Activity) → IsRooted zs → (id : ℕ) → activity_of id zs ≡ None → values_of model zs id ≡ []
  unfolding values_of
  none_has_none zs r id e =
      let none : parent_of id zs ≡ None = rw e refl in
      climb_root (values_rule model zs) zs r id none ∙ rw e refl

  same_bindings : (o : Option (ℕ × ℕ)) → ((p : ℕ) → parent_id o ≡ Some p → activity_of p xs ≡ activity_of p ys) → bindings_at model xs o ≡ bindings_at model ys o
  same_bindings None same = refl
  same_bindings (Some p) same = rw (same p.0 refl) refl

  local_by : (n id : ℕ) → id < n → AreSameAbove xs ys id → values_of model xs id ≡ values_of model ys id
  local_by zero id lt same = absurd (omega (arith, lt))
  local_by (suc n) id lt same = by_activity (activity_of id xs) refl (λ p less s. local_by n p (omega (arith, less, lt)) s)
    where
      by_activity : (o : Option Activity) → activity_of id xs ≡ o → ((p : ℕ) → p < id → AreSameAbove xs ys p → values_of model xs p ≡ values_of model ys p) → values_of model xs id ≡ values_of model ys id
      by_activity None e more = none_has_none xs rooted id e ∙ sym (none_has_none ys rooted_too id (sym (same id itself) ∙ e))
      by_activity (Some a) e more = by_parent a.parent refl
        where
          f : activity_of id ys ≡ Some a
          f = sym (same id itself) ∙ e

          by_parent : (o : Option (ℕ × ℕ)) → a.parent ≡ o → values_of model xs id ≡ values_of model ys id
          by_parent None g = values_at_root model xs rooted id a e g ∙ sym (values_at_root model ys rooted_too id a f g)
          by_parent (Some p) g =
              let named : parent_of id xs ≡ Some p.0 = rw e (ap parent_id g) in
              let above : AreSameAbove xs ys p.0 = λ q down. same q (child id p.0 named down) in
              let bindings : bindings_at model xs (Some p) ≡ bindings_at model ys (Some p) = same_bindings (Some p) (λ q is. let is_this : p.0 ≡ q = cc in rw (← is_this) (above p.0 itself)) in
              values_at_child model xs rooted id a e p g ∙ (settled_same (params_of (kind_of model a)) _ a.set _ _ _ _ _ refl refl bindings (more p.0 (parent_smaller xs rooted id p.0 named).1 above) ∙ sym (values_at_child model ys rooted_too id a f p g))

  pub values_local : (id : ℕ) → AreSameAbove xs ys id → values_of model xs id ≡ values_of model ys id
  values_local id same = local_by (suc id) id (omega arith) same

  pub firm_local : (id : ℕ) → AreSameAbove xs ys id → is_firm model xs id ≡ is_firm model ys id
  unfolding is_firm
  firm_local id same = rw (same id itself, values_local id same) refl

  pub end_local : (id : ℕ) → AreSameAbove xs ys id → end_of model xs id ≡ end_of model ys id
  unfolding end_of
  end_local id same = rw (same id itself, values_local id same) refl
