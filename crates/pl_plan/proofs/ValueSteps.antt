-- The values of an activity's parameters, from those of its parent.
use Rattle.std.proofs.Common.{◌≡◌, ℕ, List, [], Some, None, refl, ap, ◌∙◌}
use Rattle.pl_model.specs.declared.expressions.Expr.{Expr}
use Rattle.pl_model.specs.declared.parameters.Param.{Param}
use Rattle.pl_model.specs.declared.whole.Model.{Model}
use Rattle.pl_model.specs.Checked.{params_of}
use Rattle.pl_plan.specs.declared.activity.Activity.{Activity}
use Rattle.pl_plan.specs.Activities.{activity_of}
use Rattle.pl_plan.specs.Trees.{IsRooted, parent_id, parent_of}
use Rattle.pl_plan.specs.Fitting.{kind_of}
use Rattle.pl_plan.specs.Values.{Row, bindings_at, settled, values_rule, values_of}
use Rattle.pl_plan.proofs.Climbs.{climb_root, climb_child}

module _ (model : Model) (xs : List Activity) (rooted : IsRooted xs) (id : ℕ) (a : Activity) (here : activity_of id xs ≡ Some a) where
  pub values_at_root : a.parent ≡ None → values_of model xs id ≡ settled (params_of (kind_of model a)) a.set [] []
  unfolding values_of
  values_at_root e =
      let none : parent_of id xs ≡ None = rw here (ap parent_id e) in
      climb_root (values_rule model xs) xs rooted id none ∙ rw (here, e) refl

  pub values_at_child : (p : ℕ × ℕ) → a.parent ≡ Some p → values_of model xs id ≡ settled (params_of (kind_of model a)) a.set (bindings_at model xs (Some p)) (values_of model xs p.0)
  unfolding values_of
  values_at_child p e =
      let named : parent_of id xs ≡ Some p.0 = rw here (ap parent_id e) in
      climb_child (values_rule model xs) xs rooted id p.0 named ∙ rw (here, e) refl

pub settled_same : (ps qs : List Param) (s t : Row) (b c : List (ℕ × Expr)) (x y : Row) → ps ≡ qs → s ≡ t → b ≡ c → x ≡ y → settled ps s b x ≡ settled qs t c y
settled_same ps qs s t b c x y p q r e = ap (λ l. settled l s b x) p ∙ (ap (λ l. settled qs l b x) q ∙ (ap (λ l. settled qs t l x) r ∙ ap (settled qs t c) e))
