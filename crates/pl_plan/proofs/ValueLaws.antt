-- The values of a plan that fits a checked model have their meanings, and no others do.
use Rattle.std.proofs.Common.{◌≡◌, ℕ, zero, suc, ◌<◌, List, [], length, get_or, Option, Some, None, IsSome, refl, sym, ap, ◌∙◌, subst, arith}
use Rattle.pl_model.specs.declared.kinds.Kind.{Kind}
use Rattle.pl_model.specs.declared.whole.Model.{Model}
use Rattle.pl_model.specs.Checked.{IsChecked, AreParamsRanked, params_of}
use Rattle.pl_plan.specs.declared.activity.Activity.{Activity}
use Rattle.pl_plan.specs.Activities.{activity_of, IsLive}
use Rattle.pl_plan.specs.Trees.{IsRooted, parent_id, parent_of}
use Rattle.pl_plan.specs.Fitting.{kind_of}
use Rattle.pl_plan.specs.Values.{Row, binding_of, bindings_at, settled, values_of}
use Rattle.pl_plan.specs.Laws.{MeansValue, AreValues, above_of}
use Rattle.pl_plan.proofs.Climbs.{parent_smaller}
use Rattle.pl_plan.proofs.ValueSteps.{values_at_root, values_at_child}
use Rattle.pl_plan.proofs.FirmSteps.{checked_kind}
use Rattle.pl_plan.proofs.Rounds.{length-settled, settled_means, meant_settled}

none_ranked : AreParamsRanked []
none_ranked = record { rank = λ p. 0; below = λ p lt. absurd (omega (arith, lt)); falls = λ p d lt. absurd (omega (arith, lt)) }

module _ (model : Model) (xs : List Activity) (checked : IsChecked model) (rooted : IsRooted xs) where
  ranked_params : (a : Activity) → AreParamsRanked (params_of (kind_of model a))
  ranked_params a = by_kind (kind_of model a) refl
    where
      by_kind : (o : Option Kind) → kind_of model a ≡ o → AreParamsRanked (params_of o)
      by_kind None e = none_ranked
      by_kind (Some k) e = (checked_kind model checked a.kind k e).ranks

  values_step : (id : ℕ) (a : Activity) → activity_of id xs ≡ Some a → values_of model xs id ≡ settled (params_of (kind_of model a)) a.set (bindings_at model xs a.parent) (above_of (values_of model xs) a.parent)
  values_step id a here = by_parent a.parent refl
    where
      by_parent : (o : Option (ℕ × ℕ)) → a.parent ≡ o → values_of model xs id ≡ settled (params_of (kind_of model a)) a.set (bindings_at model xs o) (above_of (values_of model xs) o)
      by_parent None e = values_at_root model xs rooted id a here e
      by_parent (Some p) e = values_at_child model xs rooted id a here p e

  pub values_solve : AreValues model xs (values_of model xs)
  values_solve = record {
    places = λ id a here. ap length (values_step id a here) ∙ length-settled (params_of (kind_of model a)) a.set (bindings_at model xs a.parent) (above_of (values_of model xs) a.parent) (ranked_params a);
    means = λ id a n d here lt.
        let ps = params_of (kind_of model a) in
        let bs = bindings_at model xs a.parent in
        let above = above_of (values_of model xs) a.parent in
        let P : Row → Type 0 = λ row. MeansValue (binding_of n bs) (get_or ps n d).origin (get_or a.set n None) above row (get_or row n None) in
        subst P (sym (values_step id a here)) (settled_means ps a.set bs above (ranked_params a) n d lt);
  }

  module _ (values : ℕ → Row) (are : AreValues model xs values) where
    own_step : (id : ℕ) (a : Activity) → activity_of id xs ≡ Some a → values id ≡ settled (params_of (kind_of model a)) a.set (bindings_at model xs a.parent) (above_of values a.parent)
    own_step id a here = meant_settled (params_of (kind_of model a)) a.set (bindings_at model xs a.parent) (above_of values a.parent) (ranked_params a) (values id) (are.places id a here) (λ n d lt. are.means id a n d here lt)

    same_above : (n id : ℕ) (a : Activity) → activity_of id xs ≡ Some a → (o : Option (ℕ × ℕ)) → a.parent ≡ o → ((p : ℕ) → p < id → IsLive p xs → values p ≡ values_of model xs p) → above_of values o ≡ above_of (values_of model xs) o
    same_above n id a here None e more = refl
    same_above n id a here (Some p) e more =
        let named : parent_of id xs ≡ Some p.0 = rw here (ap parent_id e) in
        let smaller = parent_smaller xs rooted id p.0 named in
        more p.0 smaller.1 smaller.0

    same_by : (n id : ℕ) → id < n → IsLive id xs → values id ≡ values_of model xs id
    same_by zero id lt live = absurd (omega (arith, lt))
    same_by (suc n) id lt live = by_activity (activity_of id xs) refl (λ p less l. same_by n p (omega (arith, less, lt)) l)
      where
        by_activity : (o : Option Activity) → activity_of id xs ≡ o → ((p : ℕ) → p < id → IsLive p xs → values p ≡ values_of model xs p) → values id ≡ values_of model xs id
        by_activity None e more = let bad : IsSome {T = Activity} None = rw e at live in absurd (cc)
        by_activity (Some a) e more =
            own_step id a e ∙ (ap (settled (params_of (kind_of model a)) a.set (bindings_at model xs a.parent)) (same_above n id a e a.parent refl more) ∙ sym (values_step id a e))

    pub values_only : (id : ℕ) → IsLive id xs → values id ≡ values_of model xs id
    values_only id live = same_by (suc id) id (omega arith) live
