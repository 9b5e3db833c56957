-- What is read of what is kept.
use Rattle.std.proofs.Common.{◌≡◌, ℕ, List, Option, Some, None, IsSome, refl, ap, ◌∙◌}
use Rattle.pl_model.specs.declared.whole.Model.{Model}
use Rattle.pl_plan.specs.declared.activity.Activity.{Activity}
use Rattle.pl_plan.specs.declared.evaluated.Evaluated.{Evaluated}
use Rattle.pl_plan.specs.Activities.{IsLive, activity_of}
use Rattle.pl_plan.specs.Values.{values_of}
use Rattle.pl_semantics.proofs.Found.{found_id}
use Rattle.pl_update.specs.Evaluations.Kept.{comes_to, come_to}

module _ (model : Model) (xs : List Activity) where
  -- of a live activity
  pub kept_is : (a : Activity) → activity_of a.id xs ≡ Some a → (e : Evaluated) → Some e ≡ come_to model xs a.id → e ≡ comes_to model xs a
  kept_is a live e is = let same : Some e ≡ Some (comes_to model xs a) = is ∙ rw live refl in cc

  pub none_kept : (a : Activity) → activity_of a.id xs ≡ Some a → None ≡ come_to model xs a.id → ⊥
  none_kept a live is = let bad : None ≡ Some (comes_to model xs a) = is ∙ rw live refl in cc

  -- by an id
  pub kept_there : (id : ℕ) → IsLive id xs → None ≡ come_to model xs id → ⊥
  kept_there id live is = by (activity_of id xs) refl
    where
      by : (o : Option Activity) → activity_of id xs ≡ o → ⊥
      by None e = let bad : IsSome {T = Activity} None = rw e at live in cc
      by (Some a) e = let bad : None ≡ Some (comes_to model xs a) = is ∙ rw e refl in cc

  -- its values
  pub values_kept : (id : ℕ) (e : Evaluated) → Some e ≡ come_to model xs id → e.values ≡ values_of model xs id
  values_kept id e is = by (activity_of id xs) refl
    where
      by : (o : Option Activity) → activity_of id xs ≡ o → e.values ≡ values_of model xs id
      by None f = let bad : Some e ≡ None = is ∙ rw f refl in absurd (cc)
      by (Some a) f =
          let same : Some e ≡ Some (comes_to model xs a) = is ∙ rw f refl in
          let comes : e ≡ comes_to model xs a = cc in
          ap (λ (v : Evaluated). v.values) comes ∙ ap (values_of model xs) (found_id id xs a f)
