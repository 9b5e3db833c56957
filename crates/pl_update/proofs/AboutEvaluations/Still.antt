-- Values do not hang on starts and on measured ends.
use Rattle.std.proofs.Common.{◌≡◌, ℕ, zero, suc, ◌<◌, List, [], Option, Some, None, refl, sym, ap, ◌∙◌, arith}
use Rattle.std.specs.Option.{option_map}
use Rattle.pl_model.specs.declared.whole.Model.{Model}
use Rattle.pl_model.specs.Checked.{params_of}
use Rattle.pl_plan.specs.declared.activity.Activity.{Activity}
use Rattle.pl_plan.specs.Activities.{activity_of}
use Rattle.pl_plan.specs.Trees.{IsRooted, parent_id, parent_of}
use Rattle.pl_plan.specs.Fitting.{kind_of, chosen_slots_of}
use Rattle.pl_plan.specs.Values.{bindings_at, values_rule, values_of}
use Rattle.pl_update.specs.Evaluations.Shifted.{still, AreStill}
use Rattle.pl_plan.proofs.Climbs.{parent_smaller, climb_root}
use Rattle.pl_plan.proofs.ValueSteps.{values_at_root, values_at_child, settled_same}

-- an activity without its start and its measured end
abbrev pub bare : Activity → Activity
bare a = record a { start = 0; measured = None }

-- the same activities but for their starts and their measured ends
abbrev pub AreBare : List Activity → List Activity → Type 0
AreBare xs ys = (q : ℕ) → option_map bare (activity_of q xs) ≡ option_map bare (activity_of q ys)

module _ (model : Model) (xs ys : List Activity) (rooted : IsRooted xs) (rooted_too : IsRooted ys) (same : AreBare xs ys) where
  none_too : (o : Option Activity) → None ≡ option_map bare o → o ≡ None
  none_too None e = refl
  none_too (Some b) e = absurd (cc)

  one_too : (a : Activity) (o : Option Activity) → Some (bare a) ≡ option_map bare o → (b : Activity) × (o ≡ Some b) × (bare a ≡ bare b)
  one_too a None e = absurd (cc)
  one_too a (Some b) e = (b, refl, (let s : bare a ≡ bare b = cc in s))

  none_has_none : (zs : List Activity) → IsRooted zs → (id : ℕ) → activity_of id zs ≡ None → values_of model zs id ≡ []
  unfolding values_of
  none_has_none zs r id e =
      let none : parent_of id zs ≡ None = rw e refl in
      climb_root (values_rule model zs) zs r id none ∙ rw e refl

  slots_alike : (o w : Option Activity) → option_map bare o ≡ option_map bare w → chosen_slots_of model o ≡ chosen_slots_of model w
  slots_alike None None e = refl
  slots_alike None (Some b) e = absurd (cc)
  slots_alike (Some a) None e = absurd (cc)
  slots_alike (Some a) (Some b) e = (let s : bare a ≡ bare b = cc in ap (λ z. chosen_slots_of model (Some z)) s)

  same_bindings : (p : ℕ × ℕ) → bindings_at model xs (Some p) ≡ bindings_at model ys (Some p)
  same_bindings p = rw (slots_alike (activity_of p.0 xs) (activity_of p.0 ys) (same p.0)) refl

  bare_by : (n id : ℕ) → id < n → values_of model xs id ≡ values_of model ys id
  bare_by zero id lt = absurd (omega (arith, lt))
  bare_by (suc n) id lt = by_activity (activity_of id xs) refl (λ p less. bare_by n p (omega (arith, less, lt)))
    where
      by_activity : (o : Option Activity) → activity_of id xs ≡ o → ((p : ℕ) → p < id → values_of model xs p ≡ values_of model ys p) → values_of model xs id ≡ values_of model ys id
      by_activity None e more = none_has_none xs rooted id e ∙ sym (none_has_none ys rooted_too id (none_too (activity_of id ys) (sym (ap (option_map bare) e) ∙ same id)))
      by_activity (Some a) e more = by_parent a.parent refl
        where
          there : (b : Activity) × (activity_of id ys ≡ Some b) × (bare a ≡ bare b)
          there = one_too a (activity_of id ys) (sym (ap (option_map bare) e) ∙ same id)

          b : Activity
          b = there.0

          params : params_of (kind_of model a) ≡ params_of (kind_of model b)
          params = ap (λ z. params_of (kind_of model z)) there.2

          by_parent : (o : Option (ℕ × ℕ)) → a.parent ≡ o → values_of model xs id ≡ values_of model ys id
          by_parent None g = values_at_root model xs rooted id a e g ∙ (settled_same (params_of (kind_of model a)) _ a.set _ _ _ _ _ params (ap (λ z. z.set) there.2) refl refl ∙ sym (values_at_root model ys rooted_too id b there.1 (sym (ap (λ z. z.parent) there.2) ∙ g)))
          by_parent (Some p) g =
              let named : parent_of id xs ≡ Some p.0 = rw e (ap parent_id g) in
              values_at_child model xs rooted id a e p g
              ∙ (settled_same (params_of (kind_of model a)) _ a.set _ _ _ _ _ params (ap (λ z. z.set) there.2) (same_bindings p) (more p.0 (parent_smaller xs rooted id p.0 named).1)
              ∙ sym (values_at_child model ys rooted_too id b there.1 p (sym (ap (λ z. z.parent) there.2) ∙ g)))

  pub values_bare : (id : ℕ) → values_of model xs id ≡ values_of model ys id
  values_bare id = bare_by (suc id) id (omega arith)

pub values_still : (model : Model) (xs ys : List Activity) → IsRooted xs → IsRooted ys → AreStill xs ys → (id : ℕ) → values_of model xs id ≡ values_of model ys id
values_still model xs ys rooted rooted_too same = values_bare model xs ys rooted rooted_too (λ q. both (activity_of q xs) (activity_of q ys) (same q))
  where
    both : (o w : Option Activity) → option_map still o ≡ option_map still w → option_map bare o ≡ option_map bare w
    both None None e = refl
    both None (Some b) e = absurd (cc)
    both (Some a) None e = absurd (cc)
    both (Some a) (Some b) e = (let s : still a ≡ still b = cc in ap (λ z. Some (bare z)) s)
