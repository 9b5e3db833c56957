-- Values, amounts and ends do not depend on ids.
use Rattle.std.proofs.Common.{◌≡◌, ℕ, List, [], Option, Some, None, refl, ap, ◌∙◌}
use Rattle.std.specs.Prelude.{option_and_then, slice_get, unwrap_or}
use Rattle.std.specs.Option.{option_map}
use Rattle.pl_model.specs.declared.whole.Model.{Model}
use Rattle.pl_plan.specs.declared.activity.Activity.{Activity}
use Rattle.pl_plan.specs.Activities.{activity_of}
use Rattle.pl_plan.specs.Trees.{IsRooted}
use Rattle.pl_plan.specs.Fitting.{kind_of, chosen_slots_of}
use Rattle.pl_plan.specs.Values.{Row, bindings_in, bindings_at, values_in, values_rule, values_of}
use Rattle.pl_plan.specs.Firm.{amounts_in, amounts_of, is_firm_of, is_firm, end_in, end_of}
use Rattle.pl_renumbering.specs.Renumbered.{KeepsOrder, renumbered_place, renumbered, renumbered_all}
use Rattle.pl_renumbering.proofs.Activities.{found_renumbered, climb_renumbered}

module _ (f : ℕ → ℕ) (keeps : KeepsOrder f) (model : Model) (xs : List Activity) where
  slots_same : (o : Option Activity) → chosen_slots_of model (option_map (renumbered f) o) ≡ chosen_slots_of model o
  slots_same None = refl
  slots_same (Some a) = refl

  pub bindings_same : (o : Option (ℕ × ℕ)) → bindings_at model (renumbered_all f xs) (renumbered_place f o) ≡ bindings_at model xs o
  bindings_same None = refl
  bindings_same (Some p) = ap (λ s. bindings_in (slice_get s p.1)) (ap (chosen_slots_of model) (found_renumbered f keeps p.0 xs) ∙ slots_same (activity_of p.0 xs))

  rule_same : (id : ℕ) (above : Option Row) → values_rule model (renumbered_all f xs) (f id) above ≡ values_rule model xs id above
  rule_same id above = ap (λ o. values_in model (renumbered_all f xs) o (unwrap_or above [])) (found_renumbered f keeps id xs) ∙ by (activity_of id xs)
    where
      by : (o : Option Activity) → values_in model (renumbered_all f xs) (option_map (renumbered f) o) (unwrap_or above []) ≡ values_in model xs o (unwrap_or above [])
      by None = refl
      by (Some a) = rw (bindings_same a.parent) refl

  kind_same : (o : Option Activity) → option_and_then (kind_of model) (option_map (renumbered f) o) ≡ option_and_then (kind_of model) o
  kind_same None = refl
  kind_same (Some a) = refl

  kind_found : (id : ℕ) → option_and_then (kind_of model) (activity_of (f id) (renumbered_all f xs)) ≡ option_and_then (kind_of model) (activity_of id xs)
  kind_found id = ap (option_and_then (kind_of model)) (found_renumbered f keeps id xs) ∙ kind_same (activity_of id xs)

  end_same : (o : Option Activity) (row : Row) → end_in model (option_map (renumbered f) o) row ≡ end_in model o row
  end_same None row = refl
  end_same (Some a) row = refl

  module _ (rooted : IsRooted xs) where
    pub values_same : (id : ℕ) → values_of model (renumbered_all f xs) (f id) ≡ values_of model xs id
    unfolding values_of
    values_same id = climb_renumbered f keeps (values_rule model xs) (values_rule model (renumbered_all f xs)) rule_same xs rooted id

    pub amounts_same : (id : ℕ) → amounts_of model (renumbered_all f xs) (f id) ≡ amounts_of model xs id
    unfolding amounts_of
    amounts_same id = ap (λ k. amounts_in k (values_of model (renumbered_all f xs) (f id))) (kind_found id) ∙ ap (amounts_in (option_and_then (kind_of model) (activity_of id xs))) (values_same id)

    pub firm_same : (id : ℕ) → is_firm model (renumbered_all f xs) (f id) ≡ is_firm model xs id
    unfolding is_firm
    firm_same id = ap (λ k. is_firm_of model.horizon k (values_of model (renumbered_all f xs) (f id))) (kind_found id) ∙ ap (is_firm_of model.horizon (option_and_then (kind_of model) (activity_of id xs))) (values_same id)

    pub ends_same : (id : ℕ) → end_of model (renumbered_all f xs) (f id) ≡ end_of model xs id
    unfolding end_of
    ends_same id =
        ap (λ o. end_in model o (values_of model (renumbered_all f xs) (f id))) (found_renumbered f keeps id xs)
        ∙ (end_same (activity_of id xs) (values_of model (renumbered_all f xs) (f id)) ∙ ap (end_in model (activity_of id xs)) (values_same id))
