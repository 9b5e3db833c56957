-- What a checked kind knows of its amounts, and firmness from the kind and the values.
use Rattle.std.proofs.Common.{◌≡◌, ◌↔◌, ℕ, Bool, true, false, List, length, Option, Some, None, is_some, IsNone, IfSome, refl, sym, ap, ◌∙◌, subst}
use Rattle.std.specs.Prelude.{All, slice_get, option_and_then}
use Rattle.std.proofs.lemmas.Option.{slice_get_within, get_or_from_slice_get}
use Rattle.std.proofs.lemmas.List.Elements.{All-weaker}
use Rattle.pl_model.specs.declared.reservations.Reservation.{Reservation}
use Rattle.pl_model.specs.declared.reservations.Reservation.TheVariants.{Take, Raise, Lower, Put, Must}
use Rattle.pl_model.specs.declared.timelines.Timeline.{Timeline}
use Rattle.pl_model.specs.declared.kinds.Kind.{Kind}
use Rattle.pl_model.specs.declared.whole.Model.{Model}
use Rattle.pl_model.specs.Values.{NamesBelow}
use Rattle.pl_model.specs.Checked.{IsChecked, IsCheckedKind, IsReservation}
use Rattle.pl_plan.specs.declared.activity.Activity.{Activity}
use Rattle.pl_plan.specs.Activities.{activity_of}
use Rattle.pl_plan.specs.Fitting.{kind_of}
use Rattle.pl_plan.specs.Values.{Row, values_of}
use Rattle.pl_plan.specs.Firm.{amount_of, amounts_with, amounts_in, amounts_of, is_firm_with, is_firm_of, is_firm, end_with, end_in, end_of}

pub checked_kind : (model : Model) → IsChecked model → (i : ℕ) (k : Kind) → slice_get model.kinds i ≡ Some k → IsCheckedKind model k
checked_kind model checked i k is = subst (IsCheckedKind model) (get_or_from_slice_get model.kinds i k k is) (checked.kinds i k (slice_get_within model.kinds i k is))

amount_named : (lines : List Timeline) (n : ℕ) (r : Reservation) → IsReservation lines n r → IfSome (amount_of r) (NamesBelow n)
amount_named lines n (Take line e) h = h.1
amount_named lines n (Raise line e point) h = h.1
amount_named lines n (Lower line e point) h = h.1
amount_named lines n (Put line state point) h = tt
amount_named lines n (Must line state) h = tt

-- the amounts of a checked kind name its parameters
pub amounts_named : (model : Model) (k : Kind) → IsCheckedKind model k → (n : ℕ) → n ≡ length k.params → All (λ r. IfSome (amount_of r) (NamesBelow n)) k.reservations
amounts_named model k checked n is =
    let P : ℕ → Type 0 = λ m. All (λ r. IfSome (amount_of r) (NamesBelow m)) k.reservations in
    subst P (sym is) (All-weaker (IsReservation model.timelines (length k.params)) (λ r. IfSome (amount_of r) (NamesBelow (length k.params))) (amount_named model.timelines (length k.params)) k.reservations checked.reservations)

module _ (model : Model) (xs : List Activity) (id : ℕ) (a : Activity) (k : Kind) (row : Row) (here : activity_of id xs ≡ Some a) (kind : kind_of model a ≡ Some k) (values : row ≡ values_of model xs id) where
  pub firm_is : is_firm_with model.horizon k row ≡ is_firm model xs id
  unfolding is_firm
  firm_is = ap (is_firm_with model.horizon k) values ∙ sym (ap (λ o. is_firm_of model.horizon o (values_of model xs id)) (ap (option_and_then (kind_of model)) here ∙ kind))

  pub end_is : end_with model.horizon k a.start a.measured row ≡ end_of model xs id
  unfolding end_of
  end_is = ap (end_with model.horizon k a.start a.measured) values
      ∙ sym (ap (λ o. end_in model o (values_of model xs id)) here ∙ ap (option_and_then (λ j. end_with model.horizon j a.start a.measured (values_of model xs id))) kind)

  pub amounts_are : amounts_with row k.reservations ≡ amounts_of model xs id
  unfolding amounts_of
  amounts_are = ap (λ v. amounts_with v k.reservations) values ∙ sym (ap (λ o. amounts_in o (values_of model xs id)) (ap (option_and_then (kind_of model)) here ∙ kind))

-- an answer that is none exactly where a test fails
pub is_there : (o : Option ℕ) (b : Bool) → IsNone o ↔ (b ≡ false) → is_some o ≡ b
is_there None b none = sym (none.0 refl)
is_there (Some n) true none = refl
is_there (Some n) false none = absurd (let bad : IsNone (Some n) = none.1 refl in cc)
