-- What the expressions of a checked model name.
use Rattle.std.proofs.Common.{◌≡◌, ℕ, zero, suc, ◌<◌, List, [], ◌∷◌, length, get_or, Option, None, Some, IfSome, refl, sym, ap, ◌∙◌, subst}
use Rattle.std.specs.Prelude.{All, IsSome, slice_get, option_and_then}
use Rattle.std.proofs.lemmas.List.Elements.{All-nil, All-head, All-tail, All-weaker}
use Rattle.pl_model.specs.declared.alternatives.Slot.{Slot}
use Rattle.pl_model.specs.declared.alternatives.Alternative.{Alternative}
use Rattle.pl_model.specs.declared.reservations.Reservation.{Reservation}
use Rattle.pl_model.specs.declared.kinds.Kind.{Kind}
use Rattle.pl_model.specs.declared.whole.Model.{Model}
use Rattle.pl_model.specs.Values.{NamesBelow}
use Rattle.pl_model.specs.Checked.{IsChecked, IsBinding, IsCheckedSlot, IsCheckedAlternative, IsCheckedKind, params_of}
use Rattle.pl_plan.specs.declared.activity.Activity.{Activity}
use Rattle.pl_plan.specs.Activities.{activity_of}
use Rattle.pl_plan.specs.Fitting.{kind_of, alternatives_of, slots_of, chosen_slots_of}
use Rattle.pl_plan.specs.Values.{Row, BindsBelow, bindings_in, bindings_at, values_of}
use Rattle.pl_plan.specs.Firm.{amount_of}
use Rattle.pl_semantics.specs.declared.plan_state.PlanState.{PlanState}
use Rattle.pl_semantics.specs.PlanStates.{row_of}
use Rattle.pl_semantics.specs.Whole.{IsWhole}
use Rattle.pl_semantics.specs.Activities.{bindings_of, row_above}
use Rattle.pl_plan.proofs.FirmSteps.{checked_kind, amounts_named}
use Rattle.pl_plan.proofs.ValueLaws.{values_solve}
use Rattle.pl_semantics.proofs.Found.{parent_live}

slot_named : (model : Model) (n : ℕ) (slots : List Slot) → All (IsCheckedSlot model n) slots → (i : ℕ) → All (BindsBelow n) (bindings_in (slice_get slots i))
slot_named model n [] all i = All-nil (BindsBelow n)
slot_named model n (s ∷ slots) all zero =
    let slot : IsCheckedSlot model n s = All-head (IsCheckedSlot model n) s slots all in
    All-weaker (IsBinding n (params_of (slice_get model.kinds s.kind))) (BindsBelow n) (λ b is. is.names) s.bindings slot.bindings
slot_named model n (s ∷ slots) all (suc i) = slot_named model n slots (All-tail (IsCheckedSlot model n) s slots all) i

alternative_named : (model : Model) (n : ℕ) (alternatives : List Alternative) → All (IsCheckedAlternative model n) alternatives → (choice : Option ℕ) (i : ℕ) → All (BindsBelow n) (bindings_in (slice_get (slots_of (option_and_then (slice_get alternatives) choice)) i))
alternative_named model n alternatives all None i = All-nil (BindsBelow n)
alternative_named model n [] all (Some j) i = All-nil (BindsBelow n)
alternative_named model n (a ∷ more) all (Some zero) i =
    let alternative : IsCheckedAlternative model n a = All-head (IsCheckedAlternative model n) a more all in
    slot_named model n a.slots alternative.slots i
alternative_named model n (a ∷ more) all (Some (suc j)) i = alternative_named model n more (All-tail (IsCheckedAlternative model n) a more all) (Some j) i

kind_named : (model : Model) (kind : Option Kind) → ((k : Kind) → kind ≡ Some k → IsCheckedKind model k) → (choice : Option ℕ) (i : ℕ) → All (BindsBelow (length (params_of kind))) (bindings_in (slice_get (slots_of (option_and_then (slice_get (alternatives_of kind)) choice)) i))
kind_named model None checked choice i = alternative_named model 0 [] (All-nil (IsCheckedAlternative model 0)) choice i
kind_named model (Some k) checked choice i = alternative_named model (length k.params) k.alternatives (checked k refl).alternatives choice i

above_named : (model : Model) → IsChecked model → (above : Option Activity) (i : ℕ) → All (BindsBelow (length (params_of (option_and_then (kind_of model) above)))) (bindings_in (slice_get (chosen_slots_of model above) i))
above_named model checked None i = All-nil (BindsBelow 0)
above_named model checked (Some a) i = kind_named model (kind_of model a) (checked_kind model checked a.kind) a.detail i

-- what the slot of a child binds names parameters of the parent
pub bindings_named : (model : Model) → IsChecked model → (xs : List Activity) (p : ℕ × ℕ) → All (BindsBelow (length (params_of (option_and_then (kind_of model) (activity_of p.0 xs))))) (bindings_at model xs (Some p))
bindings_named model checked xs p = above_named model checked (activity_of p.0 xs) p.1

-- the amount of a reservation names parameters of its kind
pub amount_named : (model : Model) (k : Kind) → IsCheckedKind model k → (n : ℕ) → n ≡ length k.params → (rs : List Reservation) → rs ≡ k.reservations → (i : ℕ) (r : Reservation) → i < length rs → r ≡ get_or rs i r → IfSome (amount_of r) (NamesBelow n)
amount_named model k checked n len rs all i r lt is =
    let named : All (λ r. IfSome (amount_of r) (NamesBelow n)) rs = subst (λ l. All (λ r. IfSome (amount_of r) (NamesBelow n)) l) (sym all) (amounts_named model k checked n len) in
    subst (λ x. IfSome (amount_of x) (NamesBelow n)) (sym is) (named i r lt)

-- so many values as the parent has parameters have names enough for what the slot of a child binds
pub row_named : (s : PlanState) → IsChecked s.model → (a : Activity) (p : ℕ × ℕ) → a.parent ≡ Some p → (model : Model) → model ≡ s.model → (row : Row) → length row ≡ length (params_of (option_and_then (kind_of model) (activity_of p.0 s.plan.activities))) → All (BindsBelow (length row)) (bindings_of s a)
row_named s checked a p is model same row len =
    let xs = s.plan.activities in
    let enough : length row ≡ length (params_of (option_and_then (kind_of s.model) (activity_of p.0 xs))) = len ∙ ap (λ (m : Model). length (params_of (option_and_then (kind_of m) (activity_of p.0 xs)))) same in
    let named : All (BindsBelow (length row)) (bindings_at s.model xs (Some p)) = subst (λ n. All (BindsBelow n) (bindings_at s.model xs (Some p))) (sym enough) (bindings_named s.model checked xs p) in
    subst (λ o. All (BindsBelow (length row)) (bindings_at s.model xs o)) (sym is) named

-- the values above a live activity have names enough for what its slot binds
pub named_above : (s : PlanState) → IsWhole s → (a : Activity) → activity_of a.id s.plan.activities ≡ Some a → All (BindsBelow (length (row_above s a.parent))) (bindings_of s a)
named_above s whole a live = by a.parent refl
  where
    by : (o : Option (ℕ × ℕ)) → a.parent ≡ o → All (BindsBelow (length (row_above s o))) (bindings_of s a)
    by None e = subst (λ o. All (BindsBelow 0) (bindings_at s.model s.plan.activities o)) (sym e) (All-nil (BindsBelow 0))
    by (Some p) e = found (activity_of p.0 s.plan.activities) refl (parent_live s whole a live p e)
      where
        found : (o : Option Activity) → activity_of p.0 s.plan.activities ≡ o → IsSome o → All (BindsBelow (length (values_of s.model s.plan.activities p.0))) (bindings_of s a)
        found None f some = absurd (cc)
        found (Some b) f some =
            row_named s whole.checked a p e s.model refl (values_of s.model s.plan.activities p.0)
            ((values_solve s.model s.plan.activities whole.checked whole.fits.rooted).places p.0 b f ∙ ap (λ o. length (params_of (option_and_then (kind_of s.model) o))) (sym f))

-- it has a value for each parameter of its kind
pub row_counted : (s : PlanState) → IsWhole s → (a : Activity) → activity_of a.id s.plan.activities ≡ Some a → (k : Kind) → kind_of s.model a ≡ Some k → (row : Row) → row ≡ row_of s a → length row ≡ length k.params
row_counted s whole a live k kind row is =
    ap length is ∙ (values_solve s.model s.plan.activities whole.checked whole.fits.rooted).places a.id a live ∙ ap (λ o. length (params_of o)) kind
