-- What a checked model says of the slots and offsets of an alternative.
use Rattle.std.proofs.Common.{◌≡◌, ℕ, ◌<◌, List, length, get_or, Option, Some, None, IfSome, is_some, Bor, ltb, refl, sym, ap, ◌∙◌}
use Rattle.std.specs.Prelude.{All, slice_get}
use Rattle.std.proofs.lemmas.Bool.{ltb-true}
use Rattle.std.proofs.lemmas.Option.{slice_get-get_or}
use Rattle.pl_lists.proofs.Elements.{all_at}
use Rattle.pl_model.specs.declared.alternatives.Alternative.{Alternative}
use Rattle.pl_model.specs.declared.alternatives.Slot.{Slot}
use Rattle.pl_model.specs.declared.kinds.Kind.{Kind}
use Rattle.pl_model.specs.declared.whole.Model.{Model}
use Rattle.pl_model.specs.Checked.{IsChecked, IsCheckedKind, IsCheckedAlternative}
use Rattle.pl_model.specs.Schedules.{IsTimedKind, IsTimedAlternative}
use Rattle.pl_model.proofs.Parts.{least_times}
use Rattle.pl_plan.specs.declared.activity.Activity.{Activity}
use Rattle.pl_plan.specs.Fitting.{kind_of, alternatives_of}
use Rattle.pl_moves.specs.Sides.{ArePaired}

pub paired : (model : Model) → IsChecked model → (a : Activity) (n : ℕ) (of : Alternative) → slice_get (alternatives_of (kind_of model a)) n ≡ Some of → ArePaired of.slots of.offsets
paired model checked a n of is = by_kind (kind_of model a) refl is
  where
    by_kind : (o : Option Kind) → kind_of model a ≡ o → slice_get (alternatives_of o) n ≡ Some of → ArePaired of.slots of.offsets
    by_kind None e f = absurd (cc)
    by_kind (Some k) e f =
        let kind : IsCheckedKind model k = all_at (IsCheckedKind model) model.kinds a.kind k checked.kinds e in
        let alternative : IsCheckedAlternative model (length k.params) of = all_at (IsCheckedAlternative model (length k.params)) k.alternatives n of kind.alternatives f in
        let timed : IsTimedKind model k = all_at (IsTimedKind model) model.kinds a.kind k (least_times model checked.times).kinds e in
        let near : IsTimedAlternative model k of = all_at (IsTimedAlternative model k) k.alternatives n of timed.alternatives f in
        record { few = alternative.few_slots; each = alternative.each_slot; small = near.near }

pub slot_kinds : (model : Model) → IsChecked model → (a : Activity) (n : ℕ) (of : Alternative) → slice_get (alternatives_of (kind_of model a)) n ≡ Some of → All (λ (d : Slot). d.kind < length model.kinds) of.slots
slot_kinds model checked a n of is = by_kind (kind_of model a) refl is
  where
    by_kind : (o : Option Kind) → kind_of model a ≡ o → slice_get (alternatives_of o) n ≡ Some of → All (λ (d : Slot). d.kind < length model.kinds) of.slots
    by_kind None e f = absurd (cc)
    by_kind (Some k) e f =
        let kind : IsCheckedKind model k = all_at (IsCheckedKind model) model.kinds a.kind k checked.kinds e in
        let alternative : IsCheckedAlternative model (length k.params) of = all_at (IsCheckedAlternative model (length k.params)) k.alternatives n of kind.alternatives f in
        λ i d lt. (alternative.slots i d lt).kind

pub paired_looked : (model : Model) → IsChecked model → (a : Activity) (n : ℕ) (xs : List Alternative) → xs ≡ alternatives_of (kind_of model a) → (o : Option (Bor Alternative)) → is_some o ≡ ltb n (length xs) → IfSome o (λ of. of.now ≡ get_or xs n of.now) → IfSome o (λ of. ArePaired of.now.slots of.now.offsets)
paired_looked model checked a n xs is None some at = tt
paired_looked model checked a n xs is (Some of) some at =
    let within : n < length xs = ltb-true n (length xs) (sym some) in
    paired model checked a n of.now (sym (ap (λ (l : List Alternative). slice_get l n) is) ∙ (slice_get-get_or xs n of.now within ∙ ap (λ (x : Alternative). Some x) (sym at)))
