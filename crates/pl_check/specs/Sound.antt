-- What the numbers of a draft name: the kind's own parameters, kinds of the model, slots of the alternative.
use Rattle.std.specs.Prelude.{ℕ, ◌<◌, ◌≤◌, Option, Some, None, length, All}
use Rattle.pl_model.specs.declared.alternatives.Slot.{Slot}
use Rattle.pl_model.specs.declared.alternatives.Order.{Order}
use Rattle.pl_model.specs.Values.{NamesBelow}
use Rattle.pl_check.specs.declared.drafts.DraftAlternative.{DraftAlternative}
use Rattle.pl_check.specs.declared.drafts.DraftKind.{DraftKind}
use Rattle.pl_check.specs.declared.drafts.Draft.{Draft}
use Rattle.pl_check.specs.declared.drafts.Draft.TheVariants as draft

abbrev pub IsPlaceBelow : ℕ → Option ℕ → Type 0
IsPlaceBelow n None = Unit {0}
IsPlaceBelow n (Some slot) = slot < n

abbrev pub IsOrderOf : ℕ → Order → Type 0
IsOrderOf slots o = IsPlaceBelow slots o.first × IsPlaceBelow slots o.second

abbrev pub IsSlotOf : ℕ → Slot → Type 0
IsSlotOf kinds s = s.kind < kinds

pub record IsSoundAlternative (kinds : ℕ) (a : DraftAlternative) : Type 0 where
  pub few_slots : length a.slots ≤ 16
  pub few_orders : length a.orders ≤ 64
  pub slots : All (IsSlotOf kinds) a.slots
  pub orders : All (IsOrderOf (length a.slots)) a.orders

pub record IsSoundKind (kinds : ℕ) (k : DraftKind) : Type 0 where
  pub duration : NamesBelow (length k.params) k.duration
  pub few_alternatives : length k.alternatives ≤ 8
  pub alternatives : All (IsSoundAlternative kinds) k.alternatives

abbrev pub IsSoundDraft : ℕ → Draft → Type 0
IsSoundDraft kinds (draft.Timeline l) = Unit {0}
IsSoundDraft kinds (draft.Kind k) = IsSoundKind kinds k
