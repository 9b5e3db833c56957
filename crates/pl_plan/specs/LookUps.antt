-- When activities fit a model, said of each activity by what is found under ids.
use Rattle.std.specs.Prelude.{◌≡◌, ℕ, ◌<◌, List, [], length, slice_index_or, Option, Some, None, IfSome, IsSome}
use Rattle.std.specs.Option.{option_or}
use Rattle.pl_model.specs.declared.alternatives.Slot.{Slot}
use Rattle.pl_model.specs.declared.whole.Model.{Model}
use Rattle.pl_plan.specs.declared.activity.Activity.{Activity}
use Rattle.pl_plan.specs.Activities.{activity_of, exchanged}
use Rattle.pl_plan.specs.Fitting.{FitsAlone, chosen_slots, chosen_slots_of}

-- one activity stands in this slot of this parent, and it is of this kind
pub record HasChild (find : ℕ → Option Activity) (kind parent slot : ℕ) : Type 0 where
  pub id : ℕ
  pub a : Activity
  pub found : find id ≡ Some a
  pub place : a.parent ≡ Some (parent, slot)
  pub is_of : a.kind ≡ kind
  pub only : (other : ℕ) (b : Activity) → find other ≡ Some b → b.parent ≡ Some (parent, slot) → other ≡ id

-- what the activity of this id owes
pub record FitsAt (model : Model) (find : ℕ → Option Activity) (id : ℕ) (a : Activity) : Type 0 where
  pub alone : FitsAlone model a
  pub parented : IfSome a.parent (λ p. IsSome (find p.0) × (p.0 < id))
  pub in_slot : IfSome a.parent (λ p. p.1 < length (chosen_slots_of model (find p.0)))
  pub filled : (slot : ℕ) (d : Slot) → slot < length (chosen_slots model a) → HasChild find (slice_index_or (chosen_slots model a) slot d).kind id slot

-- Activities that come into the slots of a parent: each is new, has a larger id, fits by itself and has no slots of its
-- own, and each slot gets one of its kind.
pub record AreNewChildren (model : Model) (activities : List Activity) (parent : Activity) (children : List Activity) : Type 0 where
  pub fresh : (id : ℕ) (a : Activity) → activity_of id children ≡ Some a → activity_of id activities ≡ None
  pub alone : (id : ℕ) (a : Activity) → activity_of id children ≡ Some a → FitsAlone model a
  pub bare : (id : ℕ) (a : Activity) → activity_of id children ≡ Some a → chosen_slots model a ≡ []
  pub larger : (id : ℕ) (a : Activity) → activity_of id children ≡ Some a → parent.id < id
  pub place : (id : ℕ) (a : Activity) → activity_of id children ≡ Some a → (slot : ℕ) × (a.parent ≡ Some (parent.id, slot)) × (slot < length (chosen_slots model parent))
  pub filled : (slot : ℕ) (d : Slot) → slot < length (chosen_slots model parent) → HasChild (λ q. activity_of q children) (slice_index_or (chosen_slots model parent) slot d).kind parent.id slot

-- what is found: these children, else the parent as it is now, else what was there
abbrev pub detailed_at : Activity → List Activity → List Activity → ℕ → Option Activity
detailed_at parent children activities q = option_or (activity_of q children) (activity_of q (exchanged parent activities))
