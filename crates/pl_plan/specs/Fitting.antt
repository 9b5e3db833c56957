-- When activities fit a model.
use Rattle.std.specs.Prelude.{◌≡◌, ℕ, ◌<◌, ◌≤◌, Bool, List, [], ◌∷◌, filter, All, length, slice_get, slice_index_or, Option, Some, None, IfSome, option_and_then}
use Rattle.pl_model.specs.declared.alternatives.Slot.{Slot}
use Rattle.pl_model.specs.declared.alternatives.Alternative.{Alternative}
use Rattle.pl_model.specs.declared.kinds.Kind.{Kind}
use Rattle.pl_model.specs.declared.whole.Model.{Model}
use Rattle.pl_model.specs.Checked.{params_of}
pub use Rattle.pl_model.specs.Choices.{alternatives_of, IsChoice, is_slot}
use Rattle.pl_plan.specs.declared.activity.Activity.{Activity}
use Rattle.pl_plan.specs.Activities.{activity_of}
use Rattle.pl_plan.specs.Trees.{IsRooted}

abbrev pub kind_of : Model → Activity → Option Kind
kind_of model a = slice_get model.kinds a.kind

abbrev pub slots_of : Option Alternative → List Slot
slots_of None = []
slots_of (Some alternative) = alternative.slots

-- the slots of the chosen alternative; there are none where none is chosen
abbrev pub chosen_slots : Model → Activity → List Slot
chosen_slots model a = slots_of (option_and_then (slice_get (alternatives_of (kind_of model a))) a.detail)

abbrev pub chosen_slots_of : Model → Option Activity → List Slot
chosen_slots_of model None = []
chosen_slots_of model (Some a) = chosen_slots model a

-- what an activity owes by itself
pub record FitsAlone (model : Model) (a : Activity) : Type 0 where
  pub kind : a.kind < length model.kinds
  pub start : (1 ≤ a.start) × (a.start < model.horizon)
  pub set : length a.set ≡ length (params_of (kind_of model a))
  pub choice : IsChoice (kind_of model a) a.detail
  -- a measured end lies behind the start, and at the horizon at the latest
  pub measured : IfSome a.measured (λ m. (a.start < m) × (m ≤ model.horizon))

abbrev pub fills : ℕ → ℕ → Activity → Bool
fills parent slot a = is_slot parent slot a.parent

-- a single activity, of this kind
abbrev pub IsSingle : ℕ → List Activity → Type 0
IsSingle kind [] = ⊥
IsSingle kind (a ∷ []) = a.kind ≡ kind
IsSingle kind (a ∷ b ∷ more) = ⊥

-- each slot of the chosen alternative has exactly one child, of the slot's kind
abbrev pub AreFilled : Model → List Activity → Activity → Type 0
AreFilled model activities a = (slot : ℕ) (d : Slot) → slot < length (chosen_slots model a) → IsSingle (slice_index_or (chosen_slots model a) slot d).kind (filter (fills a.id slot) activities)

-- without a parent, or in a slot of the parent's chosen alternative
abbrev pub IsInSlot : Model → List Activity → Activity → Type 0
IsInSlot model activities a = IfSome a.parent (λ p. p.1 < length (chosen_slots_of model (activity_of p.0 activities)))

pub record Fits (model : Model) (activities : List Activity) : Type 0 where
  pub rooted : IsRooted activities
  pub each : All (FitsAlone model) activities
  pub filled : All (AreFilled model activities) activities
  pub no_other : All (IsInSlot model activities) activities
