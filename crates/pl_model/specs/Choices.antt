-- The alternatives of a kind, a choice among them, and the slots of a parent.
use Rattle.std.specs.Prelude.{ℕ, ◌<◌, ◌==◌, ◌&&◌, Bool, false, List, [], length, Option, Some, None}
use Rattle.pl_model.specs.declared.alternatives.Alternative.{Alternative}
use Rattle.pl_model.specs.declared.kinds.Kind.{Kind}

abbrev pub alternatives_of : Option Kind → List Alternative
alternatives_of None = []
alternatives_of (Some k) = k.alternatives

-- no choice, or one of the kind's alternatives
abbrev pub IsChoice : Option Kind → Option ℕ → Type 0
IsChoice kind None = Unit {0}
IsChoice kind (Some alternative) = alternative < length (alternatives_of kind)

-- whether a place is this slot of this parent
abbrev pub is_slot : ℕ → ℕ → Option (ℕ × ℕ) → Bool
is_slot parent slot None = false
is_slot parent slot (Some p) = (p.0 == parent) && (p.1 == slot)
