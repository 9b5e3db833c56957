-- Placed activities by rising id.
use Rattle.std.specs.Prelude.{◌≡◌, ℕ, ◌<◌, ◌≤◌, ◌==◌, nat_lt, if◌then◌else◌, Bool, List, [], ◌∷◌, length, find, filter, slice_get, Option, Some, None, IfSome, IsSome}
use Rattle.pl_lists.specs.Lists as lists
use Rattle.pl_model.specs.declared.kinds.Kind.{Kind}
use Rattle.pl_model.specs.declared.whole.Model.{Model}
pub use Rattle.pl_model.specs.Choices.{alternatives_of, IsChoice, is_slot}
use Rattle.pl_links.specs.declared.placed.Placed.{Placed}

-- ids rise, from this one on
abbrev pub RiseFrom : ℕ → List Placed → Type 0
RiseFrom from items = lists.RiseFrom (λ (p : Placed). p.id) from items

-- ids rise, so no id stands twice
abbrev pub AreRising : List Placed → Type 0
AreRising items = RiseFrom 0 items

-- the placed activity of this id
abbrev pub item_of : ℕ → List Placed → Option Placed
item_of id [] = None
item_of id (p ∷ more) = if p.id == id then Some p else item_of id more

-- an activity of this id is placed
abbrev pub IsPlaced : ℕ → List Placed → Type 0
IsPlaced id items = IsSome (item_of id items)

-- with another one, before the first of a larger id
abbrev pub with_item : Placed → List Placed → List Placed
with_item p [] = p ∷ []
with_item p (x ∷ more) = if nat_lt x.id p.id then x ∷ with_item p more else p ∷ x ∷ more

-- without the one of this id
abbrev pub without : ℕ → List Placed → List Placed
without id items = lists.without (λ (p : Placed). p.id == id) items

abbrev pub fills : ℕ → ℕ → Placed → Bool
fills parent slot p = is_slot parent slot p.parent

-- the placed child in this slot of this parent
abbrev pub child_of : ℕ → ℕ → List Placed → Option Placed
child_of parent slot items = find (fills parent slot) items

-- no slot of a parent is filled twice
abbrev pub AreApart : List Placed → Type 0
AreApart items = (parent slot : ℕ) → length (filter (fills parent slot) items) ≤ 1

-- ---- what an activity that is to be placed owes

abbrev pub kind_of : Model → Placed → Option Kind
kind_of model p = slice_get model.kinds p.kind

pub record CanBePlaced (model : Model) (items : List Placed) (p : Placed) : Type 0 where
  pub absent : item_of p.id items ≡ None
  pub kind : p.kind < length model.kinds
  pub choice : IsChoice (kind_of model p) p.detail
  -- no other one has the same parent and slot
  pub slot : IfSome p.parent (λ q. child_of q.0 q.1 items ≡ None)
