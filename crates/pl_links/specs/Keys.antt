-- Indexes of the placed activities: keys in groups, by a number in the group and then by id.
use Rattle.std.specs.Prelude.{◌≡◌, ℕ, ◌<◌, ◌^◌, ◌==◌, ◌&&◌, ◌||◌, not, nat_le, Bool, false, List, All, Option, Some, None}
use Rattle.std.specs.declared.cmp.Ordering.{Ordering}
use Rattle.std.specs.Ordering.{nat_cmp, ordering_then}
use Rattle.std.specs.List.{list_any}
use Rattle.std.specs.BTreeMap.{is_at}
use Rattle.pl_links.specs.declared.keys.Key.{Key}
use Rattle.pl_links.specs.declared.placed.Placed.{Placed}
use Rattle.pl_links.specs.declared.broken.Broken.{Broken}
use Rattle.pl_links.specs.Items.{is_slot, item_of}
use Rattle.pl_links.specs.Windows.{in_window}

-- keys go by their fields in turn
abbrev pub key_cmp : Key → Key → Ordering
key_cmp a b =
    ordering_then (nat_cmp a.group b.group)
    (ordering_then (nat_cmp a.number b.number) (nat_cmp a.id b.id))

-- whether a list has the key
abbrev pub has_key : Key → List Key → Bool
has_key k keys = list_any (is_at (key_cmp k)) keys

-- the key is that of an activity of this id, whose place is a group and a number there
abbrev pub is_key_of : Option (ℕ × ℕ) → ℕ → Key → Bool
is_key_of place id k = (k.id == id) && is_slot k.group k.number place

-- just the keys of an activity in this place are new
abbrev pub Adds : Option (ℕ × ℕ) → ℕ → List Key → List Key → Type 0
Adds place id old new = (k : Key) → has_key k new ≡ (has_key k old || is_key_of place id k)

-- just the keys of an activity in this place are gone
abbrev pub Drops : Option (ℕ × ℕ) → ℕ → List Key → List Key → Type 0
Drops place id old new = (k : Key) → has_key k new ≡ (has_key k old && not (is_key_of place id k))

-- the key of this group, number and id
abbrev pub key_at : ℕ → ℕ → ℕ → Key
key_at group number id = record { group = group; number = number; id = id }

-- the key lies in this group, from one number to another
abbrev pub lies : ℕ → ℕ → ℕ → Key → Bool
lies group from to k = (k.group == group) && (nat_le from k.number && nat_le k.number to)

-- the key lies in this group and in the window
abbrev pub lies_in : ℕ → Option (ℕ × ℕ) → Key → Bool
lies_in group window k = (k.group == group) && in_window window k.number

-- it is not this id, nor that of an activity that is gone
abbrev pub is_other : ℕ → Option ℕ → ℕ → Bool
is_other own None id = not (id == own)
is_other own (Some gone) id = not (id == own) && not (id == gone)

-- the link of this index of the key's activity
abbrev pub link_at : ℕ → Key → Broken
link_at index k = record { id = k.id; index = index; slots = false }

-- the numbers and ids of keys fit their type
abbrev pub IsShort : Key → Type 0
IsShort k = (k.number < 2 ^ 32) × (k.id < 2 ^ 32)

abbrev pub AreShort : List Key → Type 0
AreShort keys = All IsShort keys

-- the activity of the key's id, if one is placed, has the key's place
abbrev pub is_filed : (Placed → Option (ℕ × ℕ)) → Option Placed → Key → Bool
is_filed place None k = false
is_filed place (Some p) k = is_slot k.group k.number (place p)

-- the keys are those of the placed activities that have a place
abbrev pub IsIndexOf : (Placed → Option (ℕ × ℕ)) → List Placed → List Key → Type 0
IsIndexOf place items keys = (k : Key) → has_key k keys ≡ is_filed place (item_of k.id items) k
