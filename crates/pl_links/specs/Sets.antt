-- The order of what is broken, and what a list of it holds.
use Rattle.std.specs.Prelude.{ℕ, ◌==◌, List, Bool, false}
use Rattle.std.specs.declared.cmp.Ordering.{Ordering}
use Rattle.std.specs.Ordering.{nat_cmp, bool_cmp, ordering_then}
use Rattle.std.specs.List.{list_any}
use Rattle.std.specs.BTreeMap.{is_at}
use Rattle.pl_links.specs.declared.broken.Broken.{Broken}

-- by id, and then by index, and at one index the link first
abbrev pub broken_cmp : Broken → Broken → Ordering
broken_cmp a b =
    ordering_then (nat_cmp a.id b.id)
    (ordering_then (nat_cmp a.index b.index) (bool_cmp a.slots b.slots))

-- whether a list holds it
abbrev pub has : Broken → List Broken → Bool
has b bs = list_any (is_at (broken_cmp b)) bs

-- whether it is a link or an order of the activity of this id
abbrev pub is_of : ℕ → Broken → Bool
is_of id b = b.id == id

-- the first link of an activity, which stands before all else that it may break
abbrev pub first_of : ℕ → Broken
first_of id = record { id = id; index = 0; slots = false }
