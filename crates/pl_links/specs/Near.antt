-- What may be broken, or mended, where an activity comes or goes.
use Rattle.std.specs.Prelude.{◌&&◌, Bool, true, false, ℕ, zero, suc, ◌==◌, ◌+◌, List, [], ◌∷◌, ◌++◌, length, map, filter, Option, Some, None, is_some, if◌then◌else◌}
use Rattle.pl_model.specs.declared.reservations.Point.{Point}
use Rattle.pl_model.specs.declared.reservations.Point.TheVariants.{Start, End}
use Rattle.pl_model.specs.declared.links.Link.{Link}
use Rattle.pl_model.specs.declared.kinds.Kind.{Kind}
use Rattle.pl_model.specs.declared.whole.Model.{Model}
use Rattle.pl_links.specs.declared.placed.Placed.{Placed}
use Rattle.pl_links.specs.declared.broken.Broken.{Broken}
use Rattle.pl_links.specs.declared.keys.Key.{Key}
use Rattle.pl_links.specs.declared.files.Files.{Files}
use Rattle.pl_links.specs.Items.{item_of}
use Rattle.pl_links.specs.Keys.{link_at}
use Rattle.pl_links.specs.Asked.{is_asked}
use Rattle.pl_links.specs.Broken.{moment_of, is_apart, links_of, orders_of}

-- the links of an activity, or its orders, at the indexes below one
abbrev pub all_below : ℕ → Bool → ℕ → List Broken
all_below id slots zero = []
all_below id slots (suc n) =
    all_below id slots n ++ (record { id = id; index = n; slots = slots } ∷ [])

-- all links of an activity
abbrev pub own_links : Model → Placed → List Broken
own_links model p = all_below p.id false (length (links_of model p))

-- all its orders
abbrev pub own_orders : Model → Option Placed → List Broken
own_orders model None = []
own_orders model (Some p) = all_below p.id true (length (orders_of model p))

-- the parent that an activity has
abbrev pub parent_of : List Placed → Option (ℕ × ℕ) → Option Placed
parent_of items None = None
parent_of items (Some place) = item_of place.0 items

-- the parent of a firm activity
abbrev pub firm_parent : List Placed → Placed → Option Placed
firm_parent items p = if is_some p.end then parent_of items p.parent else None

abbrev pub keys_at : Point → Files → List Key
keys_at Start files = files.starts
keys_at End files = files.ends

-- the activities of a group in whose window the moment lies
abbrev pub owners_at : List Key → ℕ → Link → ℕ → Option ℕ → List Broken
owners_at keys group link index None = []
owners_at keys group link index (Some moment) =
    map (link_at index)
    (filter (λ k. (k.group == group) && is_apart link.low link.high k.number moment) keys)

-- the link of this index of an activity
abbrev pub link_of : ℕ → Placed → Broken
link_of index p = record { id = p.id; index = index; slots = false }

-- all activities of a group
abbrev pub owners_all : List Placed → ℕ → ℕ → List Broken
owners_all items group index = map (link_of index) (filter (λ p. p.kind == group) items)

-- the owners of a link to whom an activity can be a partner; all of the link's kind, where their
-- points are not filed
abbrev pub owners_of : List Placed → Files → ℕ → Link → ℕ → Placed → List Broken
owners_of items files group link index p =
    if p.kind == link.kind
    then (if is_asked files.asked link.mine group
    then owners_at (keys_at link.mine files) group link index (moment_of link.theirs p)
    else owners_all items group index)
    else []

-- the same of the links of a kind, from this index on
abbrev pub owners_in : List Placed → Files → ℕ → List Link → ℕ → Placed → List Broken
owners_in items files group [] index p = []
owners_in items files group (link ∷ links) index p =
    owners_of items files group link index p ++ owners_in items files group links (index + 1) p

-- the same of the kinds, from this one on
abbrev pub owners_among : List Placed → Files → List Kind → ℕ → Placed → List Broken
owners_among items files [] group p = []
owners_among items files (kind ∷ kinds) group p =
    owners_in items files group kind.links 0 p ++ owners_among items files kinds (group + 1) p

-- the links of a firm activity, the orders of its parent, and the links to which it can be a partner
abbrev pub near_firm : Model → List Placed → Files → Placed → Option Placed → List Broken
near_firm model items files p parent =
    own_links model p ++ (own_orders model parent ++ owners_among items files model.kinds 0 p)

-- the orders of an activity, and all that only one that is firm may touch
abbrev pub near : Model → List Placed → Files → Placed → Option Placed → List Broken
near model items files p parent =
    own_orders model (Some p)
    ++ (if is_some p.end then near_firm model items files p parent else [])
