-- Which temporal links have no partner, and which orders of slots are not met.
use Rattle.std.specs.Prelude.{ℕ, zero, suc, ◌==◌, ℤ, pos, ◌-ℤ◌, int_le, max, Bool, true, false, not, ◌&&◌, List, [], ◌∷◌, ◌++◌, length, slice_get, Option, Some, None, is_some, option_and_then}
use Rattle.std.specs.Option.{option_map}
use Rattle.std.specs.List.{list_any, flat_map}
use Rattle.pl_model.specs.declared.reservations.Point.{Point}
use Rattle.pl_model.specs.declared.reservations.Point.TheVariants.{Start, End}
use Rattle.pl_model.specs.declared.links.Link.{Link}
use Rattle.pl_model.specs.declared.alternatives.Order.{Order}
use Rattle.pl_model.specs.declared.alternatives.Alternative.{Alternative}
use Rattle.pl_model.specs.declared.kinds.Kind.{Kind}
use Rattle.pl_model.specs.declared.whole.Model.{Model}
use Rattle.pl_links.specs.declared.placed.Placed.{Placed}
use Rattle.pl_links.specs.declared.broken.Broken.{Broken}
use Rattle.pl_links.specs.Items.{child_of, kind_of, alternatives_of}

-- ---- points

abbrev pub point_of : Point → ℕ → ℕ → ℕ
point_of Start start end = start
point_of End start end = end

-- the moment of a point; there is none where the activity is not firm
abbrev pub moment_of : Point → Placed → Option ℕ
moment_of point p = option_map (λ end. point_of point p.start end) p.end

-- the second moment lies from low to high after the first
abbrev pub is_apart : ℤ → ℤ → ℕ → ℕ → Bool
is_apart low high first second = int_le low (pos second -ℤ pos first) && int_le (pos second -ℤ pos first) high

-- both are there, and the second lies from low to high after the first
abbrev pub are_apart : ℤ → ℤ → Option ℕ → Option ℕ → Bool
are_apart low high (Some first) (Some second) = is_apart low high first second
are_apart low high (Some first) None = false
are_apart low high None second = false

-- both are there, and the second does not lie from low to high after the first
abbrev pub are_misplaced : ℤ → ℤ → Option ℕ → Option ℕ → Bool
are_misplaced low high (Some first) (Some second) = not (is_apart low high first second)
are_misplaced low high (Some first) None = false
are_misplaced low high None second = false

-- ---- temporal links

-- another firm activity of the link's kind has its point from low to high after the own point
abbrev pub is_partner : Link → Placed → Placed → Bool
is_partner link own other = not (other.id == own.id) && ((other.kind == link.kind) && are_apart link.low link.high (moment_of link.mine own) (moment_of link.theirs other))

-- a firm activity has no partner for its link
abbrev pub lacks_partner : List Placed → Placed → Link → Bool
lacks_partner items own link = is_some own.end && not (list_any (is_partner link own) items)

-- ---- orders of slots

-- the moment of a point of the parent, or of the placed child in a slot
abbrev pub moment_in : List Placed → Placed → Option ℕ → Point → Option ℕ
moment_in items parent None point = moment_of point parent
moment_in items parent (Some slot) point = option_and_then (moment_of point) (child_of parent.id slot items)

-- both activities of the order are placed and firm, and it is not met
abbrev pub is_unmet : List Placed → Placed → Order → Bool
is_unmet items parent order = are_misplaced order.low order.high (moment_in items parent order.first order.first_end) (moment_in items parent order.second order.second_end)

-- ---- all that is broken

abbrev pub links_in : Option Kind → List Link
links_in None = []
links_in (Some kind) = kind.links

-- of the kind of a placed activity
abbrev pub links_of : Model → Placed → List Link
links_of model p = links_in (kind_of model p)

abbrev pub orders_in : Option Alternative → List Order
orders_in None = []
orders_in (Some alternative) = alternative.orders

-- of the chosen alternative; there are none where none is chosen
abbrev pub orders_of : Model → Placed → List Order
orders_of model p = orders_in (option_and_then (slice_get (alternatives_of (kind_of model p))) p.detail)

-- a single one where the test holds
abbrev pub when : Bool → Broken → List Broken
when true broken = broken ∷ []
when false broken = []

abbrev pub is_link_broken : List Placed → Placed → Option Link → Bool
is_link_broken items own None = false
is_link_broken items own (Some link) = lacks_partner items own link

abbrev pub is_order_broken : List Placed → Placed → Option Order → Bool
is_order_broken items own None = false
is_order_broken items own (Some order) = is_unmet items own order

-- what is broken at one index: the link, and then the order
abbrev pub broken_at : List Placed → Placed → List Link → List Order → ℕ → List Broken
broken_at items own links orders index =
    when (is_link_broken items own (slice_get links index)) (record { id = own.id; index = index; slots = false })
    ++ when (is_order_broken items own (slice_get orders index)) (record { id = own.id; index = index; slots = true })

-- at the indexes below this one
abbrev pub broken_below : List Placed → Placed → List Link → List Order → ℕ → List Broken
broken_below items own links orders zero = []
broken_below items own links orders (suc n) = broken_below items own links orders n ++ broken_at items own links orders n

-- what one activity breaks, by index
abbrev pub broken_by : Model → List Placed → Placed → List Broken
broken_by model items own = broken_below items own (links_of model own) (orders_of model own) (max (length (links_of model own)) (length (orders_of model own)))

-- Every link without a partner and every order that is not met, by id and index, with the same id and index the link first.
abbrev pub broken_of : Model → List Placed → List Broken
broken_of model items = flat_map (broken_by model items) items
