-- The network of a plan: how far apart the starts and the ends of its firm activities may be. Resources are left out.
use Rattle.std.specs.Prelude.{ℕ, ◌+◌, ◌*◌, ◌==◌, nat_lt, nat_le, max, ℤ, pos, neg_ℤ, ◌-ℤ◌, Bool, not, ◌&&◌, List, [], ◌∷◌, ◌++◌, length, filter, position, Option, Some, None, is_some, unwrap_or, option_and_then, if◌then◌else◌}
use Rattle.std.specs.List.{flat_map}
use Rattle.pl_stn.specs.declared.net.Edge.{Edge}
use Rattle.pl_stn.specs.declared.net.Net.{Net}
use Rattle.pl_stn.specs.Nets.{edges_to_origin}
use Rattle.pl_model.specs.declared.reservations.Point.{Point}
use Rattle.pl_model.specs.declared.reservations.Point.TheVariants.{Start, End}
use Rattle.pl_model.specs.declared.alternatives.Order.{Order}
use Rattle.pl_model.specs.declared.links.Link.{Link}
use Rattle.pl_model.specs.declared.whole.Model.{Model}
use Rattle.pl_facts.specs.declared.goal.Goal.{Goal}
use Rattle.pl_links.specs.declared.placed.Placed.{Placed}
use Rattle.pl_links.specs.Items.{fills}
use Rattle.pl_links.specs.Broken.{is_partner, links_of, orders_of}
use Rattle.pl_semantics.specs.declared.plan_state.PlanState.{PlanState}
use Rattle.pl_semantics.specs.PlanStates.{floor_of, found, numbered, served_by}
use Rattle.pl_semantics.specs.Links.{placed_in}

-- ---- points

abbrev pub is_firm : Placed → Bool
is_firm p = is_some p.end

-- the firm activities, by rising id
abbrev pub firm_in : PlanState → List Placed
firm_in s = filter is_firm (placed_in s)

-- the same, each with its place, counted from 0
abbrev pub firm_places : PlanState → List (ℕ × Placed)
firm_places s = numbered 0 (firm_in s)

-- Point 0 is the moment 0. The firm activity at a place has a point for its start and the next one for its end.
abbrev pub point_at : ℕ → Point → ℕ
point_at place Start = 2 * place + 1
point_at place End = 2 * place + 2

-- ---- edges

-- the time of the second point is at most so long after that of the first
abbrev pub edge : ℕ → ℕ → ℤ → Edge
edge from to most = record { from = from; to = to; most = most }

-- the second point lies from low to high after the first
abbrev pub between : ℕ → ℕ → ℤ → ℤ → List Edge
between first second low high = edge first second high ∷ edge second first (neg_ℤ low) ∷ []

-- the same of points of the activities at two places; nothing where one is not firm and so has no place
abbrev pub between_places : Option ℕ → Point → Option ℕ → Point → ℤ → ℤ → List Edge
between_places None point theirs other low high = []
between_places (Some place) point None other low high = []
between_places (Some place) point (Some theirs) other low high = between (point_at place point) (point_at theirs other) low high

-- ---- durations

abbrev pub end_of : Placed → ℕ
end_of p = unwrap_or p.end 0

abbrev pub duration_of : Placed → ℤ
duration_of p = pos (end_of p) -ℤ pos p.start

-- a firm activity lasts as long as it does now
abbrev pub edges_of_duration : ℕ × Placed → List Edge
edges_of_duration x = between (point_at x.0 Start) (point_at x.0 End) (duration_of x.1) (duration_of x.1)

-- ---- where activities may lie

abbrev pub is_settled : PlanState → Placed → Bool
is_settled s p = nat_lt p.start s.committed

-- a committed activity stays where it is
abbrev pub edges_of_settled : ℕ × Placed → List Edge
edges_of_settled x = between 0 (point_at x.0 Start) (pos x.1.start) (pos x.1.start)

-- any other starts at a moment or later, and ends at the horizon or before
abbrev pub edges_within : PlanState → ℕ → ℕ → List Edge
edges_within s place first = edge (point_at place Start) 0 (neg_ℤ (pos first)) ∷ edge 0 (point_at place End) (pos s.model.horizon) ∷ []

-- this moment is the floor; a root that serves a goal starts in the window of the goal, too
abbrev pub edges_of_planned : PlanState → ℕ → Option Goal → List Edge
edges_of_planned s place None = edges_within s place (floor_of s)
edges_of_planned s place (Some g) = edges_within s place (max (floor_of s) g.earliest) ++ edge 0 (point_at place Start) (pos g.latest) ∷ []

-- the goal that the activity of an id serves, if it is a root that carries one
abbrev pub goal_served : PlanState → ℕ → Option Goal
goal_served s id = option_and_then (served_by s) (found s id)

abbrev pub edges_of_place : PlanState → ℕ × Placed → List Edge
edges_of_place s x = if is_settled s x.1 then edges_of_settled x else edges_of_planned s x.0 (goal_served s x.1.id)

-- ---- orders of slots

-- the place of the parent, or of the activity in a slot of it
abbrev pub place_in_slot : List Placed → ℕ → Option ℕ → Option ℕ
place_in_slot firm parent None = position (λ p. p.id == parent) firm
place_in_slot firm parent (Some slot) = position (fills parent slot) firm

abbrev pub edges_of_order : List Placed → ℕ → Order → List Edge
edges_of_order firm parent o = between_places (place_in_slot firm parent o.first) o.first_end (place_in_slot firm parent o.second) o.second_end o.low o.high

-- each order of the chosen alternative
abbrev pub edges_of_parent : Model → List Placed → Placed → List Edge
edges_of_parent model firm parent = flat_map (edges_of_order firm parent.id) (orders_of model parent)

-- ---- temporal links

-- the place of the partner of the least id
abbrev pub partner_place : List Placed → Link → Placed → Option ℕ
partner_place firm link own = position (is_partner link own) firm

abbrev pub edges_of_link : List Placed → ℕ × Placed → Link → List Edge
edges_of_link firm x link = between_places (Some x.0) link.mine (partner_place firm link x.1) link.theirs link.low link.high

-- not committed, or still to start
abbrev pub is_to_start : PlanState → Placed → Bool
is_to_start s p = not (is_settled s p && nat_le p.start s.moment)

abbrev pub edges_of_links : PlanState → List Placed → ℕ × Placed → List Edge
edges_of_links s firm x = if is_to_start s x.1 then flat_map (edges_of_link firm x) (links_of s.model x.1) else []

-- ---- the network

abbrev pub edges_of_plan : PlanState → List Edge
edges_of_plan s =
    edges_to_origin (2 * length (firm_in s))
    ++ (flat_map edges_of_duration (firm_places s)
    ++ (flat_map (edges_of_place s) (firm_places s)
    ++ (flat_map (edges_of_parent s.model (firm_in s)) (placed_in s)
    ++ flat_map (edges_of_links s (firm_in s)) (firm_places s))))

unfoldable pub flex_net : PlanState → Net
flex_net s = record { points = 2 * length (firm_in s) + 1; edges = edges_of_plan s }
