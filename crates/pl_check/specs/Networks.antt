-- The network of an alternative, and what the model has beside the drafts: least durations and offsets.
use Rattle.std.specs.Prelude.{◌≡◌, ℕ, ◌+◌, ◌*◌, ◌-◌, ◌<◌, ℤ, pos, negsuc, neg_ℤ, ◌≤ℤ◌, List, [], ◌∷◌, ◌++◌, Option, Some, None, All, length, slice_index_or, slice_index}
use Rattle.std.specs.Int.{int_min, int_max}
use Rattle.pl_lists.specs.Lists.{Pairwise}
use Rattle.pl_model.specs.declared.reservations.Point.{Point}
use Rattle.pl_model.specs.declared.reservations.Point.TheVariants as point
use Rattle.pl_model.specs.declared.alternatives.Slot.{Slot}
use Rattle.pl_model.specs.declared.alternatives.Order.{Order}
use Rattle.pl_model.specs.declared.alternatives.Alternative.{Alternative}
use Rattle.pl_model.specs.declared.kinds.Kind.{Kind}
use Rattle.pl_model.specs.Schedules.{IsOffset}
use Rattle.pl_stn.specs.declared.net.Edge.{Edge}
use Rattle.pl_stn.specs.declared.net.Net.{Net}
use Rattle.pl_stn.specs.Nets.{edges_to_origin, time_of, IsSolution, IsLeast}
use Rattle.pl_check.specs.declared.drafts.DraftAlternative.{DraftAlternative}
use Rattle.pl_check.specs.declared.drafts.DraftKind.{DraftKind}
use Rattle.pl_check.specs.Ranges.{duration_bounds}

-- cut to the numbers from 1 to the horizon
abbrev pub cut_to : ℤ → ℤ → ℤ
cut_to horizon n = int_min (int_max n (pos 1)) horizon

-- the least and the greatest duration of a kind
abbrev pub span_of : ℤ → DraftKind → ℤ × ℤ
span_of horizon k = (cut_to horizon (duration_bounds k).0, cut_to horizon (duration_bounds k).1)

-- durations within the largest horizon
abbrev pub IsSpan : ℤ × ℤ → Type 0
IsSpan span = (pos 1 ≤ℤ span.0) × (span.0 ≤ℤ pos 10000000) × (pos 1 ≤ℤ span.1) × (span.1 ≤ℤ pos 10000000)

abbrev pub IsNear : ℤ → Type 0
IsNear n = (negsuc 9999999 ≤ℤ n) × (n ≤ℤ pos 10000000)

abbrev pub IsNearOrder : Order → Type 0
IsNearOrder o = IsNear o.low × IsNear o.high

abbrev pub IsNearAlternative : DraftAlternative → Type 0
IsNearAlternative a = All IsNearOrder a.orders

abbrev pub IsNearKind : DraftKind → Type 0
IsNearKind k = All IsNearAlternative k.alternatives

abbrev pub IsHorizon : ℤ → Type 0
IsHorizon horizon = (pos 2 ≤ℤ horizon) × (horizon ≤ℤ pos 10000000)

-- of the kind of this number
abbrev pub span_at : List (ℤ × ℤ) → ℕ → ℤ × ℤ
span_at spans kind = slice_index_or spans kind (pos 1, pos 1)

abbrev pub slot_span : List (ℤ × ℤ) → Slot → ℤ × ℤ
slot_span spans s = span_at spans s.kind

-- x[to] - x[from] is at most the bound
abbrev pub apart : ℕ → ℕ → ℤ → Edge
apart from to most = record { from = from; to = to; most = most }

-- the point of an end of the parent, or of the slot of this number
abbrev pub point_of : Option ℕ → Point → ℕ
point_of None point.Start = 0
point_of None point.End = 1
point_of (Some slot) point.Start = 2 * slot + 2
point_of (Some slot) point.End = 2 * slot + 3

-- the second point lies so far after the first, at least and at most
abbrev pub distance_edges : ℕ → ℕ → ℤ → ℤ → List Edge
distance_edges from to low high = apart from to high ∷ apart to from (neg_ℤ low) ∷ []

-- of each slot, the first of them at this point: its end, the next point, lies in its span after its start
abbrev pub slots_edges : List (ℤ × ℤ) → ℕ → List Slot → List Edge
slots_edges spans start [] = []
slots_edges spans start (s ∷ ss) = distance_edges start (start + 1) (slot_span spans s).0 (slot_span spans s).1 ++ slots_edges spans (start + 2) ss

abbrev pub order_edges : Order → List Edge
order_edges o = distance_edges (point_of o.first o.first_end) (point_of o.second o.second_end) o.low o.high

abbrev pub orders_edges : List Order → List Edge
orders_edges [] = []
orders_edges (o ∷ os) = order_edges o ++ orders_edges os

-- no point lies before the parent's start, and the parent's end lies in its span
abbrev pub parent_edges : ℕ → ℤ × ℤ → List Edge
parent_edges slots own = edges_to_origin (2 * slots + 2 - 1) ++ distance_edges 0 1 own.0 own.1

-- The network of an alternative: the points 0 and 1 are the parent's ends, and two more are those of each slot.
abbrev pub net_of : List (ℤ × ℤ) → ℤ × ℤ → DraftAlternative → Net
net_of spans own a = record {
  points = 2 * length a.slots + 2;
  edges = parent_edges (length a.slots) own ++ slots_edges spans 2 a.slots ++ orders_edges a.orders;
}

-- the alternative's offsets are its slots' starts in the least solution
pub record HasOffsets (net : Net) (slots : ℕ) (offsets : List ℕ) : Type 0 where
  pub times : List ℤ
  pub solution : IsSolution net times
  pub least : IsLeast net times
  pub each_slot : length offsets ≡ slots
  pub near : All IsOffset offsets
  pub starts : (i : ℕ) → i < slots → pos (slice_index offsets i) ≡ time_of times (2 * i + 2)

-- an alternative of the model and its draft
pub record FinishesAlternative (spans : List (ℤ × ℤ)) (own : ℤ × ℤ) (d : DraftAlternative) (a : Alternative) : Type 0 where
  pub slots : a.slots ≡ d.slots
  pub orders : a.orders ≡ d.orders
  pub offsets : HasOffsets (net_of spans own d) (length d.slots) a.offsets

-- a kind of the model and its draft
pub record FinishesKind (horizon : ℤ) (spans : List (ℤ × ℤ)) (d : DraftKind) (k : Kind) : Type 0 where
  pub name : k.name ≡ d.name
  pub params : k.params ≡ d.params
  pub duration : k.duration ≡ d.duration
  pub least : pos k.least_duration ≡ (span_of horizon d).0
  pub reservations : k.reservations ≡ d.reservations
  pub links : k.links ≡ d.links
  pub alternatives : Pairwise (FinishesAlternative spans (span_of horizon d)) d.alternatives k.alternatives
