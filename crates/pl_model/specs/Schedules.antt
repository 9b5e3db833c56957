-- The durations of kinds, and the schedule that gives an alternative its offsets.
use Rattle.std.specs.Prelude.{◌≡◌, ℕ, ◌<◌, ◌≤◌, ℤ, pos, ◌-ℤ◌, ◌≤ℤ◌, List, Option, Some, None, All, length, map, slice_get, slice_index, slice_index_or}
use Rattle.std.specs.Int.{int_min, int_max}
use Rattle.pl_model.specs.declared.parameters.Param.{Param}
use Rattle.pl_model.specs.declared.reservations.Point.{Point}
use Rattle.pl_model.specs.declared.reservations.Point.TheVariants.{Start, End}
use Rattle.pl_model.specs.declared.alternatives.Slot.{Slot}
use Rattle.pl_model.specs.declared.alternatives.Order.{Order}
use Rattle.pl_model.specs.declared.alternatives.Alternative.{Alternative}
use Rattle.pl_model.specs.declared.kinds.Kind.{Kind}
use Rattle.pl_model.specs.declared.whole.Model.{Model}
use Rattle.pl_model.specs.Bounds.{bounds_of}

-- ---- durations

abbrev pub param_range : Param → ℤ × ℤ
param_range p = (p.low, p.high)

-- each parameter over its range, whether it is set or follows from others
abbrev pub duration_bounds : Kind → ℤ × ℤ
duration_bounds k = bounds_of k.duration (map param_range k.params)

-- cut to the durations from 1 to the horizon
abbrev pub cut_to : ℕ → ℤ → ℤ
cut_to horizon n = int_min (int_max n (pos 1)) (pos horizon)

-- the least and the greatest duration of a kind
abbrev pub span_of : ℕ → Kind → ℤ × ℤ
span_of horizon k = (cut_to horizon (duration_bounds k).0, cut_to horizon (duration_bounds k).1)

-- those of all kinds, by number
abbrev pub spans_of : Model → List (ℤ × ℤ)
spans_of model = map (span_of model.horizon) model.kinds

abbrev pub slot_span : List (ℤ × ℤ) → Slot → ℤ × ℤ
slot_span spans s = slice_index_or spans s.kind (pos 1, pos 1)

-- ---- schedules

-- a slot's number, or the parent
abbrev pub IsPlace : ℕ → Option ℕ → Type 0
IsPlace slots None = Unit {0}
IsPlace slots (Some slot) = slot < slots

-- when the parent (none) and each slot (its number) start and end
abbrev pub Moments : Type 0
Moments = Option ℕ → Point → ℤ

-- the second moment lies so far after the first, at least and at most
abbrev pub IsApart : ℤ × ℤ → ℤ → ℤ → Type 0
IsApart range first second = (range.0 ≤ℤ (second -ℤ first)) × ((second -ℤ first) ≤ℤ range.1)

abbrev pub IsInOrder : Moments → Order → Type 0
IsInOrder moments o = IsApart (o.low, o.high) (moments o.first o.first_end) (moments o.second o.second_end)

-- The parent starts at 0 and nothing lies before it, the parent and each slot last as long as their kinds do, and each order
-- is kept.
pub record IsSchedule (spans : List (ℤ × ℤ)) (own : ℤ × ℤ) (a : Alternative) (moments : Moments) : Type 0 where
  pub origin : moments None Start ≡ pos 0
  pub after : (p : Option ℕ) (end : Point) → IsPlace (length a.slots) p → pos 0 ≤ℤ moments p end
  pub parent : IsApart own (moments None Start) (moments None End)
  pub slots : (i : ℕ) (s : Slot) → slice_get a.slots i ≡ Some s → IsApart (slot_span spans s) (moments (Some i) Start) (moments (Some i) End)
  pub orders : All (IsInOrder moments) a.orders

-- The offsets are the slots' starts in the schedule that is at no point later than any other.
pub record HasLeastOffsets (spans : List (ℤ × ℤ)) (own : ℤ × ℤ) (a : Alternative) : Type 0 where
  pub moments : Moments
  pub schedule : IsSchedule spans own a moments
  pub least : (others : Moments) → IsSchedule spans own a others → (p : Option ℕ) (end : Point) → IsPlace (length a.slots) p → moments p end ≤ℤ others p end
  pub starts : (i : ℕ) → i < length a.slots → pos (slice_index a.offsets i) ≡ moments (Some i) Start

-- ---- what a kind has of its durations

-- some duration from 1 to the horizon lies in these bounds
abbrev pub IsPossible : ℕ → ℤ × ℤ → Type 0
IsPossible horizon bounds = (pos 1 ≤ℤ bounds.1) × (bounds.0 ≤ℤ pos horizon)

-- offsets are small, however long the durations
abbrev pub IsOffset : ℕ → Type 0
IsOffset offset = offset ≤ 3400000000

pub record IsTimedAlternative (model : Model) (k : Kind) (a : Alternative) : Type 0 where
  pub least : HasLeastOffsets (spans_of model) (span_of model.horizon k) a
  pub near : All IsOffset a.offsets

pub record IsTimedKind (model : Model) (k : Kind) : Type 0 where
  pub possible : IsPossible model.horizon (duration_bounds k)
  pub least : pos k.least_duration ≡ int_max (duration_bounds k).0 (pos 1)
  pub alternatives : All (IsTimedAlternative model k) k.alternatives

pub record LeastTimes (model : Model) : Type 0 where
  pub kinds : All (IsTimedKind model) model.kinds

-- closed, so that a search does not look into it; proofs/Parts opens it
unfoldable pub HasLeastTimes : Model → Type 0
HasLeastTimes model = LeastTimes model
