-- What hinges add up to, moment by moment, and the straight lines that the sum follows between them.
use Rattle.std.specs.Prelude.{◌≡◌, ℕ, ◌+◌, ◌-◌, ◌*◌, ◌<◌, ◌≤◌, ◌^◌, nat_le, List, [], ◌∷◌, length, drop, Option, Some, None, ℤ, pos, neg_ℤ, ◌+ℤ◌, ◌-ℤ◌, ◌*ℤ◌, ◌≤ℤ◌, if◌then◌else◌}
use Rattle.pl_points.specs.declared.limit.Limit.{Limit}
use Rattle.pl_points.specs.declared.limit.Limit.TheVariants.{Below, Above}
use Rattle.pl_points.specs.Sums.{total}
use Rattle.pl_rate.specs.declared.hinge.Hinge.{Hinge}
use Rattle.pl_rate.specs.declared.course.Course.{Course}

-- ---- hinges

-- what a hinge adds by a moment
abbrev pub added_by : ℕ → Hinge → ℤ
added_by t h = if nat_le h.moment t then h.jump +ℤ (h.slope *ℤ pos (t - h.moment)) else pos 0

abbrev pub sum_of : List Hinge → ℕ → ℤ
sum_of hs t = total (added_by t) hs

-- a jump within 10^9 of 0, and a slope within 10^6
abbrev pub IsFlat : Hinge → Type 0
IsFlat h = (neg_ℤ (pos 1000000000) ≤ℤ h.jump) × (h.jump ≤ℤ pos 1000000000) × (neg_ℤ (pos 1000000) ≤ℤ h.slope) × (h.slope ≤ℤ pos 1000000)

-- flat hinges by rising moments, from a moment on
abbrev pub RiseFrom : ℕ → List Hinge → Type 0
RiseFrom from [] = Unit {0}
RiseFrom from (h ∷ hs) = (from ≤ h.moment) × IsFlat h × RiseFrom h.moment hs

-- the next hinge comes before a moment, or those that are left do not
abbrev pub NextBefore : List Hinge → ℕ → ℕ → Option Hinge → Type 0
NextBefore hs i to None = (c : ℕ) → RiseFrom c (drop i hs) → RiseFrom to (drop i hs)
NextBefore hs i to (Some h) = (drop i hs ≡ h ∷ drop (i + 1) hs) × (h.moment < to) × (i < length hs)

-- ---- straight lines

-- the value at the line's moment or later
abbrev pub value_at : Course → ℕ → ℤ
value_at c t = c.value +ℤ (c.slope *ℤ pos (t - c.at))

-- the same line from a later moment on
abbrev pub moved : Course → ℕ → Course
moved c to = record { at = to; value = value_at c to; slope = c.slope }

-- the line behind a hinge
abbrev pub turned : Course → Hinge → Course
turned c h = record { at = h.moment; value = value_at c h.moment +ℤ h.jump; slope = c.slope +ℤ h.slope }

-- ---- outside a limit

-- how far a value is from being outside, below 0 where it is outside
abbrev pub gap_of : Limit → ℤ → ℤ
gap_of (Below least) value = value -ℤ least
gap_of (Above most) value = most -ℤ value

-- how this changes with each moment
abbrev pub tilt_of : Limit → ℤ → ℤ
tilt_of (Below least) slope = slope
tilt_of (Above most) slope = neg_ℤ slope

-- ---- no sum overflows 128 bits

-- within 2^115 of 0, within 2^112, and within 2^84
abbrev pub IsModest : ℤ → Type 0
IsModest z = (neg_ℤ (pos (2 ^ 115)) ≤ℤ z) × (z ≤ℤ pos (2 ^ 115))

abbrev pub IsAmple : ℤ → Type 0
IsAmple z = (neg_ℤ (pos (2 ^ 112)) ≤ℤ z) × (z ≤ℤ pos (2 ^ 112))

abbrev pub IsSteep : ℤ → Type 0
IsSteep z = (neg_ℤ (pos (2 ^ 84)) ≤ℤ z) × (z ≤ℤ pos (2 ^ 84))

abbrev pub IsRoomy : Course → Type 0
IsRoomy c = IsAmple c.value × IsSteep c.slope × (c.at ≤ 10000000)

-- behind so many flat hinges, from a value of 64 bits
pub record IsBounded (n : ℕ) (c : Course) : Type 0 where
  pub value_low : neg_ℤ (pos (2 ^ 63 + n * (2 ^ 30 + 2 ^ 20 * c.at))) ≤ℤ c.value
  pub value_high : c.value ≤ℤ pos (2 ^ 63 + n * (2 ^ 30 + 2 ^ 20 * c.at))
  pub slope_low : neg_ℤ (pos (n * 2 ^ 20)) ≤ℤ c.slope
  pub slope_high : c.slope ≤ℤ pos (n * 2 ^ 20)

-- ---- along the hinges

-- From its moment on, the line and the hinges from a place on come to a first value and all hinges.
pub record HasCome (first : ℤ) (hs : List Hinge) (i : ℕ) (c : Course) : Type 0 where
  pub some : i ≤ length hs
  pub line : (t : ℕ) → c.at ≤ t → first +ℤ sum_of hs t ≡ value_at c t +ℤ sum_of (drop i hs) t
  pub rising : RiseFrom c.at (drop i hs)
  pub bounded : IsBounded i c
