-- Change points: pairs of a moment and a delta.
use Rattle.std.specs.Prelude.{◌≡◌, ℕ, suc, ◌≤◌, Bool, false, ◌&&◌, ◌||◌, List, [], ◌∷◌, length, ℤ, pos, int_lt, ◌+ℤ◌, ◌≤ℤ◌, neg_ℤ, ◌*◌, ◌^◌, Option, Some, None, if◌then◌else◌, nat_le, nat_lt, ◌==◌}
use Rattle.std.specs.Ordering.{int_eq}
use Rattle.pl_points.specs.Sums.{IsSmall}
use Rattle.pl_lists.specs.Lists.{back}

abbrev pub Point : Type 0
Point = ℕ × ℤ

-- the sum of all deltas at or before t
abbrev pub sum_to : List Point → ℕ → ℤ
sum_to [] t = pos 0
sum_to (p ∷ ps) t = (if nat_le p.0 t then p.1 else pos 0) +ℤ sum_to ps t

-- the first point at or after the moment
abbrev pub first_from : List Point → ℕ → Option Point
first_from [] at = None
first_from (p ∷ ps) at = if nat_le at p.0 then Some p else first_from ps at

abbrev pub is_before : ℕ → Point → Bool
is_before at p = nat_lt p.0 at

-- the sum of all deltas before t
abbrev pub sum_below : List Point → ℕ → ℤ
sum_below [] t = pos 0
sum_below (p ∷ ps) t = (if is_before t p then p.1 else pos 0) +ℤ sum_below ps t

-- below the least, or above the most
abbrev pub is_out : ℤ → ℤ → ℤ → Bool
is_out least most sum = int_lt sum least || int_lt most sum

-- of the points at or after the moment, the first after which the sum is outside, and that sum
abbrev pub outside_among : (ℕ → ℤ) → ℕ → ℤ → ℤ → List Point → Option Point
outside_among sum from least most [] = None
outside_among sum from least most (p ∷ ps) = if nat_le from p.0 && is_out least most (sum p.0) then Some (p.0, sum p.0) else outside_among sum from least most ps

abbrev pub first_outside : List Point → ℕ → ℤ → ℤ → Option Point
first_outside ps from least most = outside_among (sum_to ps) from least most ps

-- the same of points that follow a sum
abbrev pub leaving : ℤ → ℤ → ℤ → List Point → Option Point
leaving least most sum [] = None
leaving least most sum (p ∷ ps) = if is_out least most (sum +ℤ p.1) then Some (p.0, sum +ℤ p.1) else leaving least most (sum +ℤ p.1) ps

-- how many points lie at the moment and after
abbrev pub points_from : List Point → ℕ → ℕ
points_from ps at = length (back (is_before at) ps)

-- what lies ahead of an answer, of a walk that goes on from it
abbrev pub ahead_of : (ℕ → ℕ) → Option Point → ℕ
ahead_of ahead None = 0
ahead_of ahead (Some p) = ahead p.0

-- a point before others, unless its delta is 0
abbrev pub put : ℕ → ℤ → List Point → List Point
put at delta ps = if int_eq delta (pos 0) then ps else (at, delta) ∷ ps

-- the points with a delta merged in at its moment
abbrev pub merged : ℕ → ℤ → List Point → List Point
merged at delta [] = put at delta []
merged at delta (p ∷ ps) = if is_before at p then p ∷ merged at delta ps else (if p.0 == at then put at (p.1 +ℤ delta) ps else put at delta (p ∷ ps))

-- from this moment on, moments rising, and no delta 0
abbrev pub RiseFrom : ℕ → List Point → Type 0
RiseFrom from [] = Unit {0}
RiseFrom from (p ∷ ps) = (from ≤ p.0) × (int_eq p.1 (pos 0) ≡ false) × RiseFrom (suc p.0) ps

-- all sums are within 10^15 of 0
abbrev pub AreSmall : List Point → Type 0
AreSmall ps = (t : ℕ) → IsSmall (sum_to ps t)

-- so are the sums along the points, from one so far
abbrev pub SmallFrom : ℤ → List Point → Type 0
SmallFrom s [] = IsSmall s
SmallFrom s (p ∷ ps) = IsSmall s × SmallFrom (s +ℤ p.1) ps

-- within 2 * 10^15 of 0, as is the difference of two such sums
abbrev pub IsNear : ℤ → Type 0
IsNear z = (neg_ℤ (pos (2 * 10 ^ 15)) ≤ℤ z) × (z ≤ℤ pos (2 * 10 ^ 15))

-- so are the sums along the points, from one so far
abbrev pub AreNear : ℤ → List Point → Type 0
AreNear s [] = IsNear s
AreNear s (p ∷ ps) = IsNear s × AreNear (s +ℤ p.1) ps

pub record ArePoints (ps : List Point) : Type 0 where
  pub rising : RiseFrom 0 ps
  pub small : AreSmall ps
