-- How far numbers of points lie from 0.
use Rattle.std.specs.Prelude.{ℕ, ◌*◌, ◌^◌, ℤ, pos, neg_ℤ, ◌≤ℤ◌}

-- what so many numbers, each within 2^80 of 0, add up to
abbrev pub IsWithin : ℕ → ℤ → Type 0
IsWithin n z = (neg_ℤ (pos (n * 2 ^ 80)) ≤ℤ z) × (z ≤ℤ pos (n * 2 ^ 80))

-- what so many numbers of 64 bits add up to
abbrev pub IsSumOf : ℕ → ℤ → Type 0
IsSumOf n z = (neg_ℤ (pos (n * 2 ^ 63)) ≤ℤ z) × (z ≤ℤ pos (n * 2 ^ 63))
