-- Sums of whole numbers.
use Rattle.std.specs.Prelude.{List, [], ◌∷◌, ℤ, pos, ◌+ℤ◌, ◌≤ℤ◌, neg_ℤ, ◌^◌}

-- what the items add up to, each counting as f says
abbrev pub total : {T : Type 0} → (T → ℤ) → List T → ℤ
total f [] = pos 0
total f (x ∷ xs) = f x +ℤ total f xs

-- within 10^15 of 0
abbrev pub IsSmall : ℤ → Type 0
IsSmall z = (neg_ℤ (pos (10 ^ 15)) ≤ℤ z) × (z ≤ℤ pos (10 ^ 15))
