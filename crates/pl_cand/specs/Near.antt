-- Numbers so near 0 that sums and steps of them fit their type.
use Rattle.pl_model.specs.declared.links.Link.{Link}
use Rattle.pl_model.specs.declared.parameters.Param.{Param}
use Rattle.std.specs.Prelude.{ℤ, pos, neg_ℤ, ◌≤ℤ◌}

-- within 10^12 of 0
abbrev pub IsNear : ℤ → Type 0
IsNear z = (neg_ℤ (pos 1000000000000) ≤ℤ z) × (z ≤ℤ pos 1000000000000)

-- its least and its greatest value are near 0
abbrev pub AreNear : Param → Type 0
AreNear p = IsNear p.low × IsNear p.high

-- within the longest horizon of 0
abbrev pub IsClose : ℤ → Type 0
IsClose z = (neg_ℤ (pos 10000000) ≤ℤ z) × (z ≤ℤ pos 10000000)

-- its least and its greatest distance are close to 0
abbrev pub AreClose : Link → Type 0
AreClose l = IsClose l.low × IsClose l.high

-- from 0 up to the greatest number of 32 bits
abbrev pub IsSmall : ℤ → Type 0
IsSmall z = (pos 0 ≤ℤ z) × (z ≤ℤ pos 4294967295)
