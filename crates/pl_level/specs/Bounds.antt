-- How many steps a change of a level over block points takes at most.
use Rattle.std.specs.Prelude.{ℕ, ◌+◌, ◌*◌, ◌/◌, List, length, ℤ}
use Rattle.pl_points.specs.Points.{merged}
use Rattle.pl_level.specs.declared.reservation.Effect.{Effect}
use Rattle.pl_level.specs.Effects.{Standing, points_of, low_count, high_count}

-- before: after how many points the level is low, and after how many it is high, added up
abbrev pub outside_before : Standing → ℕ
outside_before s = low_count s s.effects (points_of s.effects) + high_count s s.effects (points_of s.effects)

-- the same where these effects stand, and a delta is merged into the points
abbrev pub outside_after : Standing → List Effect → ℕ → ℤ → ℕ
outside_after s effects at delta = low_count s effects (merged at delta (points_of s.effects)) + high_count s effects (merged at delta (points_of s.effects))

-- a quarter of the number of points, and a few for each that is outside, before or after
abbrev pub bound : Standing → List Effect → ℕ → ℤ → ℕ
bound s effects at delta = length (points_of s.effects) / 4 + 256 * ((outside_before s + outside_after s effects at delta) + 4)
