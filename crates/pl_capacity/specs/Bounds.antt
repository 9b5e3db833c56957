-- How many steps a change of a capacity over block points takes at most.
use Rattle.std.specs.Prelude.{ℕ, ◌+◌, ◌*◌, ◌/◌, List, length, ℤ, neg_ℤ}
use Rattle.pl_points.specs.Points.{Point, merged}
use Rattle.pl_points.specs.Counting.{outside_count}
use Rattle.pl_points.specs.declared.limit.Limit.TheVariants.{Above}
use Rattle.pl_capacity.specs.declared.reservation.Use.{Use}
use Rattle.pl_capacity.specs.Uses.{points_of}

-- the points with one use more
abbrev pub points_with_use : Use → List Use → List Point
points_with_use u uses = merged u.to (neg_ℤ u.amount) (merged u.from u.amount (points_of uses))

-- the points with one use less
abbrev pub points_less_use : Use → List Use → List Point
points_less_use u uses = merged u.to u.amount (merged u.from (neg_ℤ u.amount) (points_of uses))

-- after how many points more is in use than the most
abbrev pub over_count : ℤ → List Point → ℕ
over_count most ps = outside_count (Above most) ps

-- from points to others: a quarter of their number, and a few for each that is above the most, before or after
abbrev pub bound : ℤ → List Point → List Point → ℕ
bound most before after = length before / 4 + 256 * ((over_count most before + over_count most after) + 4)
