-- Where a walk over points comes to, and how many steps it takes to go there.
use Rattle.std.specs.Prelude.{◌≡◌, ℕ, ◌+◌, ◌≤◌, ◌<◌, Bool, List, ℤ, if◌then◌else◌}
use Rattle.pl_points.specs.Points.{Point, sum_to}
use Rattle.pl_points.specs.Counting.{points_after, walk_left}

-- Up to the end the sum meets the condition. Where the end lies in the window, the sum there is the one given.
pub record Passes (P : ℤ → Type 0) (points : List Point) (from to end : ℕ) (sum : ℤ) : Type 0 where
  pub later : from < end
  pub bound : end ≤ to
  pub meets : (t : ℕ) → from ≤ t → t < end → P (sum_to points t)
  pub next : end < to → sum ≡ sum_to points end

-- One look ahead takes no more than what lies ahead of it and this cost. Where its end lies in the window, the points
-- from there on are still to be paid for, and its end is a point.
pub record IsLook (ahead : ℕ → ℕ) (cost : ℕ) (points : List Point) (from to end before after : ℕ) : Type 0 where
  pub spent : after ≤ before + ahead (from + 1) + cost
  pub left : end < to → after + ahead end ≤ before + ahead (from + 1) + cost
  pub fewer : end < to → (out : ℕ → Bool) → (if out end then 1 else 0) + points_after out end points ≤ points_after out from points

-- A part of a walk takes no more than the walk has left, less what it has left from its end on.
pub record IsPart (ahead : ℕ → ℕ) (look find : ℕ) (out : ℕ → Bool) (points : List Point) (from to end before after : ℕ) : Type 0 where
  pub spent : after ≤ before + walk_left ahead look find out points from
  pub left : end < to → after + walk_left ahead look find out points end ≤ before + walk_left ahead look find out points from
