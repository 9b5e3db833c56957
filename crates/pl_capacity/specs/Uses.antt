-- Uses of a capacity, and where they are above the most that it has.
use Rattle.std.specs.Prelude.{ℕ, [], ◌∷◌, neg_ℤ, ◌-◌, ◌<◌, ◌&&◌, ◌==◌, Bool, List, ℤ, pos, ◌≤ℤ◌, int_lt, if◌then◌else◌, ◌^◌}
use Rattle.std.specs.Ordering.{int_eq}
use Rattle.pl_points.specs.declared.span.Span.{Span}
use Rattle.pl_points.specs.Sums.{total}
use Rattle.pl_points.specs.Points.{Point, merged}
use Rattle.pl_points.specs.Counting.{shift_steps}
use Rattle.pl_points.specs.declared.limit.Limit.TheVariants.{Above}
use Rattle.pl_points.specs.Spans.{within, spans_of}
use Rattle.pl_points.specs.declared.noted.Noted.{Noted}
use Rattle.pl_points.specs.Standing.{standing}
use Rattle.pl_capacity.specs.declared.reservation.Use.{Use}

abbrev pub use_of : ℕ → ℕ → ℤ → Use
use_of from to amount = record { from = from; to = to; amount = amount }

abbrev pub same_use : Use → Use → Bool
same_use u v = (u.from == v.from) && ((u.to == v.to) && int_eq u.amount v.amount)

-- from before to, and an amount from 0 to 10^9
abbrev pub IsUse : Use → Type 0
IsUse u = (u.from < u.to) × (pos 0 ≤ℤ u.amount) × (u.amount ≤ℤ pos (10 ^ 9))

-- what a use takes at a moment
abbrev pub taken_at : ℕ → Use → ℤ
taken_at t u = if within u.from u.to t then u.amount else pos 0

-- the sum of the amounts in use at a moment
abbrev pub used : List Use → ℕ → ℤ
used uses t = total (taken_at t) uses

-- whether more is in use than the most
abbrev pub is_over : ℤ → List Use → ℕ → Bool
is_over most uses t = int_lt most (used uses t)

-- what a capacity stands for
pub record Standing : Type 0 where
  pub spoiled : Bool
  pub horizon : ℕ
  pub most : ℤ
  pub moment : ℕ
  pub uses : List Use

-- the maximal spans from the present moment up to the horizon at which more is in use than the most
abbrev pub spans_now : Standing → List Span
spans_now s = spans_of (is_over s.most s.uses) s.moment (s.horizon - s.moment)

-- the one after all that was noted
abbrev pub state_of : Bool → ℕ → ℤ → ℕ → List (Noted Use) → Standing
state_of spoiled horizon most moment notes = record { spoiled = spoiled; horizon = horizon; most = most; moment = moment; uses = standing same_use notes }

-- the points at which what is in use changes: each use adds its amount at its begin and takes it back at its end
abbrev pub points_of : List Use → List Point
points_of [] = []
points_of (u ∷ us) = merged u.to (neg_ℤ u.amount) (merged u.from u.amount (points_of us))

-- how many steps a change of what is in use from a moment up to another one takes
abbrev pub use_steps : (ℕ → ℕ) → ℕ → ℕ → ℕ → Standing → ℕ → ℕ → ℤ → ℤ → ℕ
use_steps parts change look search s from to delta back = shift_steps parts change look search (Above s.most) from to delta back (points_of s.uses)
