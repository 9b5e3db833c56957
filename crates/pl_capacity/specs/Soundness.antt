-- What a capacity that is not spoiled keeps.
use Rattle.std.specs.Prelude.{◌≡◌, ℕ, ◌≤◌, ◌<◌, List, ℤ, pos, neg_ℤ, ◌+ℤ◌, ◌≤ℤ◌, length, ◌^◌, if◌then◌else◌}
use Rattle.pl_points.specs.declared.span.Span.{Span}
use Rattle.pl_capacity.specs.declared.reservation.Use.{Use}
use Rattle.pl_points.specs.Points.{sum_to, RiseFrom}
use Rattle.pl_points.specs.Spans.{within, AreMaximal}
use Rattle.pl_points.specs.Standing.{Each}
use Rattle.pl_capacity.specs.Uses.{Standing, IsUse, used, is_over}

pub record IsSound (state : Standing) (points : List (ℕ × ℤ)) (spans : List Span) : Type 0 where
  pub in_time : state.moment ≤ state.horizon
  pub fits : state.horizon < 2 ^ 32
  pub few : length state.uses ≤ 320000
  pub bounded : Each IsUse state.uses
  pub rising : RiseFrom 0 points
  pub tied : (t : ℕ) → sum_to points t ≡ used state.uses t
  pub maximal : AreMaximal (is_over state.most state.uses) state.moment state.horizon spans

-- A change of the uses: from one moment up to another one, this amount more is in use.
pub record IsShift (from to : ℕ) (added : ℤ) (before after : List Use) : Type 0 where
  pub rising : from ≤ to
  pub low : neg_ℤ (pos (10 ^ 9)) ≤ℤ added
  pub high : added ≤ℤ pos (10 ^ 9)
  pub few : length after ≤ 320000
  pub bounded : Each IsUse after
  pub adds : (t : ℕ) → used after t ≡ used before t +ℤ (if within from to t then added else pos 0)
