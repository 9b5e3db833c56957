-- What a level that is not spoiled keeps.
use Rattle.std.specs.Prelude.{◌≡◌, ℕ, ◌≤◌, ◌<◌, Bool, List, ℤ, pos, neg_ℤ, ◌+ℤ◌, ◌≤ℤ◌, nat_le, length, ◌^◌, if◌then◌else◌}
use Rattle.pl_points.specs.declared.span.Span.{Span}
use Rattle.pl_points.specs.Sums.{total}
use Rattle.pl_points.specs.Points.{sum_to, RiseFrom}
use Rattle.pl_points.specs.Spans.{AreMaximal}
use Rattle.pl_points.specs.Changes.{IsChange}
use Rattle.pl_points.specs.Standing.{Each}
use Rattle.pl_level.specs.declared.reservation.Effect.{Effect}
use Rattle.pl_level.specs.declared.reservation.LevelChange.{LevelChange}
use Rattle.pl_level.specs.Effects.{Standing, IsEffect, IsValue, is_low, is_high}

abbrev pub summed : ℕ → Effect → ℤ
summed t u = if nat_le u.at t then u.delta else pos 0

-- the sums of the points are those of the effects, and `before` is the sum up to the base's moment
pub record IsTied (state : Standing) (sum : ℤ) (points : List (ℕ × ℤ)) : Type 0 where
  pub in_time : state.moment ≤ state.horizon
  pub fits : state.horizon < 2 ^ 32
  pub based : state.base ≤ state.moment
  pub least : IsValue state.least
  pub most : IsValue state.most
  pub value : IsValue state.value
  pub few : length state.effects ≤ 320000
  pub bounded : Each IsEffect state.effects
  pub rising : RiseFrom 0 points
  pub tied : (t : ℕ) → sum_to points t ≡ total (summed t) state.effects
  pub before : sum ≡ total (summed state.base) state.effects

pub record IsSound (state : Standing) (sum : ℤ) (points : List (ℕ × ℤ)) (below above : List Span) : Type 0 where
  pub tied : IsTied state sum points
  pub low : AreMaximal (is_low state) state.moment state.horizon below
  pub high : AreMaximal (is_high state) state.moment state.horizon above

-- A change of the effects: the level is higher by this amount from the moment on.
pub record IsShift (at : ℕ) (added : ℤ) (before after : List Effect) : Type 0 where
  pub low : neg_ℤ (pos (10 ^ 9)) ≤ℤ added
  pub high : added ≤ℤ pos (10 ^ 9)
  pub few : length after ≤ 320000
  pub bounded : Each IsEffect after
  pub adds : (counts : ℕ → Bool) → total (λ (u : Effect). if counts u.at then u.delta else pos 0) after ≡ total (λ (u : Effect). if counts u.at then u.delta else pos 0) before +ℤ (if counts at then added else pos 0)

-- what left and came into both lists
pub record AreChanges (below below' above above' : List Span) (change : LevelChange) : Type 0 where
  pub low : IsChange below below' change.low
  pub high : IsChange above above' change.high
