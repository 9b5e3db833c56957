-- Effects on a level, and where it is below its least or above its most.
use Rattle.std.specs.Prelude.{ℕ, ◌-◌, ◌≤◌, ◌&&◌, ◌==◌, nat_lt, nat_le, Bool, List, [], ◌∷◌, length, ◌+◌, ℤ, pos, neg_ℤ, ◌+ℤ◌, ◌≤ℤ◌, int_lt, if◌then◌else◌, ◌^◌}
use Rattle.std.specs.Ordering.{int_eq}
use Rattle.pl_points.specs.declared.span.Span.{Span}
use Rattle.pl_points.specs.declared.noted.Noted.{Noted}
use Rattle.pl_points.specs.Sums.{total}
use Rattle.pl_points.specs.Points.{Point, merged}
use Rattle.pl_points.specs.Counting.{walk_steps, points_with}
use Rattle.pl_points.specs.Spans.{spans_of}
use Rattle.pl_points.specs.Standing.{standing}
use Rattle.pl_level.specs.declared.reservation.Effect.{Effect}

abbrev pub effect_of : ℕ → ℤ → Effect
effect_of at delta = record { at = at; delta = delta }

abbrev pub same_effect : Effect → Effect → Bool
same_effect u v = (u.at == v.at) && int_eq u.delta v.delta

-- at 1 or later, and a delta within 10^9 of 0
abbrev pub IsEffect : Effect → Type 0
IsEffect u = (1 ≤ u.at) × (neg_ℤ (pos (10 ^ 9)) ≤ℤ u.delta) × (u.delta ≤ℤ pos (10 ^ 9))

-- from 0 to 10^12
abbrev pub IsValue : ℤ → Type 0
IsValue z = (pos 0 ≤ℤ z) × (z ≤ℤ pos (10 ^ 12))

-- what an effect adds by a moment, where those up to the base's moment count no more
abbrev pub counted : ℕ → ℕ → Effect → ℤ
counted base t u = if nat_lt base u.at && nat_le u.at t then u.delta else pos 0

-- what a level stands for. The base's moment is 0 at first, before every effect
pub record Standing : Type 0 where
  pub spoiled : Bool
  pub horizon : ℕ
  pub least : ℤ
  pub most : ℤ
  pub moment : ℕ
  pub base : ℕ
  pub value : ℤ
  pub effects : List Effect

-- the base's value, and all effects after the base's moment up to this one
abbrev pub level : Standing → ℕ → ℤ
level s t = s.value +ℤ total (counted s.base t) s.effects

abbrev pub is_low : Standing → ℕ → Bool
is_low s t = int_lt (level s t) s.least

abbrev pub is_high : Standing → ℕ → Bool
is_high s t = int_lt s.most (level s t)

-- the maximal spans from the present moment up to the horizon at which the level is below its least
abbrev pub low_now : Standing → List Span
low_now s = spans_of (is_low s) s.moment (s.horizon - s.moment)

-- and those at which it is above its most
abbrev pub high_now : Standing → List Span
high_now s = spans_of (is_high s) s.moment (s.horizon - s.moment)

-- the one after all that was noted
abbrev pub state_of : Bool → ℕ → ℤ → ℤ → ℕ → ℕ → ℤ → List (Noted Effect) → Standing
state_of spoiled horizon least most moment base value notes = record { spoiled = spoiled; horizon = horizon; least = least; most = most; moment = moment; base = base; value = value; effects = standing same_effect notes }

-- the points at which the level changes
abbrev pub points_of : List Effect → List Point
points_of [] = []
points_of (u ∷ us) = merged u.at u.delta (points_of us)

-- after how many of the points the level with other effects is low, and after how many it is high
abbrev pub low_count : Standing → List Effect → List Point → ℕ
low_count s effects ps = points_with (is_low (record s { effects = effects })) ps

abbrev pub high_count : Standing → List Effect → List Point → ℕ
high_count s effects ps = points_with (is_high (record s { effects = effects })) ps

-- how many steps a change of the level from a moment on takes, where these effects stand after it
abbrev pub effect_steps : (ℕ → ℕ) → ℕ → ℕ → ℕ → Standing → List Effect → ℕ → ℤ → ℕ
effect_steps parts change look search s effects at delta =
    (parts (length (points_of s.effects)) + change)
    + (walk_steps parts look search (length (merged at delta (points_of s.effects))) (low_count s effects (merged at delta (points_of s.effects)))
    + walk_steps parts look search (length (merged at delta (points_of s.effects))) (high_count s effects (merged at delta (points_of s.effects))))
