-- Musts that stand and are not met, and what a move leaves of them.
use Rattle.std.specs.Prelude.{◌≡◌, ◌≢◌, ◌⊎◌, ℕ, ◌≤◌, ◌<◌, true, List, Option, Some, None, IfSome, All}
use Rattle.pl_state.specs.declared.reservation.Setting.{Setting}
use Rattle.pl_state.specs.Keys.{Has, key_before}
use Rattle.pl_state.specs.Sets.{set_key}
use Rattle.pl_semantics.specs.declared.demand.Demand.{Demand}
use Rattle.pl_semantics.specs.declared.plan_state.PlanState.{PlanState}
use Rattle.pl_semantics.specs.Demands.{demands_of, sets_of, state_at}
use Rattle.pl_bounds.specs.Askings.{IsAskingOf}
use Rattle.pl_bounds.specs.Seen.{EachSet, IsSeen}
use Rattle.pl_bounds.specs.Settings.{musts_asked}
use Rattle.pl_bounds.specs.declared.exchange.Exchange.{Exchange}
use Rattle.pl_bounds.specs.declared.unmet_musts.UnmetMust.{UnmetMust}

-- a set that stands, at this moment or before it
abbrev pub StandsBy : PlanState → ℕ → ℕ → Setting → Type 0
StandsBy s line t w = Has w (sets_of line (demands_of s)) × (w.at ≤ t)

-- The must stands. At the moment that was seen it needs its state, and the timeline has another one. The set, if there is one, stands, and
-- is not later than that moment.
pub record IsUnmet (s : PlanState) (u : UnmetMust) : Type 0 where
  pub seen : IsSeen s u.seen
  pub needed : Has u.must (musts_asked u.seen.line (demands_of s))
  pub from : u.must.from ≤ u.seen.at
  pub to : u.seen.at < u.must.to
  pub other : u.seen.state ≢ u.must.state
  pub set : IfSome u.set (λ w. StandsBy s u.seen.line u.seen.at w)

-- the first stands before the second, if there is a second
abbrev pub IsBehindIt : Setting → Option Setting → Type 0
IsBehindIt z None = ⊥
IsBehindIt z (Some w) = key_before (set_key z) (set_key w) ≡ true

-- The set `z`, whether it goes or comes, does not decide the state that was seen. It is later, or the timeline has another state at its
-- moment, or the set that was found stands behind it.
abbrev pub DecidesNot : PlanState → UnmetMust → Setting → Type 0
DecidesNot s u z = z.at ≤ u.seen.at → (state_at s u.seen.line z.at ≢ state_at s u.seen.line u.seen.at) ⊎ IsBehindIt z u.set

-- It is unmet without these demands too: none of them is the must, and none of their sets decides the state.
pub record IsLeftBy (s : PlanState) (going : List Demand) (u : UnmetMust) : Type 0 where
  pub unmet : IsUnmet s u
  pub stays : (line : ℕ) → Has u.must (musts_asked line going) → ⊥
  pub decides : EachSet u.seen.line (DecidesNot s u) going

-- It has what the first move and each one alike ask for, and musts that are unmet without what they take out.
pub record IsExchangeOf (s : PlanState) (x : Exchange) : Type 0 where
  pub asking : IsAskingOf s x.first x.asking
  pub left : All (IsLeftBy s x.asking.going.items) x.left.items
