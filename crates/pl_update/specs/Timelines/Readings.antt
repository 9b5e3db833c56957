-- What timelines come to at a moment.
use Rattle.std.specs.Prelude.{◌≡◌, ℕ, ◌≤◌, ◌<◌, false, ℤ, pos, List, [], Option, Some}
use Rattle.pl_capacity.specs.Uses.{used}
use Rattle.pl_level.specs.Effects.{level}
use Rattle.pl_state.specs.declared.reservation.Must.{Must}
use Rattle.pl_state.specs.declared.reservation.Setting.{Setting}
use Rattle.pl_state.specs.Timelines.{state_at}
use Rattle.pl_update.specs.declared.timelines.line.Line.{Line}
use Rattle.pl_update.specs.declared.timelines.line.Line.TheVariants.{Capacity, Level, States}

-- a capacity that is not spoiled, at the present or later and before the horizon
abbrev pub IsCapacityAt : ℕ → Option Line → Type 0
IsCapacityAt t (Some (Capacity c)) = (c.spoiled ≡ false) × (c.moment ≤ t) × (t < c.horizon)
IsCapacityAt t _ = ⊥

abbrev pub IsLevelAt : ℕ → Option Line → Type 0
IsLevelAt t (Some (Level l)) = (l.spoiled ≡ false) × (l.moment ≤ t) × (t < l.horizon)
IsLevelAt t _ = ⊥

-- a level that is not spoiled, and a window from the present or later up to the horizon or less
abbrev pub IsLevelIn : ℕ → ℕ → Option Line → Type 0
IsLevelIn from to (Some (Level l)) = (l.spoiled ≡ false) × (l.moment ≤ from) × (from ≤ to) × (to ≤ l.horizon)
IsLevelIn from to _ = ⊥

abbrev pub AreStatesAt : ℕ → Option Line → Type 0
AreStatesAt t (Some (States x)) = (x.spoiled ≡ false) × (x.moment ≤ t) × (t < x.horizon)
AreStatesAt t _ = ⊥

-- what is in use of a capacity
abbrev pub used_of : ℕ → Option Line → ℤ
used_of t (Some (Capacity c)) = used c.uses t
used_of t _ = pos 0

-- the level
abbrev pub level_of : ℕ → Option Line → ℤ
level_of t (Some (Level l)) = level l t
level_of t _ = pos 0

-- the state
abbrev pub state_of : ℕ → Option Line → ℕ
state_of t (Some (States x)) = state_at x t
state_of t _ = 0

-- the sets that stand
abbrev pub sets_standing : Option Line → List Setting
sets_standing (Some (States x)) = x.sets
sets_standing _ = []

-- the musts that stand
abbrev pub musts_standing : Option Line → List Must
musts_standing (Some (States x)) = x.musts
musts_standing _ = []
