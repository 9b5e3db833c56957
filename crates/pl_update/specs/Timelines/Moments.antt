-- Timelines at another moment, and with another base.
use Rattle.std.specs.Prelude.{◌≡◌, ℕ, ◌≤◌, false, List, slice_set, ℤ, pos, ◌≤ℤ◌, Option, Some, None}
use Rattle.pl_level.specs.Effects.{IsValue}
use Rattle.pl_semantics.specs.PlanStates.{natural}
use Rattle.pl_update.specs.declared.timelines.line.Line.{Line}
use Rattle.pl_update.specs.declared.timelines.line.Line.TheVariants.{Capacity, Level, States}

-- the timeline with this present
abbrev pub at_moment : ℕ → Line → Line
at_moment now (Capacity c) = Capacity (record c { moment = now })
at_moment now (Level l) = Level (record l { moment = now })
at_moment now (States x) = States (record x { moment = now })

-- its present may become this moment
abbrev pub MayReach : ℕ → Line → Type 0
MayReach now (Capacity c) = c.spoiled ≡ false → (c.moment ≤ now) × (now ≤ c.horizon)
MayReach now (Level l) = l.spoiled ≡ false → (l.moment ≤ now) × (now ≤ l.horizon)
MayReach now (States x) = x.spoiled ≡ false → (x.moment ≤ now) × (now ≤ x.horizon)

-- the timeline with this value at its present, from which it goes on; a capacity has none
abbrev pub based_on : ℤ → Line → Line
based_on value (Capacity c) = Capacity c
based_on value (Level l) = Level (record l { base = l.moment; value = value })
based_on value (States x) = States (record x { base = x.moment; value = natural value })

-- a level, or a state timeline, that may have this value
abbrev pub CanHave : ℤ → Line → Type 0
CanHave value (Capacity c) = ⊥
CanHave value (Level l) = IsValue value
CanHave value (States x) = (pos 0 ≤ℤ value) × (value ≤ℤ pos 4294967295)

abbrev pub CanHaveAt : ℤ → Option Line → Type 0
CanHaveAt value None = ⊥
CanHaveAt value (Some l) = CanHave value l

-- the timelines where the one of this number has this value at its present
abbrev pub rebased_in : List Line → ℕ → ℤ → Option Line → List Line
rebased_in lines line value None = lines
rebased_in lines line value (Some l) = slice_set lines line (based_on value l)
