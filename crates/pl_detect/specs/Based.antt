-- Timelines that have a base.
use Rattle.std.specs.Prelude.{ℕ, ℤ, pos, ◌≤ℤ◌, Option, Some, None}
use Rattle.pl_model.specs.declared.timelines.Timeline.{Timeline}
use Rattle.pl_model.specs.declared.timelines.Timeline.TheVariants.{States}
use Rattle.pl_facts.specs.Bases.{base_of}
use Rattle.pl_semantics.specs.declared.plan_state.PlanState.{PlanState}

-- told at this moment or before, with a value from 0 to this one
abbrev pub IsToldBy : ℕ → ℕ → Option (ℤ × ℤ) → Type 0
IsToldBy moment most None = ⊥
IsToldBy moment most (Some (at, value)) = (at ≤ℤ pos moment) × (pos 0 ≤ℤ value) × (value ≤ℤ pos most)

-- the timeline has a base, with a value up to this one
abbrev pub HasBase : PlanState → ℕ → ℕ → Type 0
HasBase s line most = IsToldBy s.moment most (base_of line s.bases)

abbrev pub IsStateLine : Option Timeline → Type 0
IsStateLine (Some (States name states start any steps)) = Unit {0}
IsStateLine _ = ⊥
