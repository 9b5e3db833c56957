-- The bounds that each demand keeps.
use Rattle.std.specs.Prelude.{ℕ, ◌<◌, ◌≤◌, Option, slice_get}
use Rattle.pl_model.specs.declared.timelines.Timeline.{Timeline}
use Rattle.pl_model.specs.declared.whole.Model.{Model}
use Rattle.pl_model.specs.Checked.{IsCapacityLine, IsLevelLine, HasState}
use Rattle.pl_capacity.specs.Uses.{IsUse}
use Rattle.pl_level.specs.Effects.{IsEffect}
use Rattle.pl_semantics.specs.declared.demand.Demand.{Demand}
use Rattle.pl_semantics.specs.declared.demand.Asked.{Asked}
use Rattle.pl_semantics.specs.declared.demand.Asked.TheVariants as asked

-- from 1 to twice the greatest horizon
abbrev pub IsMoment : ℕ → Type 0
IsMoment t = (1 ≤ t) × (t ≤ 20000000)

-- Amounts lie from 0 to 10^9, so what a level is changed by lies within 10^9 of 0. What lasts has a moment at least.
abbrev pub IsBounded : Asked → Type 0
IsBounded (asked.Use u) = IsUse u × IsMoment u.from × IsMoment u.to
IsBounded (asked.Effect e) = IsEffect e × IsMoment e.at
IsBounded (asked.Set x) = IsMoment x.at
IsBounded (asked.Must m) = (m.from < m.to) × IsMoment m.from × IsMoment m.to

-- asked of a timeline of its sort, and a state that the timeline has
abbrev pub IsOfSort : Option Timeline → Asked → Type 0
IsOfSort line (asked.Use u) = IsCapacityLine line
IsOfSort line (asked.Effect e) = IsLevelLine line
IsOfSort line (asked.Set x) = HasState x.state line
IsOfSort line (asked.Must m) = HasState m.state line

pub record IsDemandOf (model : Model) (d : Demand) : Type 0 where
  pub bounded : IsBounded d.asked
  pub of_sort : IsOfSort (slice_get model.timelines d.line) d.asked
