-- Which timeline a set or a must is asked of: the one that the reservation of its activity names.
use Rattle.std.specs.Prelude.{◌≡◌, ℕ, List, All, slice_get, Some}
use Rattle.pl_semantics.specs.declared.plan_state.PlanState.{PlanState}
use Rattle.pl_semantics.specs.declared.demand.Demand.{Demand}
use Rattle.pl_semantics.specs.declared.demand.Asked.{Asked}
use Rattle.pl_semantics.specs.declared.demand.Asked.TheVariants as asked
use Rattle.pl_semantics.specs.Owners.{named_by}
use Rattle.pl_update.specs.declared.timelines.line.Line.{Line}
use Rattle.pl_update.specs.declared.timelines.line.Line.TheVariants.{Capacity, Level, States}

abbrev pub IsNamedAs : PlanState → ℕ → Asked → Type 0
IsNamedAs s line (asked.Use u) = Unit {0}
IsNamedAs s line (asked.Effect e) = Unit {0}
IsNamedAs s line (asked.Set x) = named_by s x.id x.index ≡ Some line
IsNamedAs s line (asked.Must m) = named_by s m.id m.index ≡ Some line

-- the demand is asked of the timeline that its activity's reservation names
abbrev pub IsNamed : PlanState → Demand → Type 0
IsNamed s d = IsNamedAs s d.line d.asked

abbrev pub HoldsNamed : PlanState → ℕ → Line → Type 0
HoldsNamed s line (Capacity c) = Unit {0}
HoldsNamed s line (Level l) = Unit {0}
HoldsNamed s line (States x) = All (λ y. named_by s y.id y.index ≡ Some line) x.sets × All (λ m. named_by s m.id m.index ≡ Some line) x.musts

-- the same of all that the timelines hold
abbrev pub AreNamed : PlanState → List Line → Type 0
AreNamed s lines = (line : ℕ) (l : Line) → slice_get lines line ≡ Some l → HoldsNamed s line l
