-- What is kept of activities by their ids, and when that is what they come to.
use Rattle.std.specs.Prelude.{◌≡◌, ◌==◌, ℕ, List, Option}
use Rattle.std.specs.Option.{option_map}
use Rattle.std.specs.Map.{lookup}
use Rattle.pl_lists.specs.Lists as lists
use Rattle.pl_model.specs.declared.whole.Model.{Model}
use Rattle.pl_plan.specs.declared.activity.Activity.{Activity}
use Rattle.pl_plan.specs.declared.evaluated.Evaluated.{Evaluated}
use Rattle.pl_plan.specs.Activities.{activity_of}
use Rattle.pl_plan.specs.Values.{values_of}
use Rattle.pl_plan.specs.Firm.{amounts_of, end_of}
use Rattle.pl_semantics.specs.declared.plan_state.PlanState.{PlanState}
use Rattle.pl_semantics.specs.Whole.{IsWhole}
use Rattle.pl_update.specs.Changes.Replaced.{CanReplace, with_plan}

-- entries, each an id with what is kept under it
abbrev pub Entries : Type 0
Entries = List (ℕ × Evaluated)

-- ids rise, from this one on
abbrev pub RiseFrom : ℕ → Entries → Type 0
RiseFrom from entries = lists.RiseFrom (λ (entry : ℕ × Evaluated). entry.0) from entries

-- ids rise, so no id stands twice
abbrev pub AreRising : Entries → Type 0
AreRising entries = RiseFrom 0 entries

-- what is kept under an id
abbrev pub kept_at : ℕ → Entries → Option Evaluated
kept_at id entries = lookup (λ other. other == id) entries

-- the values of an activity's parameters, the amounts of its reservations, and its end
abbrev pub comes_to : Model → List Activity → Activity → Evaluated
comes_to model activities a = record { values = values_of model activities a.id; amounts = amounts_of model activities a.id; end = end_of model activities a.id }

-- the same of the activity of this id, and nothing where there is none
abbrev pub come_to : Model → List Activity → ℕ → Option Evaluated
come_to model activities id = option_map (comes_to model activities) (activity_of id activities)

-- under each id what its activity comes to is kept, and nothing where there is none
pub record AreKept (model : Model) (activities : List Activity) (kept : Entries) : Type 0 where
  pub each : (id : ℕ) → kept_at id kept ≡ come_to model activities id

-- what is kept is what the activities of this state come to
abbrev pub AreOf : PlanState → Entries → Type 0
AreOf s kept = AreKept s.model s.plan.activities kept

-- Where a replacement led to this state, and what was kept was that of the state before it, what is kept now is that of this one.
abbrev pub KeepsUp : PlanState → List ℕ → List Activity → Entries → Entries → Type 0
KeepsUp s gone placed old new = (before : PlanState) → IsWhole before → CanReplace before gone placed → s ≡ with_plan gone placed before → AreOf before old → AreOf s new
