-- What demands ask of the states of a timeline, and where a state hangs on none of them.
use Rattle.std.specs.Prelude.{◌≡◌, ◌≢◌, ℕ, ◌≤◌, Bool, List, Option, Some}
use Rattle.std.specs.List.{flat_map}
use Rattle.pl_model.specs.declared.timelines.Timeline.{Timeline}
use Rattle.pl_model.specs.declared.timelines.Timeline.TheVariants.{States}
use Rattle.pl_state.specs.declared.reservation.Setting.{Setting}
use Rattle.pl_state.specs.declared.reservation.Must.{Must}
use Rattle.pl_state.specs.Keys.{Has}
use Rattle.pl_semantics.specs.declared.demand.Demand.{Demand}
use Rattle.pl_semantics.specs.declared.plan_state.PlanState.{PlanState}
use Rattle.pl_semantics.specs.Demands.{asked_of, set_in, must_in, state_at}

abbrev pub sets_asked : ℕ → List Demand → List Setting
sets_asked line ds = flat_map (asked_of set_in line) ds

abbrev pub musts_asked : ℕ → List Demand → List Must
musts_asked line ds = flat_map (asked_of must_in line) ds

-- At the moment of each of these sets that is not later than `t`, the timeline has another state than at `t`. So a set that is none of
-- them stands between, and the state at `t` hangs on none of them.
abbrev pub HangsOnNone : PlanState → ℕ → ℕ → List Demand → Type 0
HangsOnNone s line t ds = (x : Setting) → Has x (sets_asked line ds) → x.at ≤ t → state_at s line x.at ≢ state_at s line t

-- a timeline of states on which any step is allowed, or just these
abbrev pub HasSteps : Bool → List (ℕ × ℕ) → Option Timeline → Type 0
HasSteps any steps (Some (States name states start any' steps')) = (any' ≡ any) × (steps' ≡ steps)
HasSteps any steps _ = ⊥
