-- What an activity asks for, by its values alone.
use Rattle.std.proofs.Common.{◌≡◌, ◌≤◌, ◌+◌, ℕ, List, map, Option, Some, None, refl, ap, ◌∙◌}
use Rattle.std.specs.Prelude.{option_and_then}
use Rattle.std.specs.Option.{option_map}
use Rattle.pl_model.specs.declared.kinds.Kind.{Kind}
use Rattle.pl_model.specs.declared.whole.Model.{Model}
use Rattle.pl_plan.specs.declared.activity.Activity.{Activity}
use Rattle.pl_plan.specs.Fitting.{kind_of}
use Rattle.pl_plan.specs.Firm.{end_of, end_in, end_with}
use Rattle.pl_plan.specs.Values.{Row}
use Rattle.pl_semantics.specs.declared.demand.Demand.{Demand}
use Rattle.pl_semantics.specs.declared.plan_state.PlanState.{PlanState}
use Rattle.pl_semantics.specs.Demands.{asked_for, demands_until, demands_at}
use Rattle.pl_semantics.specs.Moves.{moved}
use Rattle.pl_semantics.specs.PlanStates.{found, row_of, reservations_in, numbered, of_found}
use Rattle.pl_bounds.specs.Moved.{moved_to, demand_moved}
use Rattle.pl_bounds.proofs.Moving.{end_moved, all_on}

abbrev pub asks_until : Model → Activity → Row → ℕ → List Demand
asks_until model a row end = map (asked_for a.id a.start end row) (numbered 0 (reservations_in (kind_of model a)))

-- with these values
abbrev pub asks : Model → Activity → Row → List Demand
asks model a row = of_found (asks_until model a row) (end_in model (Some a) row)

pub asks_found : (s : PlanState) (a : Activity) → found s a.id ≡ Some a → demands_at s a ≡ asks s.model a (row_of s a)
unfolding demands_at end_of
asks_found s a here = ap (λ (o : Option Activity). of_found (demands_until s a) (end_in s.model o (row_of s a))) here

-- they move along with it, where its end was not measured
pub asks_moved : (from to : ℕ) (model : Model) (a : Activity) (row : Row) → a.measured ≡ None → from ≤ a.start + to → asks model (moved from to a) row ≡ map (demand_moved from to) (asks model a row)
asks_moved from to model a row none low = ap (λ (o : Option ℕ). of_found (asks_until model (moved from to a) row) o) (end_on (kind_of model a)) ∙ by (end_in model (Some a) row)
  where
    end_on : (o : Option Kind) → option_and_then (λ k. end_with model.horizon k (moved_to from to a.start) a.measured row) o ≡ option_map (moved_to from to) (option_and_then (λ k. end_with model.horizon k a.start a.measured row) o)
    end_on None = refl
    end_on (Some k) = end_moved from to model.horizon k a.start a.measured row none low

    by : (o : Option ℕ) → of_found (asks_until model (moved from to a) row) (option_map (moved_to from to) o) ≡ map (demand_moved from to) (of_found (asks_until model a row) o)
    by None = refl
    by (Some end) = all_on from to a.id a.start end row (numbered 0 (reservations_in (kind_of model a)))
