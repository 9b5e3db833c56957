-- A timeline that is made anew: its base as it was told last, what is asked of it, and the present.
use Rattle.std.specs.Prelude.{ℕ, ℤ, false, Bool, List}
use Rattle.std.specs.List.{fold}
use Rattle.pl_capacity.specs.Uses as capacity
use Rattle.pl_level.specs.Effects as level
use Rattle.pl_state.specs.Timelines as states
use Rattle.pl_state.specs.declared.reservation.Setting.{Setting}
use Rattle.pl_state.specs.declared.reservation.Must.{Must}
use Rattle.pl_state.specs.Sets.{with_set}
use Rattle.pl_state.specs.Musts.{with_must}
use Rattle.pl_semantics.specs.declared.plan_state.PlanState.{PlanState}
use Rattle.pl_semantics.specs.PlanStates.{natural}
use Rattle.pl_semantics.specs.Demands.{demands_of, uses_of, effects_of, sets_of, musts_of, since, told}

abbrev pub capacity_of : PlanState → ℕ → ℤ → capacity.Standing
capacity_of s line most = record { spoiled = false; horizon = s.model.horizon; most = most; moment = s.moment; uses = uses_of line (demands_of s) }

abbrev pub level_of : PlanState → ℕ → ℤ → ℤ → level.Standing
level_of s line least most = record { spoiled = false; horizon = s.model.horizon; least = least; most = most; moment = s.moment; base = since s line; value = told s line; effects = effects_of line (demands_of s) }

abbrev pub states_of : PlanState → ℕ → Bool → List (ℕ × ℕ) → states.Standing
states_of s line any steps = record { spoiled = false; horizon = s.model.horizon; any = any; steps = steps; moment = s.moment; base = since s line; value = natural (told s line); sets = sets_of line (demands_of s); musts = musts_of line (demands_of s) }

-- sets and musts with others, each put in its place
abbrev pub with_sets : List Setting → List Setting → List Setting
with_sets sets more = fold (λ sorted x. with_set x sorted) sets more

abbrev pub with_musts : List Must → List Must → List Must
with_musts musts more = fold (λ sorted m. with_must m sorted) musts more
