-- What is wrong with an activity that is not committed, by what it is, what its ancestors are, and where the present is.
use Rattle.std.specs.Prelude.{ℕ, ◌+◌, nat_le, nat_lt, ◌==◌, ◌&&◌, not, ℤ, List, [], ◌++◌, length, slice_index_or, Option, Some, None, is_none}
use Rattle.std.specs.List.{flat_map}
use Rattle.pl_conflict.specs.declared.conflict.Conflict.{Conflict}
use Rattle.pl_conflict.specs.declared.conflict.Code.{Code}
use Rattle.pl_conflict.specs.declared.conflict.Code.TheVariants.{Late, Unset, BadValue, Undetailed, Overrun}
use Rattle.pl_model.specs.declared.expressions.Expr.{Expr}
use Rattle.pl_model.specs.declared.parameters.Param.{Param}
use Rattle.pl_model.specs.declared.reservations.Reservation.{Reservation}
use Rattle.pl_model.specs.declared.kinds.Kind.{Kind}
use Rattle.pl_model.specs.Checked.{params_of}
use Rattle.pl_plan.specs.declared.activity.Activity.{Activity}
use Rattle.pl_plan.specs.Fitting.{kind_of, alternatives_of}
use Rattle.pl_plan.specs.Values.{Row, values_of, bindings_at, binding_of}
use Rattle.pl_plan.specs.Known.{is_unset, is_bad_param, is_bad_duration, is_bad_amount}
use Rattle.pl_semantics.specs.declared.plan_state.PlanState.{PlanState}
use Rattle.pl_semantics.specs.PlanStates.{is_committed, found, row_of, end_at, numbered, reservations_of, if_planned, of_found, when}

-- a conflict from the start of an activity, with its detail and one moment
abbrev pub at_start : Activity → Code → ℕ → ℕ → Conflict
at_start a code detail moment = record { from = a.start; code = code; subject = a.id; detail = detail; a = moment; b = 0 }

-- ---- late

-- its start has come
abbrev pub late_at : PlanState → Activity → List Conflict
late_at s a = when (nat_le a.start s.moment) (at_start a Late 0 0)

-- ---- unset

-- the expressions that the slot of an activity binds to its parameters
abbrev pub bindings_of : PlanState → Activity → List (ℕ × Expr)
bindings_of s a = bindings_at s.model s.plan.activities a.parent

-- the parameters of its kind, each with its number
abbrev pub params_at : PlanState → Activity → List (ℕ × Param)
params_at s a = numbered 0 (params_of (kind_of s.model a))

abbrev pub value_in : PlanState → Activity → ℕ → Option ℤ
value_in s a n = slice_index_or (row_of s a) n None

-- a free parameter has no value
abbrev pub unset_one : PlanState → Activity → ℕ × Param → List Conflict
unset_one s a p = when (is_unset (binding_of p.0 (bindings_of s a)) p.1.origin (value_in s a p.0)) (at_start a Unset p.0 0)

abbrev pub unset_at : PlanState → Activity → List Conflict
unset_at s a = flat_map (unset_one s a) (params_at s a)

-- ---- bad values: out of range, or none of an expression though all that it names have one

abbrev pub row_above : PlanState → Option (ℕ × ℕ) → Row
row_above s None = []
row_above s (Some p) = values_of s.model s.plan.activities p.0

abbrev pub bad_param : PlanState → Activity → ℕ × Param → List Conflict
bad_param s a p = when (is_bad_param (binding_of p.0 (bindings_of s a)) p.1 (row_above s a.parent) (row_of s a) (value_in s a p.0)) (at_start a BadValue p.0 0)

abbrev pub bad_duration : PlanState → Activity → Kind → List Conflict
bad_duration s a k = when (is_bad_duration s.model.horizon k (row_of s a)) (at_start a BadValue 16 0)

abbrev pub bad_amount : PlanState → Activity → ℕ × Reservation → List Conflict
bad_amount s a r = when (is_bad_amount (row_of s a) r.1) (at_start a BadValue (17 + r.0) 0)

-- parameters by their numbers, the duration as 16, and amounts as 17 and the reservation's number
abbrev pub bad_values_at : PlanState → Activity → List Conflict
bad_values_at s a = flat_map (bad_param s a) (params_at s a) ++ of_found (bad_duration s a) (kind_of s.model a) ++ flat_map (bad_amount s a) (reservations_of s a)

-- ---- undetailed

-- its kind has alternatives, and none is chosen
abbrev pub undetailed_at : PlanState → Activity → List Conflict
undetailed_at s a = when (not (length (alternatives_of (kind_of s.model a)) == 0) && is_none a.detail) (at_start a Undetailed 0 0)

-- ---- overrun

abbrev pub past_end : PlanState → Activity → ℕ → List Conflict
past_end s a end = when (nat_lt s.model.horizon end) (at_start a Overrun 0 end)

-- it is firm and ends behind the horizon
abbrev pub overrun_at : PlanState → Activity → List Conflict
overrun_at s a = of_found (past_end s a) (end_at s a)

-- ---- the part

-- what is wrong with one activity, where it is not committed
unfoldable pub wrong_at : PlanState → Activity → List Conflict
wrong_at s a = if_planned (is_committed s a) (late_at s a ++ unset_at s a ++ bad_values_at s a ++ undetailed_at s a ++ overrun_at s a)

-- the same of the activity of this id
abbrev pub wrong_of : PlanState → ℕ → List Conflict
wrong_of s id = of_found (wrong_at s) (found s id)

abbrev pub activity_conflicts : PlanState → List Conflict
activity_conflicts s = flat_map (wrong_at s) s.plan.activities
