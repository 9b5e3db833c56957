-- When an activity is firm, and when it ends.
use Rattle.std.specs.Prelude.{ℕ, suc, ◌+◌, nat_le, ℤ, pos, negsuc, int_le, Bool, true, false, ◌&&◌, List, [], ◌∷◌, map, slice_index_or, Option, Some, None, is_some, unwrap_or, option_and_then, if◌then◌else◌}
use Rattle.std.specs.Option.{option_map}
use Rattle.std.specs.List.{list_all}
use Rattle.pl_model.specs.declared.expressions.Expr.{Expr}
use Rattle.pl_model.specs.declared.parameters.Param.{Param}
use Rattle.pl_model.specs.declared.reservations.Reservation.{Reservation}
use Rattle.pl_model.specs.declared.reservations.Reservation.TheVariants.{Take, Raise, Lower, Put, Must}
use Rattle.pl_model.specs.declared.kinds.Kind.{Kind}
use Rattle.pl_model.specs.declared.whole.Model.{Model}
use Rattle.pl_model.specs.Values.{value_of}
use Rattle.pl_plan.specs.declared.activity.Activity.{Activity}
use Rattle.pl_plan.specs.Activities.{activity_of}
use Rattle.pl_plan.specs.Fitting.{kind_of}
use Rattle.pl_plan.specs.Values.{Row, values_of}

-- there is a value, from the least to the greatest
abbrev pub is_within : ℤ → ℤ → Option ℤ → Bool
is_within low high None = false
is_within low high (Some v) = int_le low v && int_le v high

-- each parameter, from this number on, has a value from its low to its high
abbrev pub are_in_range : ℕ → List Param → Row → Bool
are_in_range n [] values = true
are_in_range n (p ∷ more) values = is_within p.low p.high (slice_index_or values n None) && are_in_range (suc n) more values

abbrev pub amount_of : Reservation → Option Expr
amount_of (Take line e) = Some e
amount_of (Raise line e point) = Some e
amount_of (Lower line e point) = Some e
amount_of (Put line state point) = None
amount_of (Must line state) = None

-- no amount is asked for, or one that has a value from 0 to 10^9
abbrev pub is_amount : Row → Option Expr → Bool
is_amount values None = true
is_amount values (Some e) = is_within (pos 0) (pos 1000000000) (value_of e values)

abbrev pub has_amount : Row → Reservation → Bool
has_amount values r = is_amount values (amount_of r)

-- what the amount comes to: none where none is asked for, or where its expression has no value
abbrev pub amount_with : Row → Reservation → Option ℤ
amount_with values r = option_and_then (λ e. value_of e values) (amount_of r)

-- one place a reservation
abbrev pub amounts_with : Row → List Reservation → Row
amounts_with values reservations = map (amount_with values) reservations

abbrev pub amounts_in : Option Kind → Row → Row
amounts_in None values = []
amounts_in (Some k) values = amounts_with values k.reservations

-- the amounts of the reservations of the activity of this id
unfoldable pub amounts_of : Model → List Activity → ℕ → Row
amounts_of model activities id = amounts_in (option_and_then (kind_of model) (activity_of id activities)) (values_of model activities id)

-- a duration in moments, where there is one from 1 to the horizon
abbrev pub moments_in : ℕ → Option ℤ → Option ℕ
moments_in horizon None = None
moments_in horizon (Some (negsuc n)) = None
moments_in horizon (Some (pos n)) = if nat_le 1 n && nat_le n horizon then Some n else None

abbrev pub duration_in : ℕ → Kind → Row → Option ℕ
duration_in horizon k values = moments_in horizon (value_of k.duration values)

-- with these values an activity of this kind is firm
abbrev pub is_firm_with : ℕ → Kind → Row → Bool
is_firm_with horizon k values = are_in_range 0 k.params values && is_some (duration_in horizon k values) && list_all (has_amount values) k.reservations

-- The end of a firm activity: the one that was measured, else the start and the duration together.
abbrev pub end_with : ℕ → Kind → ℕ → Option ℕ → Row → Option ℕ
end_with horizon k start measured values = if is_firm_with horizon k values then option_map (λ d. unwrap_or measured (start + d)) (duration_in horizon k values) else None

abbrev pub is_firm_of : ℕ → Option Kind → Row → Bool
is_firm_of horizon None values = false
is_firm_of horizon (Some k) values = is_firm_with horizon k values

-- Every parameter has a value from its low to its high, the duration has one from 1 to the horizon, and each amount has one
-- from 0 to 10^9.
unfoldable pub is_firm : Model → List Activity → ℕ → Bool
is_firm model activities id = is_firm_of model.horizon (option_and_then (kind_of model) (activity_of id activities)) (values_of model activities id)

abbrev pub end_in : Model → Option Activity → Row → Option ℕ
end_in model None values = None
end_in model (Some a) values = option_and_then (λ k. end_with model.horizon k a.start a.measured values) (kind_of model a)

-- where the activity is firm, its measured end, or else its start and its duration together
unfoldable pub end_of : Model → List Activity → ℕ → Option ℕ
end_of model activities id = end_in model (activity_of id activities) (values_of model activities id)
