-- Expressions that have no value though all that they name have one, and values that are out of range.
use Rattle.std.specs.Prelude.{ℕ, ℤ, pos, int_le, Bool, true, false, not, ◌&&◌, ◌||◌, Option, Some, None, slice_index_or, is_some, is_none}
use Rattle.pl_model.specs.declared.expressions.Expr.{Expr, fold-Expr}
use Rattle.pl_model.specs.declared.expressions.Expr.TheOpen.{Expr-F}
use Rattle.pl_model.specs.declared.parameters.Param.{Param}
use Rattle.pl_model.specs.declared.parameters.Origin.{Origin}
use Rattle.pl_model.specs.declared.parameters.Origin.TheVariants.{Free, Dependent}
use Rattle.pl_model.specs.declared.reservations.Reservation.{Reservation}
use Rattle.pl_model.specs.declared.kinds.Kind.{Kind}
use Rattle.pl_model.specs.Values.{value_of}
use Rattle.pl_plan.specs.Values.{Row}
use Rattle.pl_plan.specs.Firm.{amount_of}

abbrev pub known_at : Row → Expr-F Bool → Bool
known_at values (Expr-F.Num n) = true
known_at values (Expr-F.Param p) = is_some (slice_index_or values p None)
known_at values (Expr-F.Apply op a b) = a && b

-- each parameter that the expression names has a value
abbrev pub is_known : Row → Expr → Bool
is_known values e = fold-Expr Bool (known_at values) e

-- no value, though all that the expression names have one
abbrev pub lacks_value : Row → Expr → Bool
lacks_value values e = is_known values e && is_none (value_of e values)

-- a value, but not from the least to the greatest
abbrev pub is_outside : ℤ → ℤ → Option ℤ → Bool
is_outside low high None = false
is_outside low high (Some v) = not (int_le low v && int_le v high)

-- out of range, or none though all that the expression names have one
abbrev pub is_bad : ℤ → ℤ → Row → Expr → Bool
is_bad low high values e = is_outside low high (value_of e values) || lacks_value values e

-- ---- the values of an activity

-- what gives a parameter its value lacks one: the slot's expression over the parent's values, or its own over those beside it
abbrev pub lacks_by : Option Expr → Origin → Row → Row → Bool
lacks_by (Some e) origin above own = lacks_value above e
lacks_by None (Free default) above own = false
lacks_by None (Dependent e) above own = lacks_value own e

-- of a parameter with this binding and this value
abbrev pub is_bad_param : Option Expr → Param → Row → Row → Option ℤ → Bool
is_bad_param binding p above own value = is_outside p.low p.high value || lacks_by binding p.origin above own

abbrev pub is_bad_duration : ℕ → Kind → Row → Bool
is_bad_duration horizon k own = is_bad (pos 1) (pos horizon) own k.duration

abbrev pub is_bad_amount_of : Row → Option Expr → Bool
is_bad_amount_of own None = false
is_bad_amount_of own (Some e) = is_bad (pos 0) (pos 1000000000) own e

abbrev pub is_bad_amount : Row → Reservation → Bool
is_bad_amount own r = is_bad_amount_of own (amount_of r)

-- a free parameter without a value
abbrev pub is_unset : Option Expr → Origin → Option ℤ → Bool
is_unset (Some e) origin value = false
is_unset None (Free default) value = is_none value
is_unset None (Dependent e) value = false
