-- What an activity asks for by the amounts of its reservations.
use Rattle.std.specs.Prelude.{◌≡◌, ℕ, ◌<◌, pos, ℤ, Bool, true, List, length, slice_index_or, Option, Some, None}
use Rattle.pl_model.specs.declared.expressions.Expr.{Expr}
use Rattle.pl_model.specs.declared.reservations.Reservation.{Reservation}
use Rattle.pl_plan.specs.Values.{Row}
use Rattle.pl_plan.specs.Firm.{is_within, amount_of}
use Rattle.pl_semantics.specs.declared.demand.Demand.{Demand}
use Rattle.pl_semantics.specs.Demands.{asked_with}

-- no amount is asked for, or this is one from 0 to 10^9
abbrev pub is_meant : Option ℤ → Option Expr → Bool
is_meant amount None = true
is_meant amount (Some e) = is_within (pos 0) (pos 1000000000) amount

abbrev pub is_given : Option ℤ → Reservation → Bool
is_given amount r = is_meant amount (amount_of r)

-- each reservation's place has its amount
pub record AreGiven (amounts : Row) (reservations : List Reservation) : Type 0 where
  pub places : length amounts ≡ length reservations
  pub each : (n : ℕ) (r : Reservation) → n < length reservations → is_given (slice_index_or amounts n None) (slice_index_or reservations n r) ≡ true

-- what a reservation asks for by the amounts of all
abbrev pub asked_by : ℕ → ℕ → ℕ → Row → ℕ × Reservation → Demand
asked_by id start end amounts x = asked_with id start end (slice_index_or amounts x.0 None) x
