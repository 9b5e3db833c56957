-- Which timeline a conflict of timelines is about.
use Rattle.std.specs.Prelude.{ℕ, Option, Some, None, slice_get, option_and_then}
use Rattle.std.specs.Option.{option_map}
use Rattle.pl_conflict.specs.declared.conflict.Conflict.{Conflict}
use Rattle.pl_conflict.specs.declared.conflict.Code.{Code}
use Rattle.pl_conflict.specs.declared.conflict.Code.TheVariants as code
use Rattle.pl_model.specs.declared.reservations.Reservation.{Reservation}
use Rattle.pl_model.specs.declared.reservations.Reservation.TheVariants.{Take, Raise, Lower, Put, Must}
use Rattle.pl_plan.specs.Fitting.{kind_of}
use Rattle.pl_semantics.specs.declared.plan_state.PlanState.{PlanState}
use Rattle.pl_semantics.specs.PlanStates.{found, reservations_in}

abbrev pub line_named : Reservation → ℕ
line_named (Take line e) = line
line_named (Raise line e point) = line
line_named (Lower line e point) = line
line_named (Put line state point) = line
line_named (Must line state) = line

-- the timeline that a reservation of the activity of this id names
abbrev pub named_by : PlanState → ℕ → ℕ → Option ℕ
named_by s id index = option_map line_named (option_and_then (λ a. slice_get (reservations_in (kind_of s.model a)) index) (found s id))

abbrev pub owner_by : PlanState → Code → Conflict → Option ℕ
owner_by s code.Over q = Some q.subject
owner_by s code.Low q = Some q.subject
owner_by s code.High q = Some q.subject
owner_by s code.Must q = named_by s q.subject q.detail
owner_by s code.BadStep q = named_by s q.subject q.detail
owner_by s _ q = None

-- the subject of a span outside the limits; of a must and of a step what the reservation of their activity names
abbrev pub owner_of : PlanState → Conflict → Option ℕ
owner_of s q = owner_by s q.code q
