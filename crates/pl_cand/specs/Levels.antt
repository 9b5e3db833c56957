-- Reservations of levels.
use Rattle.std.specs.Prelude.{ℕ, ℤ, pos, ◌≤ℤ◌, Option, None, Some}
use Rattle.pl_model.specs.declared.reservations.Reservation.{Reservation}
use Rattle.pl_model.specs.declared.reservations.Reservation.TheVariants.{Raise, Lower}
use Rattle.pl_facts.specs.Bases.{base_of}
use Rattle.pl_semantics.specs.declared.plan_state.PlanState.{PlanState}

-- told at this moment or before
abbrev pub IsToldAt : ℕ → Option (ℤ × ℤ) → Type 0
IsToldAt moment None = ⊥
IsToldAt moment (Some (at, value)) = at ≤ℤ pos moment

-- the timeline has a base, told at the present or before
abbrev pub HasBase : PlanState → ℕ → Type 0
HasBase s line = IsToldAt s.moment (base_of line s.bases)

-- a reservation that raises or lowers a level is on a timeline that has a base
abbrev pub IsOfLevel : PlanState → Reservation → Type 0
IsOfLevel s (Raise line e point) = HasBase s line
IsOfLevel s (Lower line e point) = HasBase s line
IsOfLevel s _ = Unit {0}
