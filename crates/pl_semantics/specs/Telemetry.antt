-- What telemetry leaves out, by the moment of a base itself, which is -1 before any telemetry.
use Rattle.std.specs.Prelude.{ℕ, ◌<◌, ◌≤◌, nat_le, ◌&&◌, ℤ, pos, negsuc, int_lt, List, [], ◌∷◌, Option, Some, None, IfSome, if◌then◌else◌}
use Rattle.pl_level.specs.declared.reservation.Effect.{Effect}
use Rattle.pl_state.specs.declared.reservation.Setting.{Setting}
use Rattle.pl_facts.specs.Bases.{base_of}
use Rattle.pl_plan.specs.declared.activity.Activity.{Activity}
use Rattle.pl_semantics.specs.declared.plan_state.PlanState.{PlanState}
use Rattle.pl_semantics.specs.declared.demand.Asked.{Asked}
use Rattle.pl_semantics.specs.declared.demand.Asked.TheVariants as asked

-- it starts at 1 at the earliest, and an end that was measured lies behind its start
abbrev pub IsBehindZero : Activity → Type 0
IsBehindZero a = (1 ≤ a.start) × IfSome a.measured (λ m. a.start < m)

-- the first moment of what is asked for
abbrev pub first_moment : Asked → ℕ
first_moment (asked.Use u) = u.from
first_moment (asked.Effect e) = e.at
first_moment (asked.Set x) = x.at
first_moment (asked.Must m) = m.from

abbrev pub moment_told : Option (ℤ × ℤ) → ℤ
moment_told None = negsuc 0
moment_told (Some (at, v)) = at

abbrev pub told_at : PlanState → ℕ → ℤ
told_at s line = moment_told (base_of line s.bases)

-- what an effect adds by a moment, where those up to the base's moment count no more
abbrev pub counted_after : ℤ → ℕ → Effect → ℤ
counted_after base t e = if int_lt base (pos e.at) && nat_le e.at t then e.delta else pos 0

-- the state that the last set after the base's moment up to this one leaves, else the one given
abbrev pub state_after : ℤ → ℕ → ℕ → List Setting → ℕ
state_after base t state [] = state
state_after base t state (x ∷ xs) = state_after base t (if int_lt base (pos x.at) && nat_le x.at t then x.state else state) xs
