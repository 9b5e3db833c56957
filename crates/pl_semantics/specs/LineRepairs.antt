-- The moves that are tried for what is wrong with timelines.
use Rattle.std.specs.Prelude.{ℕ, nat_lt, ◌==◌, Bool, false, ◌&&◌, not, pos, int_lt, List, [], ◌++◌, filter, take, slice_get, Option}
use Rattle.std.specs.List.{flat_map, list_any}
use Rattle.pl_model.specs.declared.reservations.Point.{Point}
use Rattle.pl_model.specs.declared.reservations.Reservation.{Reservation}
use Rattle.pl_model.specs.declared.reservations.Reservation.TheVariants.{Raise, Lower, Put, Must}
use Rattle.pl_plan.specs.declared.activity.Activity.{Activity}
use Rattle.pl_plan.specs.declared.repair.RepairMove.{RepairMove}
use Rattle.pl_plan.specs.Fitting.{kind_of}
use Rattle.pl_semantics.specs.declared.plan_state.PlanState.{PlanState}
use Rattle.pl_semantics.specs.PlanStates.{is_committed, reservations_in, of_found}
use Rattle.pl_semantics.specs.declared.demand.Asked.{Asked}
use Rattle.pl_semantics.specs.declared.demand.Asked.TheVariants as asked
use Rattle.pl_semantics.specs.Demands.{demands_at, since}
use Rattle.pl_links.specs.Broken.{moment_of}
use Rattle.pl_semantics.specs.Links.{placed_of}
use Rattle.pl_semantics.specs.Moves.{holds}
use Rattle.pl_semantics.specs.Starts.{starting, shift_to, moves_of, helpers, help_until}
use Rattle.pl_semantics.specs.Repairs.{end_by}

-- ---- what kinds ask of a timeline

abbrev pub raises : ℕ → Reservation → Bool
raises line (Raise l e point) = l == line
raises line _ = false

abbrev pub lowers : ℕ → Reservation → Bool
lowers line (Lower l e point) = l == line
lowers line _ = false

abbrev pub sets_state : ℕ → ℕ → Reservation → Bool
sets_state line state (Put l t point) = (l == line) && (t == state)
sets_state line state _ = false

abbrev pub sets_any : ℕ → Reservation → Bool
sets_any line (Put l t point) = l == line
sets_any line _ = false

-- ---- timelines

-- the first eight, by id, of those that are not committed and pass the test
abbrev pub first_eight : PlanState → (Activity → Bool) → List Activity
first_eight s test = take 8 (filter (λ a. not (is_committed s a) && test a) s.plan.activities)

-- an amount above 0 at moments of the span
abbrev pub is_used_in : ℕ → ℕ → Asked → Bool
is_used_in a b (asked.Use u) = int_lt (pos 0) u.amount && (nat_lt u.from b && nat_lt a u.to)
is_used_in a b (asked.Effect e) = false
is_used_in a b (asked.Set x) = false
is_used_in a b (asked.Must m) = false

-- takes an amount above 0 of the timeline at moments of the span
abbrev pub takes_in : PlanState → ℕ → ℕ → ℕ → Activity → Bool
takes_in s line a b x = list_any (λ d. (d.line == line) && is_used_in a b d.asked) (demands_at s x)

abbrev pub users_of : PlanState → ℕ → ℕ → ℕ → List Activity
users_of s line a b = first_eight s (takes_in s line a b)

-- behind the span, and before it
abbrev pub around : PlanState → ℕ → ℕ → Activity → List RepairMove
around s a b user = starting s (shift_to user.id) (pos b) ++ end_by s user (pos a)

abbrev pub for_over : PlanState → ℕ → ℕ → ℕ → List RepairMove
for_over s line a b = flat_map (around s a b) (users_of s line a b) ++ flat_map (moves_of s) (users_of s line a b)

-- a moment after the base's and before the horizon, below another one
abbrev pub counts_below : PlanState → ℕ → ℕ → ℕ → Bool
counts_below s line b at = nat_lt (since s line) at && (nat_lt at s.model.horizon && nat_lt at b)

-- the moment of a point of a firm activity counts
abbrev pub point_counts : PlanState → ℕ → ℕ → Activity → Point → Bool
point_counts s line b a point = holds (counts_below s line b) (moment_of point (placed_of s a))

-- a firm activity lowers the level at a moment that counts
abbrev pub lowers_below : PlanState → ℕ → ℕ → Activity → Bool
lowers_below s line b a = list_any lowers_at (reservations_in (kind_of s.model a))
  where
    lowers_at : Reservation → Bool
    lowers_at (Lower l e point) = (l == line) && point_counts s line b a point
    lowers_at _ = false

abbrev pub raises_below : PlanState → ℕ → ℕ → Activity → Bool
raises_below s line b a = list_any raises_at (reservations_in (kind_of s.model a))
  where
    raises_at : Reservation → Bool
    raises_at (Raise l e point) = (l == line) && point_counts s line b a point
    raises_at _ = false

abbrev pub for_low : PlanState → ℕ → ℕ → ℕ → List RepairMove
for_low s line a b = help_until s (helpers s (raises line)) a ++ flat_map (moves_of s) (first_eight s (lowers_below s line b))

abbrev pub for_high : PlanState → ℕ → ℕ → ℕ → List RepairMove
for_high s line a b = help_until s (helpers s (lowers line)) a ++ flat_map (moves_of s) (first_eight s (raises_below s line b))

-- ---- states

-- help by kinds that set the state that a must needs
abbrev pub help_must : PlanState → ℕ → Reservation → List RepairMove
help_must s m (Must line state) = help_until s (helpers s (sets_state line state)) m
help_must s m _ = []

-- help by kinds that set the timeline of a set
abbrev pub help_step : PlanState → ℕ → Reservation → List RepairMove
help_step s m (Put line state point) = help_until s (helpers s (sets_any line)) m
help_step s m _ = []

abbrev pub reservation_at : PlanState → Activity → ℕ → Option Reservation
reservation_at s a index = slice_get (reservations_in (kind_of s.model a)) index

abbrev pub for_must : PlanState → Activity → ℕ → ℕ → List RepairMove
for_must s a index m = of_found (help_must s m) (reservation_at s a index) ++ moves_of s a

abbrev pub for_bad_step : PlanState → Activity → ℕ → ℕ → List RepairMove
for_bad_step s a index m = of_found (help_step s m) (reservation_at s a index) ++ moves_of s a
