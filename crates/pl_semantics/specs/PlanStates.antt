-- What a board stands for, and the words that all its rules share.
use Rattle.std.specs.Prelude.{ℕ, suc, ◌+◌, max, nat_lt, nat_le, ◌==◌, ◌&&◌, not, Bool, true, false, ℤ, pos, negsuc, List, [], ◌∷◌, Option, Some, None, option_and_then}
use Rattle.std.specs.List.{list_any}
use Rattle.pl_semantics.specs.declared.plan_state.PlanState.{PlanState}
use Rattle.pl_facts.specs.declared.goal.Goal.{Goal}
use Rattle.pl_facts.specs.Goals.{goal_of}
use Rattle.pl_model.specs.declared.kinds.Kind.{Kind}
use Rattle.pl_model.specs.declared.reservations.Reservation.{Reservation}
use Rattle.pl_plan.specs.declared.activity.Activity.{Activity}
use Rattle.pl_plan.specs.Activities.{activity_of}
use Rattle.pl_plan.specs.Fitting.{kind_of}
use Rattle.pl_plan.specs.Serving.{served_in, is_served}
use Rattle.pl_plan.specs.Values.{Row, values_of}
use Rattle.pl_plan.specs.Firm.{amounts_of, end_of}

-- the least start that a repair may give
abbrev pub floor_of : PlanState → ℕ
floor_of s = max (s.moment + 1) s.committed

abbrev pub is_committed : PlanState → Activity → Bool
is_committed s a = nat_lt a.start s.committed

-- not committed, or still to start
abbrev pub is_ahead : PlanState → Activity → Bool
is_ahead s a = not (is_committed s a && nat_le a.start s.moment)

abbrev pub found : PlanState → ℕ → Option Activity
found s id = activity_of id s.plan.activities

-- ---- what an activity comes to

abbrev pub row_of : PlanState → Activity → Row
row_of s a = values_of s.model s.plan.activities a.id

-- the amounts of its reservations, one place each
abbrev pub amounts_at : PlanState → Activity → Row
amounts_at s a = amounts_of s.model s.plan.activities a.id

-- its end, where it is firm
abbrev pub end_at : PlanState → Activity → Option ℕ
end_at s a = end_of s.model s.plan.activities a.id

abbrev pub reservations_in : Option Kind → List Reservation
reservations_in None = []
reservations_in (Some k) = k.reservations

-- each item with its number, counted on from this one
abbrev pub numbered : {T : Type 0} → ℕ → List T → List (ℕ × T)
numbered n [] = []
numbered n (x ∷ xs) = (n, x) ∷ numbered (suc n) xs

-- what its kind asks of timelines, each with its number
abbrev pub reservations_of : PlanState → Activity → List (ℕ × Reservation)
reservations_of s a = numbered 0 (reservations_in (kind_of s.model a))

-- ---- goals

-- not dropped, and no root serves it
abbrev pub is_open : PlanState → Goal → Bool
is_open s g = not g.dropped && not (is_served g.number s.plan.activities)

abbrev pub goal_at : PlanState → ℕ → Option Goal
goal_at s n = goal_of n s.goals

-- the goal that it serves, if it is a root that carries one
abbrev pub served_by : PlanState → Activity → Option Goal
served_by s a = option_and_then (goal_at s) (served_in a)

-- ---- lists of conflicts

-- what a rule gives of the one that was found, if there is one
abbrev pub of_found : {X R : Type 0} → (X → List R) → Option X → List R
of_found rule None = []
of_found rule (Some x) = rule x

-- a single one, where the test holds
abbrev pub when : {R : Type 0} → Bool → R → List R
when true r = r ∷ []
when false r = []

-- nothing where the activity is committed
abbrev pub if_planned : {R : Type 0} → Bool → List R → List R
if_planned true wrong = []
if_planned false wrong = wrong

-- ---- numbers

-- a whole number that is not below 0, else 0
abbrev pub natural : ℤ → ℕ
natural (pos n) = n
natural (negsuc n) = 0

-- ---- ids

-- whether a number is among these
abbrev pub among : ℕ → List ℕ → Bool
among n ids = list_any (λ i. i == n) ids
