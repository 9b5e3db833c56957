-- Which kinds help with a timeline, and which activities are its users, for which moves are tried.
use Rattle.std.specs.Prelude.{ℕ, nat_lt, ◌==◌, Bool, false, ◌&&◌, not, pos, int_lt, List, ◌++◌, ◌-◌, map, take, filter, length}
use Rattle.pl_model.specs.declared.reservations.Reservation.{Reservation}
use Rattle.pl_model.specs.declared.reservations.Reservation.TheVariants.{Take, Raise, Lower}
use Rattle.pl_plan.specs.declared.activity.Activity.{Activity}
use Rattle.pl_plan.specs.Trees.{id_of}
use Rattle.pl_plan.specs.Values.{Row}
use Rattle.pl_semantics.specs.declared.plan_state.PlanState.{PlanState}
use Rattle.pl_semantics.specs.PlanStates.{is_committed}
use Rattle.pl_semantics.specs.declared.demand.Demand.{Demand}
use Rattle.pl_semantics.specs.Demands.{amount_in}
use Rattle.pl_semantics.specs.LineRepairs.{raises, lowers, sets_state, sets_any, is_used_in, takes_in, lowers_below, raises_below, point_counts}
use Rattle.pl_cand.specs.declared.help.Help.{Help}
use Rattle.pl_cand.specs.declared.help.Help.TheVariants as help
use Rattle.pl_cand.specs.declared.role.Role.{Role}
use Rattle.pl_cand.specs.declared.role.Role.TheVariants as role
use Rattle.pl_cand.specs.declared.role.Way.{Way}
use Rattle.pl_cand.specs.declared.role.Way.TheVariants as way

abbrev pub helps : ℕ → Help → Reservation → Bool
helps line help.Raise r = raises line r
helps line help.Lower r = lowers line r
helps line (help.SetState state) r = sets_state line state r
helps line help.SetAny r = sets_any line r

-- whether an activity lowers a level before a moment, or raises it
abbrev pub changes_below : Way → PlanState → ℕ → ℕ → Activity → Bool
changes_below way.Down = lowers_below
changes_below way.Up = raises_below

abbrev pub plays : PlanState → ℕ → Role → Activity → Bool
plays s line (role.Uses a b) x = takes_in s line a b x
plays s line (role.ChangesBelow b w) x = changes_below w s line b x

-- not committed, and plays the role
abbrev pub is_user : PlanState → ℕ → Role → Activity → Bool
is_user s line part x = not (is_committed s x) && plays s line part x

-- a reservation of an activity from a start to an end takes an amount above 0 of the timeline at moments of a span
abbrev pub uses_in : ℕ → ℕ → ℕ → ℕ → ℕ → Row → Reservation → Bool
uses_in line a b start end values (Take l e) = (l == line) && (int_lt (pos 0) (amount_in values e) && (nat_lt start b && nat_lt a end))
uses_in line a b start end values _ = false

-- it takes from the timeline, and its activity starts before a moment
abbrev pub may_take : ℕ → ℕ → ℕ → Reservation → Bool
may_take line b start (Take l e) = (l == line) && nat_lt start b
may_take line b start _ = false

-- what is asked of the timeline is an amount above 0 at moments of a span
abbrev pub is_used_of : ℕ → ℕ → ℕ → Demand → Bool
is_used_of line a b d = (d.line == line) && is_used_in a b d.asked

-- ---- one reservation of a level

abbrev pub changes_at : Way → PlanState → ℕ → ℕ → Activity → Reservation → Bool
changes_at way.Down s line b a (Lower l e point) = (l == line) && point_counts s line b a point
changes_at way.Up s line b a (Raise l e point) = (l == line) && point_counts s line b a point
changes_at _ s line b a _ = false

-- ---- the first eight users

-- the ids found so far, and those that will be found among the other activities
abbrev pub users_with : PlanState → ℕ → Role → List ℕ → List Activity → List ℕ
users_with s line part ids rest = ids ++ map id_of (take (8 - length ids) (filter (is_user s line part) rest))
