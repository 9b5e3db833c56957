-- The moves that are tried for what is wrong with goals, activities and links.
use Rattle.std.specs.Prelude.{ℕ, ◌==◌, ℤ, pos, ◌+ℤ◌, ◌-ℤ◌, List, [], ◌∷◌, ◌++◌, map, filter, slice_get, Option, Some, None, option_and_then, if◌then◌else◌}
use Rattle.std.specs.Int.{int_min, int_max}
use Rattle.std.specs.List.{flat_map}
use Rattle.pl_facts.specs.declared.goal.Goal.{Goal}
use Rattle.pl_model.specs.declared.reservations.Point.{Point}
use Rattle.pl_model.specs.declared.reservations.Point.TheVariants.{Start, End}
use Rattle.pl_model.specs.declared.kinds.Kind.{Kind}
use Rattle.pl_model.specs.declared.links.Link.{Link}
use Rattle.pl_model.specs.declared.alternatives.Order.{Order}
use Rattle.pl_model.specs.declared.parameters.Param.{Param}
use Rattle.pl_plan.specs.declared.activity.Activity.{Activity}
use Rattle.pl_plan.specs.declared.repair.RepairMove.{RepairMove}
use Rattle.pl_plan.specs.declared.repair.RepairMove.TheVariants.{Add, Detail, Abstract, Assign, Drop}
use Rattle.pl_semantics.specs.declared.plan_state.PlanState.{PlanState}
use Rattle.pl_semantics.specs.PlanStates.{found, end_at, numbered, of_found}
use Rattle.pl_semantics.specs.Activities.{params_at, bindings_of}
use Rattle.pl_links.specs.Broken.{moment_of, links_of}
use Rattle.pl_semantics.specs.Links.{placed_of, order_at, place_in}
use Rattle.pl_semantics.specs.Moves.{is_free, alternatives_at}
use Rattle.pl_semantics.specs.Starts.{spread, starting, last_of, floor_at, shift_to, delete_root, moves_of, adds_of}

-- ---- goals and activities

abbrev pub for_goal : PlanState → Goal → List RepairMove
for_goal s g = flat_map (starting s (λ start. Add g.kind start (Some g.number))) (spread (int_max (pos g.earliest) (floor_at s)) (int_min (pos g.latest) (last_of s))) ++ Drop g.number ∷ []

abbrev pub assigns : ℕ → ℕ × Param → List RepairMove
assigns id p = map (λ v. Assign id p.0 v) (spread p.1.low p.1.high)

abbrev pub assigns_one : Activity → ℕ → ℕ × Param → List RepairMove
assigns_one a n p = if p.0 == n then assigns a.id p else []

abbrev pub for_unset : PlanState → Activity → ℕ → List RepairMove
for_unset s a n = flat_map (assigns_one a n) (params_at s a) ++ delete_root s a

-- each free parameter in order
abbrev pub all_assigns : PlanState → Activity → List RepairMove
all_assigns s a = flat_map (assigns a.id) (filter (is_free (bindings_of s a)) (params_at s a))

abbrev pub parent_at : PlanState → Activity → Option Activity
parent_at s a = option_and_then (λ p. found s p.0) a.parent

abbrev pub for_bad_value : PlanState → Activity → List RepairMove
for_bad_value s a = all_assigns s a ++ of_found (all_assigns s) (parent_at s a) ++ delete_root s a

abbrev pub for_undetailed : PlanState → Activity → List RepairMove
for_undetailed s a = map (λ k. Detail a.id k.0) (numbered 0 (alternatives_at s a)) ++ delete_root s a

-- a shift by which a firm activity ends at a moment
abbrev pub end_by : PlanState → Activity → ℤ → List RepairMove
end_by s a moment = of_found (λ end. starting s (shift_to a.id) (moment -ℤ (pos end -ℤ pos a.start))) (end_at s a)

abbrev pub for_overrun : PlanState → Activity → List RepairMove
for_overrun s a = end_by s a (pos s.model.horizon) ++ moves_of s a

-- ---- temporal links

-- where the start of an added partner lies: at the own point, or before it by the least that its kind takes
abbrev pub partner_start : ℤ → Point → ℕ → ℤ
partner_start own Start least = own
partner_start own End least = own -ℤ pos least

abbrev pub least_of : Option Kind → ℕ
least_of None = 0
least_of (Some k) = k.least_duration

abbrev pub kind_at : PlanState → ℕ → Option Kind
kind_at s kind = slice_get s.model.kinds kind

abbrev pub partners_from : PlanState → Link → ℤ → List RepairMove
partners_from s l p = adds_of s (spread (int_max (floor_at s) (p +ℤ l.low)) (int_min (last_of s) (p +ℤ l.high))) l.kind

abbrev pub partners_at : PlanState → Link → ℕ → List RepairMove
partners_at s l own = partners_from s l (partner_start (pos own) l.theirs (least_of (kind_at s l.kind)))

-- a partner within the window, by the own point of a firm activity
abbrev pub partners_for : PlanState → Activity → Link → List RepairMove
partners_for s a l = of_found (partners_at s l) (moment_of l.mine (placed_of s a))

abbrev pub for_temporal : PlanState → Activity → ℕ → List RepairMove
for_temporal s a index = of_found (partners_for s a) (slice_get (links_of s.model (placed_of s a)) index) ++ moves_of s a

-- ---- orders of slots

-- a shift of one that is not the parent
abbrev pub shift_one : PlanState → Option ℕ → Activity → ℤ → List RepairMove
shift_one s None a to = []
shift_one s (Some slot) a to = starting s (shift_to a.id) to

-- the second so that it lies low after the first, and then high; and then the first likewise
abbrev pub order_shifts : PlanState → Order → Activity → Activity → ℤ → List RepairMove
order_shifts s o first second apart =
    shift_one s o.second second ((pos second.start +ℤ o.low) -ℤ apart)
    ++ shift_one s o.second second ((pos second.start +ℤ o.high) -ℤ apart)
    ++ shift_one s o.first first ((pos first.start +ℤ apart) -ℤ o.low)
    ++ shift_one s o.first first ((pos first.start +ℤ apart) -ℤ o.high)

abbrev pub shifts_apart : PlanState → Order → Activity → Activity → Option ℕ → Option ℕ → List RepairMove
shifts_apart s o first second (Some x) (Some y) = order_shifts s o first second (pos y -ℤ pos x)
shifts_apart s o first second (Some x) None = []
shifts_apart s o first second None y = []

abbrev pub shifts_between : PlanState → Order → Option Activity → Option Activity → List RepairMove
shifts_between s o (Some first) (Some second) = shifts_apart s o first second (moment_of o.first_end (placed_of s first)) (moment_of o.second_end (placed_of s second))
shifts_between s o (Some first) None = []
shifts_between s o None second = []

abbrev pub for_order : PlanState → Activity → Order → List RepairMove
for_order s parent o = shifts_between s o (place_in s parent o.first) (place_in s parent o.second)

abbrev pub for_linked : PlanState → Activity → ℕ → List RepairMove
for_linked s parent index = of_found (for_order s parent) (order_at s parent index) ++ Abstract parent.id ∷ moves_of s parent
