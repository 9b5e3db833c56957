-- Each rule's conflicts have its subject and the codes of its part.
use Rattle.std.proofs.Common.{◌≡◌, ℕ, ◌+◌, Bool, true, false, ◌++◌, refl}
use Rattle.std.specs.Prelude.{◌||◌, ◌&&◌, nat_lt, nat_le, Option, Some, None}
use Rattle.std.specs.List.{flat_map}
use Rattle.pl_conflict.specs.declared.conflict.Conflict.{Conflict}
use Rattle.pl_conflict.specs.declared.conflict.Code.TheVariants as code
use Rattle.pl_facts.specs.declared.goal.Goal.{Goal}
use Rattle.pl_model.specs.declared.timelines.Timeline.{Timeline}
use Rattle.pl_model.specs.declared.timelines.Timeline.TheVariants.{Capacity, Level, States}
use Rattle.pl_links.specs.Broken.{broken_by}
use Rattle.pl_plan.specs.declared.activity.Activity.{Activity}
use Rattle.pl_plan.specs.Fitting.{kind_of}
use Rattle.pl_semantics.specs.declared.plan_state.PlanState.{PlanState}
use Rattle.pl_semantics.specs.PlanStates.{floor_of, is_committed, is_ahead, is_open, served_by, end_at, reservations_of, of_found}
use Rattle.pl_semantics.specs.Parts.{IsOf, part_of, of_goals, of_activities, of_links, of_timelines}
use Rattle.pl_semantics.specs.Goals.{open_goal, open_at, off_goal, off_from, off_at}
use Rattle.pl_semantics.specs.Activities.{at_start, late_at, unset_one, unset_at, params_at, bad_param, bad_duration, bad_amount, bad_values_at, undetailed_at, past_end, overrun_at, wrong_at}
use Rattle.pl_semantics.specs.Links.{placed_of, placed_in, lone, place_in, order_at, unmet_from, unmet_order, link_conflict, conflict_of, links_at}
use Rattle.pl_semantics.specs.Timelines.{outside, lows, highs, unmet_must, musts, bad_step, bad_steps, line_conflicts}
use Rattle.pl_semantics.proofs.Owning.{Each, each_none, each_append, each_when, each_planned, each_found, each_flat, each_map}

-- ---- goals

pub open_is : (s : PlanState) (g : Goal) → Each (IsOf of_goals g.number) (open_at s g)
unfolding open_at
open_is s g = each_when (IsOf of_goals g.number) (is_open s g && nat_le (floor_of s) g.latest) (open_goal g) (refl, refl)

pub off_is : (s : PlanState) (a : Activity) → Each (IsOf of_goals a.id) (off_at s a)
unfolding off_at
off_is s a = each_planned (IsOf of_goals a.id) (is_committed s a) (of_found (off_from a) (served_by s a)) (each_found (IsOf of_goals a.id) (off_from a) (served_by s a) (λ g. each_when (IsOf of_goals a.id) (nat_lt a.start g.earliest || nat_lt g.latest a.start) (off_goal a g) (refl, refl)))

-- ---- activities

bad_is : (s : PlanState) (a : Activity) → Each (IsOf of_activities a.id) (bad_values_at s a)
bad_is s a =
    each_append Is (flat_map (bad_param s a) (params_at s a) ++ of_found (bad_duration s a) (kind_of s.model a)) (flat_map (bad_amount s a) (reservations_of s a))
    (each_append Is (flat_map (bad_param s a) (params_at s a)) (of_found (bad_duration s a) (kind_of s.model a))
    (each_flat Is (bad_param s a) (params_at s a) (λ p. each_when Is _ (at_start a code.BadValue p.0 0) (refl, refl)))
    (each_found Is (bad_duration s a) (kind_of s.model a) (λ k. each_when Is _ (at_start a code.BadValue 16 0) (refl, refl))))
    (each_flat Is (bad_amount s a) (reservations_of s a) (λ r. each_when Is _ (at_start a code.BadValue (17 + r.0) 0) (refl, refl)))
  where
    Is : Conflict → Type 0
    Is q = IsOf of_activities a.id q

wrong_one : (s : PlanState) (a : Activity) → Each (IsOf of_activities a.id) (late_at s a ++ unset_at s a ++ bad_values_at s a ++ undetailed_at s a ++ overrun_at s a)
wrong_one s a =
    each_append Is (late_at s a ++ unset_at s a ++ bad_values_at s a ++ undetailed_at s a) (overrun_at s a)
    (each_append Is (late_at s a ++ unset_at s a ++ bad_values_at s a) (undetailed_at s a)
    (each_append Is (late_at s a ++ unset_at s a) (bad_values_at s a)
    (each_append Is (late_at s a) (unset_at s a)
    (each_when Is _ (at_start a code.Late 0 0) (refl, refl))
    (each_flat Is (unset_one s a) (params_at s a) (λ p. each_when Is _ (at_start a code.Unset p.0 0) (refl, refl))))
    (bad_is s a))
    (each_when Is _ (at_start a code.Undetailed 0 0) (refl, refl)))
    (each_found Is (past_end s a) (end_at s a) (λ end. each_when Is _ (at_start a code.Overrun 0 end) (refl, refl)))
  where
    Is : Conflict → Type 0
    Is q = IsOf of_activities a.id q

pub wrong_is : (s : PlanState) (a : Activity) → Each (IsOf of_activities a.id) (wrong_at s a)
unfolding wrong_at
wrong_is s a = each_planned (IsOf of_activities a.id) (is_committed s a) (late_at s a ++ unset_at s a ++ bad_values_at s a ++ undetailed_at s a ++ overrun_at s a) (wrong_one s a)

-- ---- links

unmet_is : (s : PlanState) (a : Activity) (index : ℕ) (first second : Option Activity) → Each (IsOf of_links a.id) (unmet_from s a index first second)
unmet_is s a index (Some first) (Some second) = each_when (IsOf of_links a.id) (is_ahead s a || (is_ahead s first || is_ahead s second)) _ (refl, refl)
unmet_is s a index (Some first) None = each_none (IsOf of_links a.id)
unmet_is s a index None second = each_none (IsOf of_links a.id)

conflict_is : (s : PlanState) (a : Activity) (slots : Bool) (index : ℕ) → Each (IsOf of_links a.id) (link_conflict s a slots index)
conflict_is s a false index = each_when (IsOf of_links a.id) (is_ahead s a) (lone a index) (refl, refl)
conflict_is s a true index = each_found (IsOf of_links a.id) (unmet_order s a index) (order_at s a index) (λ o. unmet_is s a index (place_in s a o.first) (place_in s a o.second))

pub linked_is : (s : PlanState) (a : Activity) → Each (IsOf of_links a.id) (links_at s a)
unfolding links_at
linked_is s a = each_flat (IsOf of_links a.id) (conflict_of s a) (broken_by s.model (placed_in s) (placed_of s a)) (λ b. conflict_is s a b.slots b.index)

-- ---- timelines

abbrev pub IsOfLine : Conflict → Type 0
IsOfLine q = part_of q.code ≡ of_timelines

pub line_is : (s : PlanState) (line : ℕ) (t : Timeline) → Each IsOfLine (line_conflicts s (line, t))
unfolding line_conflicts
line_is s line (Capacity name most) = each_map IsOfLine (outside code.Over line) _ (λ p. refl)
line_is s line (Level name least most start) = each_append IsOfLine (lows s line least) (highs s line most) (each_map IsOfLine (outside code.Low line) _ (λ p. refl)) (each_map IsOfLine (outside code.High line) _ (λ p. refl))
line_is s line (States name states start any steps) = each_append IsOfLine (musts s line) (bad_steps s line any steps) (each_map IsOfLine (unmet_must s) _ (λ m. refl)) (each_map IsOfLine (bad_step s) _ (λ x. refl))
