-- The steps by which a move changes what a timeline comes to.
use Rattle.std.specs.Prelude.{◌≡◌, ℕ, ◌&&◌, ◌==◌, nat_lt, nat_le, ℤ, pos, neg_ℤ, ◌+ℤ◌, ◌-ℤ◌, Bool, true, false, List, if◌then◌else◌}
use Rattle.pl_points.specs.Sums.{total}
use Rattle.pl_semantics.specs.declared.demand.Asked.{Asked}
use Rattle.pl_semantics.specs.declared.demand.Demand.{Demand}
use Rattle.pl_semantics.specs.declared.plan_state.PlanState.{PlanState}
use Rattle.pl_bounds.specs.Afterwards.{asked_on, moved_by, pull}
use Rattle.pl_bounds.specs.Moved.{moved_to, asked_moved}
use Rattle.pl_bounds.specs.Sides.{is_past, value_at}
use Rattle.pl_bounds.specs.declared.asking.Asking.{Asking}
use Rattle.pl_bounds.specs.declared.outside.Outside.{Outside}
use Rattle.pl_bounds.specs.declared.outside.Side.{Side}
use Rattle.pl_bounds.specs.declared.outside.Side.TheVariants.{Over, Low, High}
use Rattle.pl_bounds.specs.declared.sorting.Addition.{Addition}
use Rattle.pl_bounds.specs.declared.stepwise.Step.{Step}
use Rattle.pl_bounds.specs.declared.stepwise.Way.{Way}

-- ---- one step

-- a step up by this amount, or down by it
abbrev pub step_by : ℕ → ℤ → Bool → Bool → Step
step_by at amount true comes = record { at = at; gain = amount; loss = pos 0; comes = comes }
step_by at amount false comes = record { at = at; gain = pos 0; loss = amount; comes = comes }

-- when it is taken: what comes is moved along
abbrev pub moment_along : Way → Step → ℕ
moment_along w step = if step.comes then moved_to w.from w.to step.at else step.at

-- of a level a step counts only after the moment at which its value was told
abbrev pub is_counted : Side → ℕ → ℕ → Bool
is_counted Over since at = true
is_counted Low since at = nat_lt since at
is_counted High since at = nat_lt since at

abbrev pub step_at : Side → ℕ → Way → ℕ → Step → ℤ
step_at side since w t step = if nat_le (moment_along w step) t && is_counted side since (moment_along w step) then step.gain -ℤ step.loss else pos 0

-- what it adds to a timeline at a moment
abbrev pub step_on : Outside → Way → ℕ → Step → ℤ
step_on o w t step = step_at o.side o.since w t step

-- ---- many

-- what steps add at a moment
abbrev pub steps_on : Outside → Way → ℕ → List Step → ℤ
steps_on o w t steps = total (step_on o w t) steps

-- whether the timeline is past its limit with them
abbrev pub is_past_by : PlanState → Outside → Way → List Step → ℕ → Bool
is_past_by s o w steps t = is_past o.side o.limit (value_at s o.side o.line t +ℤ steps_on o w t steps)

-- ---- demands

-- What is asked for adds this much if it comes, moved along with the start; if it goes, so much is taken back.
abbrev pub asked_toward : Side → ℕ → Way → ℕ → Bool → Asked → ℤ
asked_toward side since w t true a = asked_on side since t (asked_moved w.from w.to a)
asked_toward side since w t false a = neg_ℤ (asked_on side since t a)

abbrev pub demand_toward : Outside → Way → ℕ → Bool → Demand → ℤ
demand_toward o w t comes d = if d.line == o.line then asked_toward o.side o.since w t comes d.asked else pos 0

-- how much more the timeline comes to at a moment
abbrev pub added_by : Outside → List Demand → List Demand → ℕ → ℤ
added_by o going coming t = pull o t coming -ℤ pull o t going

-- At its limit of its timeline the steps add what the move changes there, to whichever start it is moved.
abbrev pub IsAdditionOf : Asking → Addition → Type 0
IsAdditionOf a x = (o : Outside) → o.line ≡ x.line → o.side ≡ x.side → (w : Way) (t : ℕ) → steps_on o w t x.steps.items ≡ added_by o a.going.items (moved_by w a.coming.items) t
