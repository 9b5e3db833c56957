use Rattle.std.proofs.Common.{◌+◌, true, false, arith, sym, length}
use mir.Val.{to_z, of_z}
use mir.Syntax.{w64}
use Rattle.std.proofs.lemmas.Int.{to_z-of_z}
use Rattle.pl_points.specs.declared.limit.Limit.TheVariants.{Below, Above}
use Rattle.pl_points.specs.Points.{sum_to}
use Rattle.pl_points.specs.Counting.{goes_outside}
use Rattle.pl_points.proofs.Strolls.{same_bounds}
use Rattle.pl_points.proofs.Calming.{is_below, is_above, two_first, two_after}
use Rattle.pl_points.proofs.calm.calm_until.Goals as goal

pub returns-then-from-window-clause-cost : goal.returns-then-from-window-clause-cost
returns-then-from-window-clause-cost g c =
    let ps = g.P.Points.points c.args.points.now in
    two_first (g.P.Points.ahead c.args.points.now) g.P.Points.parts g.P.Points.look_steps g.P.Points.search_steps c.args.steps.now c.sum_to-sum.new.steps c.args.window.from c.args.window.to (length ps) (goes_outside (Below c.args.least) ps) (goes_outside (Above c.args.most) ps) ps
    c.sum_to-sum.ensures.ticks c.sum_to-sum.ensures.cost

pub returns-then-is_out-clause-cost : goal.returns-then-is_out-clause-cost
returns-then-is_out-clause-cost g c =
    let ps = g.P.Points.points c.args.points.now in
    two_first (g.P.Points.ahead c.args.points.now) g.P.Points.parts g.P.Points.look_steps g.P.Points.search_steps c.args.steps.now c.sum_to-sum.new.steps c.args.window.from c.args.window.to (length ps) (goes_outside (Below c.args.least) ps) (goes_outside (Above c.args.most) ps) ps
    c.sum_to-sum.ensures.ticks c.sum_to-sum.ensures.cost

pub returns-clause-below : goal.returns-clause-below
returns-clause-below g c t from lt =
    let z = sum_to (g.P.Points.points c.args.points.now) t in
    let low = to_z-of_z w64 c.args.least c.ranges.least in
    let high = to_z-of_z w64 c.args.most c.ranges.most in
    is_below c.args.least c.args.most z (same_bounds c.args.least c.args.most (to_z w64 (of_z w64 c.args.least)) (to_z w64 (of_z w64 c.args.most)) z false (sym low) (sym high) (c.next_crossing-at.ensures.passes.meets t from lt))

pub returns-clause-above : goal.returns-clause-above
returns-clause-above g c t from lt =
    let z = sum_to (g.P.Points.points c.args.points.now) t in
    let low = to_z-of_z w64 c.args.least c.ranges.least in
    let high = to_z-of_z w64 c.args.most c.ranges.most in
    is_above c.args.least c.args.most z (same_bounds c.args.least c.args.most (to_z w64 (of_z w64 c.args.least)) (to_z w64 (of_z w64 c.args.most)) z false (sym low) (sym high) (c.next_crossing-at.ensures.passes.meets t from lt))

pub returns-clause-cost : goal.returns-clause-cost
returns-clause-cost g c =
    let ps = g.P.Points.points c.args.points.now in
    let from = c.args.window.from in
    let m = c.next_crossing-at.result.0 in
    let low = to_z-of_z w64 c.args.least c.ranges.least in
    let high = to_z-of_z w64 c.args.most c.ranges.most in
    two_after (g.P.Points.ahead c.args.points.now) g.P.Points.parts g.P.Points.look_steps g.P.Points.search_steps c.args.steps.now c.sum_to-sum.new.steps c.next_crossing-at.new.steps from m c.args.window.to (length ps) (goes_outside (Below c.args.least) ps) (goes_outside (Above c.args.most) ps) ps
    c.sum_to-sum.ensures.ticks c.sum_to-sum.ensures.cost (c.sum_to-sum.ensures.falls from (from + 1) (omega arith)) (c.sum_to-sum.ensures.falls from m (omega (arith, c.next_crossing-at.ensures.passes.later)))
    c.next_crossing-at.ensures.cost.spent c.next_crossing-at.ensures.cost.left (λ out lt. c.next_crossing-at.ensures.cost.fewer lt out)
    (λ lt. same_bounds c.args.least c.args.most (to_z w64 (of_z w64 c.args.least)) (to_z w64 (of_z w64 c.args.most)) (sum_to ps m) true (sym low) (sym high) (c.next_crossing-at.ensures.leaves lt))
