use Rattle.std.proofs.Common.{◌≡◌, ◌+◌, arith, ap, sym, ◌∙◌, refl, get_or, pos}
use mir.Val.{to_z}
use mir.Syntax.{w64}
use Rattle.std.proofs.lemmas.Int.{ints}
use Rattle.std.proofs.lemmas.List.{get_or_default}
use Rattle.pl_points.specs.Points.{sum_to, is_before}
use Rattle.pl_points.proofs.Outside.{back_le, points_passed, points_fall}
use Rattle.pl_points.proofs.PointLists.{small_along, sum_step, sum_over, fits_here, adds_here}
use Rattle.pl_points.proofs.plain.PlainPointsPoints.sum_to.Goals as goal

pub loop-point-init : goal.loop-point-init
loop-point-init g c = record {
  rest = omega (arith, ints);
  small = rw c.as_slice-point-items.ensures.value (small_along c.self.inside.points.items c.self.invariant.0);
  more = omega (arith, c.tick.ensures);
  few = omega (arith, c.tick.ensures);
  passed = omega (arith, back_le (is_before c.args.at) c.as_slice-point-items.result.now);
}

pub returns-then-at-point-clause-sum : goal.returns-then-at-point-clause-sum
returns-then-at-point-clause-sum g c =
    let ps = c.as_slice-point-items.result.now in
    let i = c.loop-point.point-index in
    let p = get_or ps i (0, pos 0) in
    let over = sum_over ps i c.args.at p (rw c.as_slice-point-items.ensures.value c.self.invariant.0.rising) c.loop-point-test.true (get_or_default ps i (0, pos 0) p c.loop-point-test.true) c.if-at-point.true in
    let whole : sum_to ps c.args.at ≡ sum_to c.args.self.now c.args.at = ap (λ l. sum_to l c.args.at) (c.as_slice-point-items.ensures.value ∙ c.self.view_is) in
    omega (arith, ints, over, whole, c.loop-point.invariant.rest)

pub overflow_add-sum : goal.overflow_add-sum
overflow_add-sum g c =
    let ps = c.as_slice-point-items.result.now in
    let i = c.loop-point.point-index in
    let p = get_or ps i (0, pos 0) in
    let step = sum_step (to_z w64 c.loop-point.sum-bits) ps i (i + 1) c.args.at p c.loop-point-test.true refl (get_or_default ps i (0, pos 0) p c.loop-point-test.true) c.loop-point.invariant.small in
    fits_here (to_z w64 c.loop-point.sum-bits) p.1 step.1.0 step.0

pub loop-point-preserved : goal.loop-point-preserved
loop-point-preserved g c =
    let ps = c.as_slice-point-items.result.now in
    let i = c.loop-point.point-index in
    let p = get_or ps i (0, pos 0) in
    let s = to_z w64 c.loop-point.sum-bits in
    let step = sum_step s ps i (i + 1) c.args.at p c.loop-point-test.true refl (get_or_default ps i (0, pos 0) p c.loop-point-test.true) c.loop-point.invariant.small in
    let sum = adds_here s p.1 step.1.0 step.0 in
    record {
      rest = rw sum (sym (step.1.1.1 c.if-at-point.false) ∙ c.loop-point.invariant.rest);
      small = rw sum step.1.1.0;
      more = omega (arith, c.tick-in-loop-point.ensures, c.loop-point.invariant.more);
      few = omega (arith, c.tick-in-loop-point.ensures, c.loop-point.invariant.few);
      passed = points_passed ps i (i + 1) c.args.at p (rw c.as_slice-point-items.ensures.value c.self.invariant.0.rising) c.loop-point-test.true refl (get_or_default ps i (0, pos 0) p c.loop-point-test.true) c.if-at-point.false;
    }

pub returns-then-at-point-clause-falls : goal.returns-then-at-point-clause-falls
returns-then-at-point-clause-falls g c = λ a b le. points_fall c.args.self.now a b le

pub returns-clause-falls : goal.returns-clause-falls
returns-clause-falls g c = λ a b le. points_fall c.args.self.now a b le
