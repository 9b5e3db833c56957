use Rattle.std.proofs.Common.{◌≡◌, ◌+◌, ◌+ℤ◌, arith, refl, get_or, pos, true}
use mir.Val.{to_z, of_z}
use mir.Syntax.{w64}
use Rattle.std.proofs.lemmas.Int.{to_z-of_z}
use Rattle.std.proofs.lemmas.List.{get_or_default}
use Rattle.pl_points.specs.Points.{is_out}
use Rattle.pl_points.proofs.PointLists.{sum_step, fits_here, adds_here}
use Rattle.pl_points.proofs.Outside.{points_at, left_here, goes_on, low_out, high_out}
use Rattle.pl_points.proofs.searching.leaving.Goals as goal
use Rattle.pl_points.proofs.searching.leaving.Goals.{then-sum-least-via-then-sum-least, then-sum-least-via-else-sum-least+then-most-sum}

pub overflow_add-sum : goal.overflow_add-sum
overflow_add-sum g c =
    let ps = c.args.points.now in
    let i = c.loop-place.place in
    let p = get_or ps i (0, pos 0) in
    let s = to_z w64 c.loop-place.sum-bits in
    let step = sum_step s ps i (i + 1) 0 p c.loop-place-test.true refl (get_or_default ps i (0, pos 0) p c.loop-place-test.true) c.loop-place.invariant.small in
    fits_here s p.1 step.1.0 step.0

pub returns-then-sum-least-clause-first : goal.returns-then-sum-least-clause-first
returns-then-sum-least-clause-first g c =
    let ps = c.args.points.now in
    let i = c.loop-place.place in
    let p = get_or ps i (0, pos 0) in
    let s = to_z w64 c.loop-place.sum-bits in
    let z = to_z w64 (of_z w64 (s +ℤ to_z w64 (of_z w64 p.1))) in
    let L = to_z w64 (of_z w64 c.args.least) in
    let M = to_z w64 (of_z w64 c.args.most) in
    let B = to_z w64 (of_z w64 c.args.before) in
    let step = sum_step s ps i (i + 1) 0 p c.loop-place-test.true refl (get_or_default ps i (0, pos 0) p c.loop-place-test.true) c.loop-place.invariant.small in
    let sum : z ≡ s +ℤ p.1 = adds_here s p.1 step.1.0 step.0 in
    let out : is_out L M z ≡ true = elim c.then-sum-least.branch [
      | then-sum-least-via-then-sum-least w ↦ low_out L M z w.if-sum-least.true
      | then-sum-least-via-else-sum-least+then-most-sum w ↦ high_out L M z w.if-most-sum.true
    ] in
    left_here L M B s z c.args.least c.args.most c.args.before ps i (i + 1) p c.loop-place-test.true refl (get_or_default ps i (0, pos 0) p c.loop-place-test.true) sum
    (to_z-of_z w64 c.args.least c.ranges.least) (to_z-of_z w64 c.args.most c.ranges.most) (to_z-of_z w64 c.args.before c.ranges.before) out c.loop-place.invariant.rest

pub returns-then-sum-least-clause-cost : goal.returns-then-sum-least-clause-cost
returns-then-sum-least-clause-cost g c =
    let ps = c.args.points.now in
    let i = c.loop-place.place in
    let p = get_or ps i (0, pos 0) in
    omega (arith, c.tick.ensures, c.go_on.ensures, c.loop-place.invariant.few, points_at 0 ps i p c.requires.rising c.loop-place-test.true (get_or_default ps i (0, pos 0) p c.loop-place-test.true))

pub loop-place-preserved : goal.loop-place-preserved
loop-place-preserved g c =
    let ps = c.args.points.now in
    let i = c.loop-place.place in
    let p = get_or ps i (0, pos 0) in
    let s = to_z w64 c.loop-place.sum-bits in
    let z = to_z w64 (of_z w64 (s +ℤ to_z w64 (of_z w64 p.1))) in
    let step = sum_step s ps i (i + 1) 0 p c.loop-place-test.true refl (get_or_default ps i (0, pos 0) p c.loop-place-test.true) c.loop-place.invariant.small in
    let sum : z ≡ s +ℤ p.1 = adds_here s p.1 step.1.0 step.0 in
    record {
      rest = goes_on (to_z w64 (of_z w64 c.args.least)) (to_z w64 (of_z w64 c.args.most)) (to_z w64 (of_z w64 c.args.before)) s z ps i (i + 1) p c.loop-place-test.true refl (get_or_default ps i (0, pos 0) p c.loop-place-test.true) sum c.if-sum-least.false c.if-most-sum.false c.loop-place.invariant.rest;
      small = rw sum step.1.1.0;
      more = omega (arith, c.tick.ensures, c.loop-place.invariant.more);
      few = omega (arith, c.tick.ensures, c.loop-place.invariant.few);
    }
