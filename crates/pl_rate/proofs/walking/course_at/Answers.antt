use Rattle.std.proofs.Common.{◌≤◌, ◌^◌, ◌≤ℤ◌, pos, ap, arith, rules, FitsSigned}
use Rattle.std.specs.Prelude.{neg_ℤ}
use Rattle.std.specs.Int.{w64, w128}
use Rattle.std.proofs.lemmas.Int.{to_z-of_z}
use Rattle.pl_rate.specs.declared.course.Course.{Course}
use Rattle.pl_rate.proofs.Courses.{come_first, come_more, come_moved, later, flat, roomy}
use Rattle.pl_rate.proofs.walking.course_at.Goals as goal

pub hinges-init : goal.hinges-init
hinges-init c =
    let wide : FitsSigned w128 c.args.first = search rules in
    let low : neg_ℤ (pos (2 ^ 63)) ≤ℤ c.args.first = search rules in
    let high : c.args.first ≤ℤ pos (2 ^ 63) = search rules in
    rw (to_z-of_z w64 c.args.first c.ranges.first, to_z-of_z w128 c.args.first wide)
    (come_first c.args.first c.args.hinges.now low high c.requires.rising, omega arith)

pub turned-course-requires : goal.turned-course-requires
turned-course-requires c =
    let come = c.hinges.invariant.0 in
    let few : c.hinges.index ≤ 2 ^ 64 = omega arith in
    record {
      roomy = roomy c.hinges.index c.hinges.course few (omega (arith, c.hinges.invariant.1, c.requires.from)) come.bounded;
      later = (later _ _ _ _ come c.in-Some.hinge c.in-Some.ensures.0 c.in-Some.ensures.2, omega (arith, c.in-Some.ensures.1, c.requires.from));
      flat = flat _ _ _ _ come c.in-Some.hinge c.in-Some.ensures.0 c.in-Some.ensures.2;
    }

pub hinges-preserved : goal.hinges-preserved
hinges-preserved c =
    rw c.turned-course.ensures
    (come_more _ _ _ _ c.hinges.invariant.0 c.in-Some.hinge c.in-Some.ensures.0 c.in-Some.ensures.2, omega (arith, c.in-Some.ensures.1))

pub moved-requires : goal.moved-requires
moved-requires c =
    let few : c.hinges.index ≤ 2 ^ 64 = omega arith in
    record {
      roomy = roomy c.hinges.index c.hinges.course few (omega (arith, c.hinges.invariant.1, c.requires.from)) c.hinges.invariant.0.bounded;
      later = (c.hinges.invariant.1, c.requires.from);
    }

pub returns : goal.returns
returns c =
    let come = rw (to_z-of_z w64 c.args.first c.ranges.first) at c.hinges.invariant.0 in
    record {
      at = ap (λ (k : Course). k.at) c.moved.ensures;
      come = rw c.moved.ensures (come_moved _ _ _ _ c.args.from come c.hinges.invariant.1 (c.in_default.ensures c.hinges.course.at come.rising));
    }
