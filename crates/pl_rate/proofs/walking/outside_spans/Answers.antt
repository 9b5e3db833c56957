use Rattle.std.proofs.Common.{◌≤◌, ◌^◌, arith}
use Rattle.std.specs.Int.{w64}
use Rattle.std.proofs.lemmas.Int.{to_z-of_z}
use Rattle.pl_rate.proofs.Courses.{come_more, later, flat, roomy, spans_first, spans_more, straight, straight_on, spans_are}
use Rattle.pl_rate.proofs.walking.outside_spans.Goals as goal

pub hinges-init : goal.hinges-init
hinges-init c =
    rw (to_z-of_z w64 c.args.first c.ranges.first, c.new-spans.ensures.items)
    (c.requires.come, spans_first c.args.limit c.args.first c.args.hinges.now c.args.begin.0.at, c.requires.window.0)

pub push_line-requires : goal.push_line-requires
push_line-requires c =
    let come = c.hinges.invariant.0 in
    let few : c.hinges.index ≤ 2 ^ 64 = omega arith in
    record {
      some = later _ _ _ _ come c.in-Some.hinge c.in-Some.ensures.0 c.in-Some.ensures.2;
      roomy = roomy c.hinges.index c.hinges.course few (omega (arith, c.hinges.invariant.2, c.requires.window.1)) come.bounded;
      apart = c.hinges.invariant.1.apart;
    }

pub turned-course-requires : goal.turned-course-requires
turned-course-requires c =
    let come = c.hinges.invariant.0 in
    let few : c.hinges.index ≤ 2 ^ 64 = omega arith in
    record {
      roomy = roomy c.hinges.index c.hinges.course few (omega (arith, c.hinges.invariant.2, c.requires.window.1)) come.bounded;
      later = (later _ _ _ _ come c.in-Some.hinge c.in-Some.ensures.0 c.in-Some.ensures.2, omega (arith, c.in-Some.ensures.1, c.requires.window.1));
      flat = flat _ _ _ _ come c.in-Some.hinge c.in-Some.ensures.0 c.in-Some.ensures.2;
    }

pub hinges-preserved : goal.hinges-preserved
hinges-preserved c =
    let come = c.hinges.invariant.0 in
    let next = c.in-Some.ensures.0 in
    let some = c.in-Some.ensures.2 in
    rw c.turned-course.ensures (
      come_more _ _ _ _ come c.in-Some.hinge next some,
      spans_more _ _ _ _ c.in-Some.hinge.moment c.hinges.course c.hinges.spans.items _ c.hinges.invariant.1 (later _ _ _ _ come c.in-Some.hinge next some) (straight _ _ _ _ come c.in-Some.hinge next some)
          (record { apart = c.in_ok-push_line.ensures.apart; exact = c.in_ok-push_line.ensures.covers }),
      omega (arith, c.in-Some.ensures.1),
    )

pub push_line-requires-2 : goal.push_line-requires-2
push_line-requires-2 c =
    let few : c.hinges.index ≤ 2 ^ 64 = omega arith in
    record {
      some = c.hinges.invariant.2;
      roomy = roomy c.hinges.index c.hinges.course few (omega (arith, c.hinges.invariant.2, c.requires.window.1)) c.hinges.invariant.0.bounded;
      apart = c.hinges.invariant.1.apart;
    }

pub returns : goal.returns
returns c =
    let come = rw (to_z-of_z w64 c.args.first c.ranges.first) at c.hinges.invariant.0 in
    let has = rw (to_z-of_z w64 c.args.first c.ranges.first) at c.hinges.invariant.1 in
    spans_are c.args.limit c.args.first c.args.hinges.now c.args.begin.0.at c.args.to _
    (spans_more _ _ _ _ c.args.to c.hinges.course c.hinges.spans.items _ has c.hinges.invariant.2
    (straight_on _ _ _ _ c.args.to come (c.in_default.ensures c.hinges.course.at come.rising))
    (record { apart = c.in_ok-push_line-2.ensures.apart; exact = c.in_ok-push_line-2.ensures.covers }))
