use Rattle.std.proofs.Common.{◌≡◌, ◌+◌, arith, ap, sym, ◌∙◌, subst, Some, None, ◌+ℤ◌}
use mir.Val.{to_z, of_z, SFits}
use mir.Syntax.{w64}
use Rattle.std.proofs.lemmas.Int.{ints, to_z-of_z}
use Rattle.pl_points.specs.Points.{sum_to}
use Rattle.pl_points.proofs.Staying.{Stays, stays}
use Rattle.pl_points.proofs.Strolls.{first_has, after_step}
use Rattle.pl_points.proofs.pieces.next_point.Goals as goal

pub overflow_add-result : goal.overflow_add-result
overflow_add-result g c =
    let ps = g.P.Points.points c.args.points.now in
    let here : Stays ps c.args.at (Some (c.in-Some.moment, c.in-Some.delta)) = subst (λ r. Stays ps c.args.at r) (sym c.in-Some.ensures.first) (stays 0 c.args.at ps c.first_from.ensures.sound.rising) in
    let one = c.first_from.ensures.sound.small c.args.at in
    let two = c.first_from.ensures.sound.small c.in-Some.moment in
    omega (arith, ints, here.2, c.requires.sum, one.0, one.1, two.0, two.1)

pub returns-then-moment-to-clause-passes : goal.returns-then-moment-to-clause-passes
returns-then-moment-to-clause-passes g c =
    let ps = g.P.Points.points c.args.points.now in
    let here : Stays ps c.args.at (Some (c.in-Some.moment, c.in-Some.delta)) = subst (λ r. Stays ps c.args.at r) (sym c.in-Some.ensures.first) (stays 0 c.args.at ps c.first_from.ensures.sound.rising) in
    let one = c.first_from.ensures.sound.small c.args.at in
    let two = c.first_from.ensures.sound.small c.in-Some.moment in
    let fits : SFits w64 c.in-Some.delta = omega (arith, ints, here.2, one.0, one.1, two.0, two.1) in
    let raw : to_z w64 (of_z w64 c.in-Some.delta) ≡ c.in-Some.delta = to_z-of_z w64 c.in-Some.delta fits in
    let sum : to_z w64 (of_z w64 c.args.sum) +ℤ to_z w64 (of_z w64 c.in-Some.delta) ≡ sum_to ps c.in-Some.moment = omega (arith, ints, raw, here.2, c.requires.sum, to_z-of_z w64 c.args.sum c.ranges.sum) in
    let whole : SFits w64 (sum_to ps c.in-Some.moment) = omega (arith, ints, two.0, two.1) in
    record {
      later = here.0;
      bound = omega (arith, c.if-moment-to.true);
      meets = here.1;
      next = λ _. ap (λ z. to_z w64 (of_z w64 z)) sum ∙ to_z-of_z w64 (sum_to ps c.in-Some.moment) whole;
    }

pub returns-then-moment-to-clause-cost : goal.returns-then-moment-to-clause-cost
returns-then-moment-to-clause-cost g c =
    let ps = g.P.Points.points c.args.points.now in
    let here : Stays ps c.args.at (Some (c.in-Some.moment, c.in-Some.delta)) = subst (λ r. Stays ps c.args.at r) (sym c.in-Some.ensures.first) (stays 0 c.args.at ps c.first_from.ensures.sound.rising) in
    record {
      spent = omega (arith, c.in-Some.ensures.cost);
      left = λ _. c.in-Some.ensures.cost;
      fewer = λ _ out. after_step out c.args.at c.in-Some.moment ps (first_has (c.args.at + 1) ps (c.in-Some.moment, c.in-Some.delta) (sym c.in-Some.ensures.first)) here.0;
    }

pub returns-else-moment-to-clause-passes : goal.returns-else-moment-to-clause-passes
returns-else-moment-to-clause-passes g c =
    let ps = g.P.Points.points c.args.points.now in
    let here : Stays ps c.args.at (Some (c.in-Some.moment, c.in-Some.delta)) = subst (λ r. Stays ps c.args.at r) (sym c.in-Some.ensures.first) (stays 0 c.args.at ps c.first_from.ensures.sound.rising) in
    record {
      later = c.requires.some;
      bound = omega arith;
      meets = λ t low high. here.1 t low (omega (arith, high, c.if-moment-to.false));
      next = λ lt. absurd (omega (arith, lt));
    }

pub returns-else-moment-to-clause-cost : goal.returns-else-moment-to-clause-cost
returns-else-moment-to-clause-cost g c =
    record {
      spent = omega (arith, c.in-Some.ensures.cost);
      left = λ lt. absurd (omega (arith, lt));
      fewer = λ lt _. absurd (omega (arith, lt));
    }

pub returns-in-None-clause-passes : goal.returns-in-None-clause-passes
returns-in-None-clause-passes g c =
    let ps = g.P.Points.points c.args.points.now in
    let here : Stays ps c.args.at None = subst (λ r. Stays ps c.args.at r) (sym c.in-None.ensures.first) (stays 0 c.args.at ps c.first_from.ensures.sound.rising) in
    record {
      later = c.requires.some;
      bound = omega arith;
      meets = λ t low high. here t low;
      next = λ lt. absurd (omega (arith, lt));
    }

pub returns-in-None-clause-cost : goal.returns-in-None-clause-cost
returns-in-None-clause-cost g c =
    record {
      spent = omega (arith, c.in-None.ensures.cost);
      left = λ lt. absurd (omega (arith, lt));
      fewer = λ lt _. absurd (omega (arith, lt));
    }
