use Rattle.std.proofs.Common.{rules, ◌+◌, arith, ap, sym, ◌∙◌, Some, None}
use mir.Val.{to_z, of_z, SFits}
use mir.Syntax.{w64}
use Rattle.std.proofs.lemmas.Int.{to_z-of_z}
use Rattle.pl_points.specs.Points.{sum_to, is_out}
use Rattle.pl_points.proofs.Strolls.{StaysInside, sum_is_below, outside_has, after_step}
use Rattle.pl_points.proofs.Calming.{crossing}
use Rattle.pl_points.proofs.calm.next_crossing.Goals as goal

pub first_outside-requires : goal.first_outside-requires
first_outside-requires g c = to_z-of_z w64 c.args.sum c.ranges.sum ∙ c.requires.sum ∙ sum_is_below (g.P.Points.points c.args.points.now) c.args.at

pub returns-then-moment-to-clause-passes : goal.returns-then-moment-to-clause-passes
returns-then-moment-to-clause-passes g c =
    let ps = g.P.Points.points c.args.points.now in
    let here : StaysInside c.args.least c.args.most c.args.at ps (Some (c.in-Some.moment, c.in-Some.after)) = crossing c.args.least c.args.most c.args.sum c.args.at ps (Some (c.in-Some.moment, c.in-Some.after)) c.ranges.least c.ranges.most c.requires.small.rising c.requires.sum c.requires.inside c.in-Some.ensures.first in
    let fits : SFits w64 c.in-Some.after = search rules in
    record {
      later = here.0;
      bound = omega (arith, c.if-moment-to.true);
      meets = here.1.0;
      next = λ _. to_z-of_z w64 c.in-Some.after fits ∙ here.1.1.0;
    }

pub returns-then-moment-to-clause-leaves : goal.returns-then-moment-to-clause-leaves
returns-then-moment-to-clause-leaves g c =
    let ps = g.P.Points.points c.args.points.now in
    let here : StaysInside c.args.least c.args.most c.args.at ps (Some (c.in-Some.moment, c.in-Some.after)) = crossing c.args.least c.args.most c.args.sum c.args.at ps (Some (c.in-Some.moment, c.in-Some.after)) c.ranges.least c.ranges.most c.requires.small.rising c.requires.sum c.requires.inside c.in-Some.ensures.first in
    λ _. ap (is_out c.args.least c.args.most) (sym here.1.1.0) ∙ here.1.1.1

pub returns-then-moment-to-clause-cost : goal.returns-then-moment-to-clause-cost
returns-then-moment-to-clause-cost g c =
    let ps = g.P.Points.points c.args.points.now in
    let here : StaysInside c.args.least c.args.most c.args.at ps (Some (c.in-Some.moment, c.in-Some.after)) = crossing c.args.least c.args.most c.args.sum c.args.at ps (Some (c.in-Some.moment, c.in-Some.after)) c.ranges.least c.ranges.most c.requires.small.rising c.requires.sum c.requires.inside c.in-Some.ensures.first in
    let L = to_z w64 (of_z w64 c.args.least) in
    let M = to_z w64 (of_z w64 c.args.most) in
    record {
      spent = omega (arith, c.in-Some.ensures.cost);
      left = λ _. c.in-Some.ensures.cost;
      fewer = λ _ out. after_step out c.args.at c.in-Some.moment ps (outside_has (sum_to ps) (c.args.at + 1) L M ps (c.in-Some.moment, c.in-Some.after) (sym c.in-Some.ensures.first)) here.0;
    }

pub returns-else-moment-to-clause-passes : goal.returns-else-moment-to-clause-passes
returns-else-moment-to-clause-passes g c =
    let ps = g.P.Points.points c.args.points.now in
    let here : StaysInside c.args.least c.args.most c.args.at ps (Some (c.in-Some.moment, c.in-Some.after)) = crossing c.args.least c.args.most c.args.sum c.args.at ps (Some (c.in-Some.moment, c.in-Some.after)) c.ranges.least c.ranges.most c.requires.small.rising c.requires.sum c.requires.inside c.in-Some.ensures.first in
    record {
      later = c.requires.some;
      bound = omega arith;
      meets = λ t low high. here.1.0 t low (omega (arith, high, c.if-moment-to.false));
      next = λ lt. absurd (omega (arith, lt));
    }

pub returns-else-moment-to-clause-cost : goal.returns-else-moment-to-clause-cost
returns-else-moment-to-clause-cost g c =
    record {
      spent = omega (arith, c.in-Some.ensures.cost);
      left = λ lt. absurd (omega (arith, lt));
      fewer = λ lt _. absurd (omega (arith, lt));
    }

pub returns-in-None-clause-passes : goal.returns-in-None-clause-passes
returns-in-None-clause-passes g c =
    let ps = g.P.Points.points c.args.points.now in
    let here : StaysInside c.args.least c.args.most c.args.at ps None = crossing c.args.least c.args.most c.args.sum c.args.at ps None c.ranges.least c.ranges.most c.requires.small.rising c.requires.sum c.requires.inside c.in-None.ensures.first in
    record {
      later = c.requires.some;
      bound = omega arith;
      meets = λ t low high. here t low;
      next = λ lt. absurd (omega (arith, lt));
    }

pub returns-in-None-clause-cost : goal.returns-in-None-clause-cost
returns-in-None-clause-cost g c =
    record {
      spent = omega (arith, c.in-None.ensures.cost);
      left = λ lt. absurd (omega (arith, lt));
      fewer = λ lt _. absurd (omega (arith, lt));
    }
