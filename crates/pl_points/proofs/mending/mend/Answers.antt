use Rattle.std.proofs.Common.{length, arith}
use Rattle.pl_points.specs.Counting.{goes_outside}
use Rattle.pl_points.proofs.Calming.{until_first}
use Rattle.pl_points.proofs.mending.mend.Goals as goal

pub returns-clause-cost : goal.returns-clause-cost
returns-clause-cost g c =
    let ps = g.P.Points.points c.args.points.now in
    let first = until_first (g.P.Points.ahead c.args.points.now) g.P.Points.parts g.P.Points.look_steps g.P.Points.search_steps c.args.steps.now c.sum_to-sum.new.steps c.args.window.from c.args.window.to (length ps) (goes_outside c.args.limit ps) ps c.sum_to-sum.ensures.cost in
    omega (arith, first, c.mend_from.ensures.cost)
