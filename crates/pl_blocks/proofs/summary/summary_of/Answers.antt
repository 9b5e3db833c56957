use Rattle.std.proofs.Common.{rules, arith, ◌∙◌}
use mir.Val.{SFits}
use mir.Syntax.{w64}
use Rattle.std.proofs.lemmas.Int.{to_z-of_z}
use Rattle.pl_blocks.proofs.Beginnings.{all_sums}
use Rattle.pl_blocks.proofs.summary.summary_of.Goals as goal

pub returns-clause-adds_up : goal.returns-clause-adds_up
returns-clause-adds_up g c =
    let s = c.behind.sums in
    let fits : SFits w64 c.behind.sums.sum = search rules in
    to_z-of_z w64 s.sum fits ∙ (all_sums c.args.points.now s.count s.sum s.least s.greatest c.behind.invariant.sums (omega (arith, c.behind-test.false))).0

pub returns-clause-lowest : goal.returns-clause-lowest
returns-clause-lowest g c =
    let s = c.behind.sums in
    let fits : SFits w64 c.behind.sums.least = search rules in
    to_z-of_z w64 s.least fits ∙ (all_sums c.args.points.now s.count s.sum s.least s.greatest c.behind.invariant.sums (omega (arith, c.behind-test.false))).1.0

pub returns-clause-highest : goal.returns-clause-highest
returns-clause-highest g c =
    let s = c.behind.sums in
    let fits : SFits w64 c.behind.sums.greatest = search rules in
    to_z-of_z w64 s.greatest fits ∙ (all_sums c.args.points.now s.count s.sum s.least s.greatest c.behind.invariant.sums (omega (arith, c.behind-test.false))).1.1
