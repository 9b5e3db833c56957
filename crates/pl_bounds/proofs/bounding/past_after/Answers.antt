use Rattle.std.proofs.Common.{subst, arith}
use Rattle.pl_semantics.specs.Whole.{IsWhole}
use Rattle.pl_bounds.proofs.Past.{times_same}
use Rattle.pl_bounds.proofs.bounding.past_after.Goals as goal

pub returns : goal.returns
returns c = λ gone more can once asked.
    let s = c.args.board.now.state in
    let whole : IsWhole s = subst IsWhole c.state-s.ensures.value (c.state-s.ensures.whole c.requires.unspoiled) in
    let same = times_same s gone more whole can once c.args.asking.now c.args.start asked c.args.outsides.now c.requires.of_plan in
    let few = c.loop-place.invariant in
    omega (arith, few, same)
