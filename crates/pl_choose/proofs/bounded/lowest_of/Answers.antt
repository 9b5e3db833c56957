use Rattle.std.proofs.Common.{arith}
use Rattle.std.proofs.lemmas.List.{take_all}
use Rattle.pl_choose.proofs.Aims.{low_step}
use Rattle.pl_choose.proofs.bounded.lowest_of.Goals as goal

pub loop-bound-preserved : goal.loop-bound-preserved
loop-bound-preserved c = record {
  most = omega arith;
  least = low_step c.args.bounds.now c.loop-bound.bound-index c.loop-bound.lowest c.min-lowest.result c.loop-bound-test.true (omega arith) (omega arith) c.loop-bound.invariant.least;
}

pub returns-clause-least : goal.returns-clause-least
returns-clause-least c = rw (take_all c.loop-bound.bound-index c.args.bounds.now c.loop-bound-test.false) at c.loop-bound.invariant.least
