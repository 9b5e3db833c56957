use Rattle.std.proofs.Common.{sym}
use Rattle.pl_conflict.proofs.Sorting.{left-none, left_next, ordered-left}
use Rattle.pl_conflict.proofs.set.ConflictSet.remove_all.Goals as goal

pub loop-conflict-init : goal.loop-conflict-init
loop-conflict-init c = sym (left-none c.self.inside.all.keys)

pub invariant_of-self : goal.invariant_of-self
invariant_of-self c = rw c.loop-conflict.invariant (ordered-left _ _ c.self.invariant)

pub loop-conflict-preserved : goal.loop-conflict-preserved
loop-conflict-preserved c =
    rw (c.remove.ensures.keys, c.loop-conflict.invariant) (left_next c.args.went.now c.self.inside.all.keys c.loop-conflict.conflict-index _ c.loop-conflict-test.true c.self.invariant)

pub returns-clause-sorted : goal.returns-clause-sorted
returns-clause-sorted c = rw c.loop-conflict.invariant (ordered-left _ _ c.self.invariant)
