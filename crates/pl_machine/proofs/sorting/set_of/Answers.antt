use Rattle.std.proofs.Common.{sym, ◌∙◌}
use Rattle.pl_machine.proofs.InOrder.{next_starts}
use Rattle.pl_machine.proofs.sorting.set_of.Goals as goal

pub loop-start-preserved : goal.loop-start-preserved
loop-start-preserved c = rw c.in_ok-insert_start.ensures (sym (next_starts c.loop-start.set.keys c.args.starts.now c.loop-start.start-index _ c.loop-start-test.true) ∙ c.loop-start.invariant)
