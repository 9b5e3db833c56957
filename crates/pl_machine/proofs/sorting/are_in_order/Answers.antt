use Rattle.std.proofs.Common.{refl}
use Rattle.pl_machine.proofs.InOrder.{sorted_next, sorted_none}
use Rattle.pl_machine.proofs.sorting.are_in_order.Goals as goal

pub loop-place-init : goal.loop-place-init
loop-place-init c = sorted_none

pub loop-place-preserved : goal.loop-place-preserved
loop-place-preserved c = sorted_next c.args.starts.now c.loop-place.place c.loop-place-test.true c.loop-place.invariant (λ some d. c.if-not-is_behind.ensures refl some d)
