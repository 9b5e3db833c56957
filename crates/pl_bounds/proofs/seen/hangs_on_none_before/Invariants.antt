-- it hangs on none so far
use Rattle.std.specs.Prelude.{take}
use Rattle.pl_bounds.specs.Seen.{EachSet, IsOtherBefore}
use Rattle.pl_bounds.proofs.seen.hangs_on_none_before.Given as goal

abbrev pub invariant-loop-demand : goal.invariant-loop-demand
invariant-loop-demand l = EachSet l.seen.line (IsOtherBefore l.board.state l.seen l.set) (take l.demand-index l.demands)
