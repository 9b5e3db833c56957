-- none so far stands behind it
use Rattle.std.specs.Prelude.{take}
use Rattle.pl_bounds.specs.Seen.{EachSet, IsNotBehind}
use Rattle.pl_bounds.proofs.seen.is_last.Given as goal

abbrev pub invariant-loop-demand : goal.invariant-loop-demand
invariant-loop-demand l = EachSet l.line (IsNotBehind l.set) (take l.demand-index l.demands)
