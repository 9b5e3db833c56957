-- it hangs on none so far
use Rattle.std.specs.Prelude.{take}
use Rattle.pl_bounds.specs.Settings.{HangsOnNone}
use Rattle.pl_bounds.proofs.seen.hangs_on_none.Given as goal

abbrev pub invariant-loop-demand : goal.invariant-loop-demand
invariant-loop-demand l = HangsOnNone l.board.state l.seen.line l.seen.at (take l.demand-index l.demands)
