-- none so far decides it
use Rattle.std.specs.Prelude.{take}
use Rattle.pl_bounds.specs.Seen.{EachSet}
use Rattle.pl_bounds.specs.UnmetMusts.{DecidesNot}
use Rattle.pl_bounds.proofs.deciding.are_idle.Given as goal

abbrev pub invariant-loop-demand : goal.invariant-loop-demand
invariant-loop-demand l = EachSet l.unmet.seen.line (DecidesNot l.board.state l.unmet) (take l.demand-index l.demands)
