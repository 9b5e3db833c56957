-- the rest gives the whole
use Rattle.std.proofs.Common.{◌≡◌, ◌++◌, drop}
use Rattle.pl_state.specs.Starts.{holding_at}
use Rattle.pl_state.proofs.starts.holding_at.Given as goal

abbrev pub invariant-loop-start : goal.invariant-loop-start
invariant-loop-start l = l.musts.items ++ holding_at l.t (drop l.start-index l.starts) ≡ holding_at l.t l.starts
