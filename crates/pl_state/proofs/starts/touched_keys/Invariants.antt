-- the rest gives the whole
use Rattle.std.proofs.Common.{◌≡◌, ◌++◌, drop}
use Rattle.pl_state.specs.Near.{touched_keys}
use Rattle.pl_state.proofs.starts.touched_keys.Given as goal

abbrev pub invariant-loop-start : goal.invariant-loop-start
invariant-loop-start l = l.keys.items ++ touched_keys l.near (drop l.start-index l.starts) ≡ touched_keys l.near l.starts
