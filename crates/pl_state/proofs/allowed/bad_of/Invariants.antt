-- the rest gives the whole
use Rattle.std.proofs.Common.{◌≡◌, ◌++◌, drop}
use Rattle.pl_state.specs.Sets.{bad_from, is_allowed}
use Rattle.pl_state.proofs.allowed.bad_of.Given as goal

abbrev pub invariant-loop-set : goal.invariant-loop-set
invariant-loop-set l =
    l.bad.items ++ bad_from (is_allowed l.any l.steps) l.counted.from l.counted.to l.moment l.state (drop l.set-index l.sets)
    ≡ bad_from (is_allowed l.any l.steps) l.counted.from l.counted.to l.moment l.value l.sets
