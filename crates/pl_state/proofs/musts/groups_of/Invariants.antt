-- the rest gives the whole
use Rattle.std.proofs.Common.{◌≡◌, ◌++◌, drop}
use Rattle.pl_state.specs.Present.{broken_at}
use Rattle.pl_state.proofs.musts.groups_of.Given as goal

abbrev pub invariant-loop-must : goal.invariant-loop-must
invariant-loop-must l = l.broken.items ++ broken_at l.present l.sets (drop l.must-index l.musts) ≡ broken_at l.present l.sets l.musts
