-- what the rest gives is all, with what was found so far
use Rattle.std.proofs.Common.{◌≡◌, ◌++◌, drop}
use Rattle.pl_bounds.specs.Remaining.{kinds_of}
use Rattle.pl_bounds.proofs.untouched.kinds_of.Given as goal

abbrev pub invariant-loop-id : goal.invariant-loop-id
invariant-loop-id l = (l.kinds.items ++ kinds_of l.board.state (drop l.id-index l.ids)) ≡ kinds_of l.board.state l.ids
