use Rattle.std.proofs.Common.{◌≡◌, ◌++◌}
use Rattle.std.specs.Prelude.{filter}
use Rattle.pl_semantics.specs.Conflicts.{conflicts_of}
use Rattle.pl_semantics.specs.Legal.{has_repair}
use Rattle.pl_choose.proofs.search.repairable.Given as goal

-- those so far, and what comes of the others
abbrev pub invariant-loop-conflict : goal.invariant-loop-conflict
invariant-loop-conflict l = l.all.items ++ filter (has_repair l.board.state) l.conflict-iterator ≡ filter (has_repair l.board.state) (conflicts_of l.board.state)
