use Rattle.std.proofs.Common.{◌≡◌}
use Rattle.std.specs.Prelude.{find}
use Rattle.pl_semantics.specs.Conflicts.{conflicts_of}
use Rattle.pl_semantics.specs.Legal.{has_repair}
use Rattle.pl_choose.proofs.search.first_repairs.Given as goal

-- none so far
abbrev pub invariant-loop-conflict : goal.invariant-loop-conflict
invariant-loop-conflict l = find (has_repair l.board.state) l.conflict-iterator ≡ find (has_repair l.board.state) (conflicts_of l.board.state)
