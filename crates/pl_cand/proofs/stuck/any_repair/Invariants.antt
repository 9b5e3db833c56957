use Rattle.std.proofs.Common.{◌≡◌}
use Rattle.std.specs.List.{list_any}
use Rattle.pl_semantics.specs.Conflicts.{conflicts_of}
use Rattle.pl_semantics.specs.Legal.{has_repair}
use Rattle.pl_cand.proofs.stuck.any_repair.Given as goal

-- none so far
abbrev pub invariant-loop-conflict : goal.invariant-loop-conflict
invariant-loop-conflict l = list_any (has_repair l.board.state) l.conflict-iterator ≡ list_any (has_repair l.board.state) (conflicts_of l.board.state)
