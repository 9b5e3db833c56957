use Rattle.std.proofs.Common.{◌≡◌, drop}
use Rattle.std.specs.List.{list_any}
use Rattle.pl_semantics.specs.Legal.{is_legal}
use Rattle.pl_cand.proofs.stuck.any_legal.Given as goal

-- none so far
abbrev pub invariant-loop-repair : goal.invariant-loop-repair
invariant-loop-repair l = list_any (is_legal l.board.state) (drop l.repair-index l.moves) ≡ list_any (is_legal l.board.state) l.moves
