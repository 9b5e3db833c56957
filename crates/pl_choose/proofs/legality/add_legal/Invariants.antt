use Rattle.std.proofs.Common.{◌≡◌, ◌++◌, drop}
use Rattle.std.specs.Prelude.{filter}
use Rattle.pl_semantics.specs.Legal.{is_legal}
use Rattle.pl_choose.proofs.legality.add_legal.Given as goal

-- what is kept and what comes of the other moves
abbrev pub invariant-loop-mv : goal.invariant-loop-mv
invariant-loop-mv l = l.all.items ++ filter (is_legal l.board.state) (drop l.mv-index l.moves) ≡ l.initial.all.items ++ filter (is_legal l.board.state) l.moves
