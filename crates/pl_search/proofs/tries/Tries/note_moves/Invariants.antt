use Rattle.std.specs.Prelude.{All}
use Rattle.pl_search.specs.Undos.{MayBeMade}
use Rattle.pl_search.proofs.tries.Tries.note_moves.Given as goal

abbrev pub invariant-loop-mv : goal.invariant-loop-mv
invariant-loop-mv l = All (MayBeMade l.board.state) l.fresh.items
