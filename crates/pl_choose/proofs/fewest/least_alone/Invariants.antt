-- no higher than what those so far leave
use Rattle.std.specs.Prelude.{◌≤◌, All, take}
use Rattle.pl_semantics.specs.Legal.{left_after}
use Rattle.pl_choose.proofs.fewest.least_alone.Given as goal

abbrev pub invariant-loop-mv : goal.invariant-loop-mv
invariant-loop-mv l = All (λ m. l.least ≤ left_after l.board.state m) (take l.mv-index l.moves)
