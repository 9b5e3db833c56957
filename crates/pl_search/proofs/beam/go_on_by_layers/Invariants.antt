-- the board is as it was
use Rattle.std.proofs.Common.{◌≡◌}
use Rattle.pl_search.proofs.beam.go_on_by_layers.Given as goal

abbrev pub invariant-loop-layer : goal.invariant-loop-layer
invariant-loop-layer l = l.board ≡ l.fn.board
