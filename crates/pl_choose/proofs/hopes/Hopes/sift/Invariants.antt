-- those so far, and those of the others
use Rattle.std.proofs.Common.{◌≡◌, ◌++◌, drop}
use Rattle.pl_choose.specs.Tried.{below}
use Rattle.pl_choose.proofs.hopes.Hopes.sift.Given as goal

abbrev pub invariant-loop-place : goal.invariant-loop-place
invariant-loop-place l = record {
  moves : l.hopes.moves.items ++ below l.left (drop l.place l.bounds) (drop l.place l.moves) ≡ below l.left l.bounds l.moves;
  bounds : l.hopes.bounds.items ++ below l.left (drop l.place l.bounds) (drop l.place l.bounds) ≡ below l.left l.bounds l.bounds;
}
