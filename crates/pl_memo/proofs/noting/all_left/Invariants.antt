-- the rest gives the whole
use Rattle.std.proofs.Common.{◌≡◌, drop}
use Rattle.std.specs.List.{fold}
use Rattle.pl_memo.specs.Differences.{leaving}
use Rattle.pl_memo.proofs.noting.all_left.Given as goal

abbrev pub invariant-loop-a : goal.invariant-loop-a
invariant-loop-a l = fold leaving l.reached (drop l.a-index l.left) ≡ fold leaving l.fn.since l.left
