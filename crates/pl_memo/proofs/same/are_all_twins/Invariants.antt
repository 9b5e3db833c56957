-- so far they are twins
use Rattle.std.proofs.Common.{take}
use Rattle.pl_lists.specs.Lists.{Pairwise}
use Rattle.pl_memo.specs.Renames.{AreTwins}
use Rattle.pl_memo.proofs.same.are_all_twins.Given as goal

abbrev pub invariant-loop-place : goal.invariant-loop-place
invariant-loop-place l = Pairwise AreTwins (take l.place l.all) (take l.place l.others)
