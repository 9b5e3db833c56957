-- what comes of the rest comes of the whole
use Rattle.std.proofs.Common.{drop}
use Rattle.pl_memo.specs.declared.difference.Difference.{Difference}
use Rattle.pl_memo.specs.Differences.{AllCome}
use Rattle.pl_memo.proofs.noting.all_come.Given as goal

abbrev pub invariant-loop-a : goal.invariant-loop-a
invariant-loop-a l = (d : Difference) → AllCome l.reached (drop l.a-index l.more) d → AllCome l.fn.since l.more d
