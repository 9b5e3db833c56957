-- the rest gives the whole
use Rattle.std.proofs.Common.{◌≡◌, ◌++◌, drop}
use Rattle.pl_memo.specs.Memories.{going}
use Rattle.pl_memo.proofs.noting.going.Given as goal

abbrev pub invariant-loop-id : goal.invariant-loop-id
invariant-loop-id l = l.all.items ++ going l.plan.activities (drop l.id-index l.ids) ≡ going l.plan.activities l.ids
