-- the rest gives the whole
use Rattle.std.proofs.Common.{◌≡◌, drop}
use Rattle.pl_plan.specs.Activities.{activity_of}
use Rattle.pl_memo.proofs.rows.has.Given as goal

abbrev pub invariant-loop-a : goal.invariant-loop-a
invariant-loop-a l = activity_of l.id (drop l.a-index l.activities) ≡ activity_of l.id l.activities
