use Rattle.std.proofs.Common.{◌≡◌, drop}
use Rattle.pl_update.specs.Changes.Replaced.{put}
use Rattle.pl_update.specs.Changes.Putting.{CanPut}
use Rattle.pl_update.proofs.changes.replacement.put_all.Given as goal

-- the rest can be put, and gives the whole
abbrev pub invariant-loop-a : goal.invariant-loop-a
invariant-loop-a l = record {
  can : CanPut l.plan.activities (drop l.a-index l.placed);
  rest : put l.plan.activities (drop l.a-index l.placed) ≡ put l.initial.plan.activities l.placed;
}
