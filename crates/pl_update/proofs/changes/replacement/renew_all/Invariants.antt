use Rattle.std.proofs.Common.{◌≡◌, take}
use Rattle.pl_plan.specs.Activities.{AreRising}
use Rattle.pl_update.specs.Changes.Renewed.{all_renewed}
use Rattle.pl_update.proofs.changes.replacement.renew_all.Given as goal

abbrev pub invariant-loop-a : goal.invariant-loop-a
invariant-loop-a l = record {
  rising : AreRising l.plan.activities;
  made : l.plan.activities ≡ all_renewed l.initial.plan.activities (take l.a-index l.placed);
}
