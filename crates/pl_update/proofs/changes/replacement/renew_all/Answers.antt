use Rattle.std.proofs.Common.{arith}
use Rattle.std.proofs.lemmas.Grind.{common_steps}
use Rattle.pl_update.proofs.AboutChanges.Renewing.{rising_renewed}
use Rattle.pl_update.proofs.changes.replacement.renew_all.Goals as goal

pub loop-a-preserved : goal.loop-a-preserved
loop-a-preserved c = record {
  rising = rw c.in_ok-renew.ensures (rising_renewed c.a-item.result c.loop-a.plan.activities c.loop-a.invariant.rising);
  made = grind (arith, common_steps);
}
