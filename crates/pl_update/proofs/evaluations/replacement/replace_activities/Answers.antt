use Rattle.pl_update.proofs.AboutChanges.Putting.{puttable}
use Rattle.pl_update.proofs.evaluations.replacement.replace_activities.Goals as goal

pub replace-requires : goal.replace-requires
replace-requires c = record {
  rising = c.requires.whole.rising;
  can = puttable c.args.s.now.plan.activities c.args.gone.now c.args.placed.now c.requires.whole.rising c.requires.can.once c.requires.can.free;
}
