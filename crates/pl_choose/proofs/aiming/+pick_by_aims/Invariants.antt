use Rattle.pl_choose.proofs.aiming.+pick_by_aims.Given as goal

abbrev pub decreases-pick_by_aims : goal.decreases-pick_by_aims
decreases-pick_by_aims l = l.aims
