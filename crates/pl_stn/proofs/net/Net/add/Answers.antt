use Rattle.pl_stn.proofs.Additions.{well_formed_more}
use Rattle.pl_stn.proofs.net.Net.add.Goals as goal

pub returns-in_err-push-clause-well_formed : goal.returns-in_err-push-clause-well_formed
returns-in_err-push-clause-well_formed c = rw c.in_err-push.ensures.err c.requires.well_formed

pub returns-clause-well_formed : goal.returns-clause-well_formed
returns-clause-well_formed c =
    rw c.in_ok-push.ensures.ok (well_formed_more _ _ c.requires.well_formed c.requires.room c.requires.joins c.requires.small)
