use Rattle.pl_cand.proofs.Checks.{alternatives_few}
use Rattle.pl_cand.proofs.reading.checked_alternatives.Goals as goal

pub returns-clause-few : goal.returns-clause-few
returns-clause-few c = rw c.alternatives_of.ensures (alternatives_few c.args.state.now c.requires c.args.a.now)
