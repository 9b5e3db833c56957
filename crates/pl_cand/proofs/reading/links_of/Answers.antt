use Rattle.pl_cand.proofs.Checks.{links_close}
use Rattle.pl_cand.proofs.reading.links_of.Goals as goal

pub returns-clause-close : goal.returns-clause-close
returns-clause-close c = rw c.links_of_kind.ensures (links_close c.args.state.now c.requires c.args.a.now)
