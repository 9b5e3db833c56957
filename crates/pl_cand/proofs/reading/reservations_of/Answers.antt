use Rattle.pl_cand.proofs.Checks.{reservations_level}
use Rattle.pl_cand.proofs.reading.reservations_of.Goals as goal

pub returns-clause-level : goal.returns-clause-level
returns-clause-level c = rw c.reservations_of_kind.ensures (reservations_level c.args.state.now c.requires c.args.a.now)
