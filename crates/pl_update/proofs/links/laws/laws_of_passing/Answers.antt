use Rattle.pl_update.proofs.AboutLinks.Keeping.{before_moved_on, before_committed, shows_links}
use Rattle.pl_update.proofs.links.laws.laws_of_passing.Goals as goal

pub returns-clause-moved_on : goal.returns-clause-moved_on
returns-clause-moved_on c = before_moved_on

pub returns-clause-committed : goal.returns-clause-committed
returns-clause-committed c = before_committed

pub returns-clause-shown : goal.returns-clause-shown
returns-clause-shown c = shows_links
