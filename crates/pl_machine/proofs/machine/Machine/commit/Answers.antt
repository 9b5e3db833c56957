use Rattle.pl_machine.proofs.Granting.{answered}
use Rattle.pl_machine.proofs.Commits.{never_falls, leaves_conflicts}
use Rattle.pl_machine.proofs.machine.Machine.commit.Goals as goal

pub returns-clause-never_falls : goal.returns-clause-never_falls
returns-clause-never_falls c = never_falls c.args.self.now _ c.args.h c.take_commit.result c.take_commit.ensures

pub returns-clause-conflicts : goal.returns-clause-conflicts
returns-clause-conflicts c = leaves_conflicts c.args.self.now _ c.args.h c.take_commit.result c.take_commit.ensures

pub returns-clause-granted : goal.returns-clause-granted
returns-clause-granted c = answered c.args.self.now _ c.args.h c.take_commit.result c.take_commit.ensures
