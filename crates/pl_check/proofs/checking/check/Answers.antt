use Rattle.pl_check.proofs.StructureLemmas.{answered_checked}
use Rattle.pl_check.proofs.checking.check.Goals as goal

pub returns-clause-sound : goal.returns-clause-sound
returns-clause-sound c text reads = answered_checked c.args.ast.now c.check_tree.result c.check_tree.ensures.answers text reads
