use Rattle.pl_msg.proofs.Naming.{kind_few}
use Rattle.pl_msg.proofs.names.kind_of.Goals as goal

pub returns-in-Some-clause-few : goal.returns-in-Some-clause-few
returns-in-Some-clause-few c = kind_few c.args.model.now c.requires _ _ _ c.in-Some.ensures.found
