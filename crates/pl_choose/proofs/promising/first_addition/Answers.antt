use Rattle.pl_choose.proofs.Promise.{addition_foremost}
use Rattle.pl_choose.proofs.promising.first_addition.Goals as goal

pub returns-clause-foremost : goal.returns-clause-foremost
returns-clause-foremost c = addition_foremost c.args.state.now c.args.goal.now c.in_ok-start.start c.in_ok-start.ensures c.requires.goal c.requires.must
