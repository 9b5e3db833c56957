use Rattle.pl_rate.proofs.Crossings.{reaching, reaching_past}
use Rattle.pl_rate.proofs.crossing.first_reaching.Goals as goal

pub returns-then-whole-count-clause-exact : goal.returns-then-whole-count-clause-exact
returns-then-whole-count-clause-exact c = λ k lt. reaching c.args.amount c.args.step c.requires.step k

pub returns-else-whole-count-clause-exact : goal.returns-else-whole-count-clause-exact
returns-else-whole-count-clause-exact c = λ k lt. reaching_past c.args.amount c.args.step c.requires.step c.args.count k c.if-whole-count.false lt
