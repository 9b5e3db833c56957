use Rattle.std.proofs.Common.{◌∙◌}
use Rattle.pl_cand.proofs.Behind.{few_early}
use Rattle.pl_cand.proofs.telling.told_of_few.Goals as goal

pub returns-then-is : goal.returns-then-is
returns-then-is c = λ m tried few e. few_early m tried few (e ∙ c.if-is.true)
