use Rattle.pl_syntax.proofs.TokenTests.{same-is}
use Rattle.pl_syntax.proofs.laws.tokens_are_told_apart.Goals as goal

pub returns : goal.returns
returns c = λ t wanted e. same-is t wanted e
