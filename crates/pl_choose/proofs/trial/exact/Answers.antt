use Rattle.std.proofs.Common.{arith}
use Rattle.pl_choose.proofs.trial.exact.Goals as goal

pub returns-then-count-lt4294967295-clause-count : goal.returns-then-count-lt4294967295-clause-count
returns-then-count-lt4294967295-clause-count c = omega arith
