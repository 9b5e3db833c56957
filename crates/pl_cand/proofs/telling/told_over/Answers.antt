use Rattle.std.proofs.Common.{[], refl, arith}
use Rattle.pl_cand.proofs.telling.told_over.Goals as goal

pub returns : goal.returns
returns c = c.in_ok-told.ensures [] (omega arith) refl
