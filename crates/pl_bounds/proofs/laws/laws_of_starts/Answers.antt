use Rattle.pl_update.proofs.AboutEvaluations.Still.{values_still}
use Rattle.pl_bounds.proofs.laws.laws_of_starts.Goals as goal

pub returns : goal.returns
returns c = λ model xs ys rooted rooted_too same id. values_still model xs ys rooted rooted_too same id
