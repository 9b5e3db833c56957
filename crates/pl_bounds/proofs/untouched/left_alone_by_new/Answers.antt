use Rattle.std.proofs.Common.{[], ◌∷◌, None}
use Rattle.pl_bounds.proofs.Listed.{few_left}
use Rattle.pl_bounds.proofs.untouched.left_alone_by_new.Goals as goal

pub returns : goal.returns
returns c = λ s of. few_left s c.args.standing.now of [] (c.args.kind ∷ []) None c.as_slice.result.now c.as_slice.ensures.value c.count_left.result c.count_left.ensures
