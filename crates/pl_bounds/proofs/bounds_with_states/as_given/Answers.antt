use Rattle.std.proofs.Common.{◌≡◌, List, ℕ, sym, subst, arith}
use Rattle.std.proofs.lemmas.Grind.{common_steps}
use Rattle.pl_bounds.specs.Bounds.{AreLeast}
use Rattle.pl_bounds.proofs.Pushing.{least_of_beside}
use Rattle.pl_bounds.proofs.bounds_with_states.as_given.Goals as goal

pub returns : goal.returns
returns c = λ s ms beside.
    let same : c.in_ok-same.same.items ≡ c.args.bounds.now = grind (arith, common_steps) in
    subst (λ (ns : List ℕ). AreLeast s ms ns) (sym same) (least_of_beside s ms c.args.bounds.now beside)
