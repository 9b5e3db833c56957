use Rattle.pl_state.specs.Sets.{set_key}
use Rattle.pl_state.specs.Musts.{must_key}
use Rattle.pl_state.proofs.Sorting.{same_lists}
use Rattle.pl_state.proofs.laws.same_standing.Goals as goal

pub returns-clause-sets : goal.returns-clause-sets
returns-clause-sets c = same_lists set_key

pub returns-clause-musts : goal.returns-clause-musts
returns-clause-musts c = same_lists must_key
