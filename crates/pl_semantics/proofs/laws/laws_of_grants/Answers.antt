use Rattle.pl_semantics.proofs.Granting.{untouched}
use Rattle.pl_semantics.proofs.laws.laws_of_grants.Goals as goal

pub returns : goal.returns
returns c = record { first = untouched }
