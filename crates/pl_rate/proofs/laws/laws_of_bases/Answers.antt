use Rattle.pl_rate.proofs.Fores.{level_based, kept_based}
use Rattle.pl_rate.proofs.laws.laws_of_bases.Goals as goal

pub returns-clause-made : goal.returns-clause-made
returns-clause-made c = level_based

pub returns-clause-kept : goal.returns-clause-kept
returns-clause-kept c = kept_based
