use Rattle.pl_laws.proofs.Logs.{fronts}
use Rattle.pl_laws.proofs.Written.{written, told}
use Rattle.pl_laws.proofs.journals.laws_of_journals.Goals as goal

pub returns : goal.returns
returns c = record { fronts = fronts; written = written; told_apart = told }
