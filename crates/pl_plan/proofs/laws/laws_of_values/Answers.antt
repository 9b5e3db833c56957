use Rattle.pl_plan.proofs.ValueLaws.{values_solve, values_only}
use Rattle.pl_plan.proofs.LocalValues.{values_local, firm_local, end_local}
use Rattle.pl_plan.proofs.laws.laws_of_values.Goals as goal

pub returns : goal.returns
returns c = record { solve = λ model xs checked fits. values_solve model xs checked fits.rooted; only = λ model xs checked fits. values_only model xs checked fits.rooted; local = values_local; local_firm = firm_local; local_end = end_local }
