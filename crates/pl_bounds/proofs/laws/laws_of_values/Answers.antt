use Rattle.pl_bounds.proofs.After.{use_after, level_after}
use Rattle.pl_bounds.proofs.laws.laws_of_values.Goals as goal

pub returns-clause-uses : goal.returns-clause-uses
returns-clause-uses c = λ s gone more line t whole can once. use_after s gone more whole can once line t

pub returns-clause-levels : goal.returns-clause-levels
returns-clause-levels c = λ s gone more line t whole can once. level_after s gone more whole can once line t
