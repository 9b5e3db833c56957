use Rattle.pl_renumbering.proofs.Values.{values_same, amounts_same, firm_same, ends_same}
use Rattle.pl_renumbering.proofs.Demands.{use_same, level_same}
use Rattle.pl_renumbering.proofs.laws.laws_of_values.Goals as goal

pub returns-clause-values : goal.returns-clause-values
returns-clause-values c = λ f model xs id keeps rooted. values_same f keeps model xs rooted id

pub returns-clause-amounts : goal.returns-clause-amounts
returns-clause-amounts c = λ f model xs id keeps rooted. amounts_same f keeps model xs rooted id

pub returns-clause-firm : goal.returns-clause-firm
returns-clause-firm c = λ f model xs id keeps rooted. firm_same f keeps model xs rooted id

pub returns-clause-ends : goal.returns-clause-ends
returns-clause-ends c = λ f model xs id keeps rooted. ends_same f keeps model xs rooted id

pub returns-clause-uses : goal.returns-clause-uses
returns-clause-uses c = λ f next s line t keeps rooted. use_same f next s keeps rooted line t

pub returns-clause-levels : goal.returns-clause-levels
returns-clause-levels c = λ f next s line t keeps rooted. level_same f next s keeps rooted line t
