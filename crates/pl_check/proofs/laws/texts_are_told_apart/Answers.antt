use Rattle.pl_check.proofs.Apart.{apart, one_model, checked_model}
use Rattle.pl_check.proofs.OneLine.{one_line}
use Rattle.pl_check.proofs.laws.texts_are_told_apart.Goals as goal

pub returns-clause-apart : goal.returns-clause-apart
returns-clause-apart c = apart

pub returns-clause-one : goal.returns-clause-one
returns-clause-one c = one_model

pub returns-clause-line : goal.returns-clause-line
returns-clause-line c = one_line

pub returns-clause-checked : goal.returns-clause-checked
returns-clause-checked c = checked_model
