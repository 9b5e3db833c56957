use Rattle.pl_semantics.proofs.Standing.{goals_by_subject, activities_by_subject, links_by_subject}
use Rattle.pl_semantics.proofs.Lines.{by_line}
use Rattle.pl_semantics.proofs.laws.laws_of_subjects.Goals as goal

pub returns-clause-goals : goal.returns-clause-goals
returns-clause-goals c = goals_by_subject

pub returns-clause-activities : goal.returns-clause-activities
returns-clause-activities c = activities_by_subject

pub returns-clause-links : goal.returns-clause-links
returns-clause-links c = links_by_subject

pub returns-clause-timelines : goal.returns-clause-timelines
returns-clause-timelines c = by_line
