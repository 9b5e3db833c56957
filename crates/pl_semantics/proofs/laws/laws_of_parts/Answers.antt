use Rattle.pl_semantics.proofs.Standing.{of_goals_alone, of_activities_alone, of_links_alone, of_timelines_alone}
use Rattle.pl_semantics.proofs.laws.laws_of_parts.Goals as goal

pub returns-clause-goals : goal.returns-clause-goals
returns-clause-goals c = of_goals_alone

pub returns-clause-activities : goal.returns-clause-activities
returns-clause-activities c = of_activities_alone

pub returns-clause-links : goal.returns-clause-links
returns-clause-links c = of_links_alone

pub returns-clause-timelines : goal.returns-clause-timelines
returns-clause-timelines c = of_timelines_alone
