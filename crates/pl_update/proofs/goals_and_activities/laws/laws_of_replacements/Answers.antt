use Rattle.pl_update.proofs.AboutGoalsAndActivities.Touching.{follows_plan}
use Rattle.pl_update.proofs.AboutGoalsAndActivities.Turning.{follows_turned}
use Rattle.pl_update.proofs.goals_and_activities.laws.laws_of_replacements.Goals as goal

pub returns-clause-touched : goal.returns-clause-touched
returns-clause-touched c = follows_plan

pub returns-clause-turned : goal.returns-clause-turned
returns-clause-turned c = follows_turned
