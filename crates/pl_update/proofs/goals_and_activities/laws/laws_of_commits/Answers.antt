use Rattle.pl_update.proofs.AboutGoalsAndActivities.Granted.{committed_same}
use Rattle.pl_update.proofs.AboutGoalsAndActivities.Committing.{follows_committed}
use Rattle.pl_update.proofs.goals_and_activities.laws.laws_of_commits.Goals as goal

pub returns-clause-concerns : goal.returns-clause-concerns
returns-clause-concerns c = follows_committed

pub returns-clause-none : goal.returns-clause-none
returns-clause-none c = committed_same
