use Rattle.pl_update.proofs.AboutGoalsAndActivities.OfGoals.{follows_goal, follows_no_goal, follows_told, follows_next}
use Rattle.pl_update.proofs.goals_and_activities.laws.laws_of_goal_changes.Goals as goal

pub returns-clause-added : goal.returns-clause-added
returns-clause-added c = follows_goal

pub returns-clause-dropped : goal.returns-clause-dropped
returns-clause-dropped c = follows_no_goal

pub returns-clause-told : goal.returns-clause-told
returns-clause-told c = follows_told

pub returns-clause-next : goal.returns-clause-next
returns-clause-next c = follows_next
