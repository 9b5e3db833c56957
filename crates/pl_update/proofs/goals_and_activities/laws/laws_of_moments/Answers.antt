use Rattle.pl_update.proofs.AboutGoalsAndActivities.Passing.{follows_moved}
use Rattle.pl_update.proofs.goals_and_activities.laws.laws_of_moments.Goals as goal

pub returns : goal.returns
returns c = λ s now whole later. follows_moved s whole now later
