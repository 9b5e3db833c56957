use Rattle.pl_update.proofs.AboutGoalsAndActivities.Standing.{mended, near_plain}
use Rattle.pl_update.proofs.goals_and_activities.laws.laws_of_nearness.Goals as goal

pub returns-clause-mended : goal.returns-clause-mended
returns-clause-mended c = mended

pub returns-clause-plain : goal.returns-clause-plain
returns-clause-plain c = near_plain
