use Rattle.std.proofs.Common.{◌∙◌}
use Rattle.pl_update.proofs.AboutGoalsAndActivities.Passing.{none_late}
use Rattle.pl_update.proofs.goals_and_activities.passed.ids_passed.Goals as goal

pub returns-then-now-s : goal.returns-then-now-s
returns-then-now-s c = c.new.ensures.items ∙ none_late c.args.s.now c.args.now c.if-now-s.true
