use Rattle.std.proofs.Common.{sym}
use Rattle.pl_detect.proofs.Found.{found_live}
use Rattle.pl_update.proofs.goals_and_activities.finding.add_wrong_of.Goals as goal

pub wrong_at-requires-clause-live : goal.wrong_at-requires-clause-live
wrong_at-requires-clause-live c = found_live c.args.id c.args.s.now.plan.activities c.in-Some.a.now (sym c.in-Some.ensures.value)
