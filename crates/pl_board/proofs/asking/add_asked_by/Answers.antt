use Rattle.std.proofs.Common.{sym}
use Rattle.pl_detect.proofs.Found.{found_live}
use Rattle.pl_board.proofs.asking.add_asked_by.Goals as goal

pub add_asked-requires-clause-live : goal.add_asked-requires-clause-live
add_asked-requires-clause-live c = found_live c.args.id c.args.s.now.plan.activities c.in-Some.a.now (sym c.in-Some.ensures.value)
