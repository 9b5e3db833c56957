use Rattle.std.proofs.Common.{sym}
use Rattle.pl_semantics.proofs.Found.{found_live}
use Rattle.pl_detect.proofs.links.add_broken.Goals as goal

pub add_conflict_of-requires-clause-live : goal.add_conflict_of-requires-clause-live
add_conflict_of-requires-clause-live c = found_live c.args.broken.now.id c.args.s.now.plan.activities c.in-Some.a.now (sym c.in-Some.ensures.value)
