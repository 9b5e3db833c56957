use Rattle.std.proofs.Common.{sym}
use Rattle.pl_moves.proofs.Picking.{moved_picked}
use Rattle.pl_moves.proofs.change.shift.Goals as goal

pub returns-in-Some : goal.returns-in-Some
returns-in-Some c = rw (moved_picked c.args.s.now c.requires.whole c.args.id c.args.ids.now c.in-Some.top.now c.args.to c.requires.ids (sym c.in-Some.ensures.value)) at c.shift_all.ensures
