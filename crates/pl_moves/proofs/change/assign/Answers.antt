use mir.Syntax.{w64}
use Rattle.std.proofs.lemmas.Int.{to_z-of_z}
use Rattle.pl_moves.proofs.Picking.{picked_subtree}
use Rattle.pl_moves.proofs.change.assign.Goals as goal

pub returns : goal.returns
returns c = rw (c.requires.ids, picked_subtree c.args.s.now.plan.activities c.args.id c.requires.whole.rising, to_z-of_z w64 c.args.value c.ranges.value) at c.assign_all.ensures
