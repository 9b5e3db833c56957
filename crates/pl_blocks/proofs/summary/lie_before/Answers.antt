use Rattle.std.proofs.Common.{pos}
use Rattle.pl_blocks.proofs.Beginnings.{taken_past}
use Rattle.pl_blocks.proofs.summary.lie_before.Goals as goal

pub returns : goal.returns
returns c = taken_past c.args.points.now c.args.count c.args.at (0, pos 0) c.requires.rising c.requires.some c.requires.bound
