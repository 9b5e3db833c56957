use Rattle.std.proofs.Common.{◌<◌, arith}
use Rattle.std.specs.Int.{w64}
use Rattle.std.proofs.lemmas.Int.{to_z-of_z}
use Rattle.pl_rate.specs.Hinges.{since_of}
use Rattle.pl_rate.proofs.Gained.{jump_gains}
use Rattle.pl_rate.proofs.pushes.push_jump.Goals as goal

pub returns : goal.returns
returns c =
    let line = c.args.line in
    let after : since_of c.args.bases.now line < c.args.at = omega arith in
    rw (c.in_ok-push.ensures.items, to_z-of_z w64 c.args.delta c.ranges.delta)
    (jump_gains c.args.hinges.now.items line (since_of c.args.bases.now line) c.args.at c.args.delta c.requires.small.0 c.requires.small.1 after)
