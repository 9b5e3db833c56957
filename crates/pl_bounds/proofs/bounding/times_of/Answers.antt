use Rattle.std.proofs.Common.{pos}
use Rattle.pl_bounds.specs.declared.outside.Look.{Look}
use Rattle.pl_bounds.proofs.Looked.{right_next}
use Rattle.pl_bounds.proofs.bounding.times_of.Goals as goal

pub loop-look-preserved : goal.loop-look-preserved
loop-look-preserved c =
    let o = c.args.outside.now in
    let some : Look = record { at = 0; value = pos 0 } in
    let rest = right_next c.args.board.now.state o.side o.line c.as_slice-looks.result.now c.loop-look.look-index some c.loop-look-test.true c.loop-look.invariant.1 in
    (c.gone_to.ensures, rest.1)
