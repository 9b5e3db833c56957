use Rattle.std.proofs.Common.{sym, arith, ◌∙◌}
use Rattle.pl_semantics.specs.Starts.{moves_of}
use Rattle.pl_cand.proofs.Starting.{moves_any}
use Rattle.pl_cand.proofs.Few.{moves_few}
use Rattle.pl_cand.proofs.telling.told_for_moves.Goals as goal

pub returns : goal.returns
returns c =
    let s = c.args.state.now in
    let a = c.args.a.now in
    c.told_of_few.ensures c.args.mv.now (moves_of s a) (omega (arith, moves_few s a)) (moves_any s c.args.mv.now a ∙ sym c.is_move_of.ensures)
