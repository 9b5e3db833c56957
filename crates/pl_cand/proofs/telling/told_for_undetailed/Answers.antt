use Rattle.std.proofs.Common.{sym, arith, ◌∙◌}
use Rattle.pl_semantics.specs.Repairs.{for_undetailed}
use Rattle.pl_cand.proofs.Checks.{alternatives_few}
use Rattle.pl_cand.proofs.Starting.{undetailed_any}
use Rattle.pl_cand.proofs.Few.{undetailed_few}
use Rattle.pl_cand.proofs.telling.told_for_undetailed.Goals as goal

pub returns : goal.returns
returns c =
    let s = c.args.state.now in
    let a = c.args.a.now in
    c.told_of_few.ensures c.args.mv.now (for_undetailed s a) (omega (arith, undetailed_few s a (alternatives_few s c.requires.whole a))) (undetailed_any s c.args.mv.now a ∙ sym c.is_for_undetailed.ensures)
