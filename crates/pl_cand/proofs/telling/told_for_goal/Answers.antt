use Rattle.std.proofs.Common.{sym, arith, ◌∙◌}
use Rattle.pl_semantics.specs.Repairs.{for_goal}
use Rattle.pl_cand.proofs.Starting.{goal_any}
use Rattle.pl_cand.proofs.Few.{goal_few}
use Rattle.pl_cand.proofs.telling.told_for_goal.Goals as goal

pub returns : goal.returns
returns c =
    let s = c.args.state.now in
    let g = c.args.goal.now in
    c.told_of_few.ensures c.args.mv.now (for_goal s g) (omega (arith, goal_few s g)) (goal_any s c.args.mv.now g ∙ sym c.is_for_goal.ensures)
