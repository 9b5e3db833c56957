use Rattle.std.proofs.Common.{subst}
use Rattle.pl_semantics.specs.declared.plan_state.PlanState.{PlanState}
use Rattle.pl_update.specs.Evaluations.Kept.{AreOf}
use Rattle.pl_board.proofs.board.Board.evaluated.Goals as goal

pub returns : goal.returns
returns c =
    let kept = c.watched.ensures.watched c.requires in
    c.of.ensures.of_state c.args.self.now.state (subst (λ (s : PlanState). AreOf s c.watched.result.now.values) c.watched.ensures.state kept.values)
