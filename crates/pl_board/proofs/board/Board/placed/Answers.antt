use Rattle.std.proofs.Common.{◌∙◌, ap}
use Rattle.pl_links.specs.Items.{item_of}
use Rattle.pl_links.specs.Kept.{Kept}
use Rattle.pl_semantics.specs.declared.plan_state.PlanState.{PlanState}
use Rattle.pl_semantics.specs.Links.{placed_in}
use Rattle.pl_detect.proofs.Stored.{item_is}
use Rattle.pl_board.proofs.board.Board.placed.Goals as goal

pub returns : goal.returns
returns c =
    let s = c.args.self.now.state in
    let kept = c.watched.ensures.watched c.requires in
    c.item.ensures
    ∙ (ap (λ (k : Kept). item_of c.args.id k.items) kept.store
    ∙ (ap (λ (t : PlanState). item_of c.args.id (placed_in t)) c.watched.ensures.state ∙ item_is s c.args.id s.plan.activities))
