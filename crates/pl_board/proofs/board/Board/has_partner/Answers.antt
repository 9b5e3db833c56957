use Rattle.std.proofs.Common.{◌∙◌, ap}
use Rattle.std.specs.List.{list_any}
use Rattle.pl_links.specs.Broken.{is_partner}
use Rattle.pl_links.specs.Kept.{Kept}
use Rattle.pl_semantics.specs.declared.plan_state.PlanState.{PlanState}
use Rattle.pl_semantics.specs.Links.{placed_in}
use Rattle.pl_board.proofs.board.Board.has_partner.Goals as goal

pub returns : goal.returns
returns c =
    let kept = c.watched.ensures.watched c.requires in
    let is_one = is_partner c.args.link.now c.args.own.now in
    c.has_partner.ensures
    ∙ (ap (λ (k : Kept). list_any is_one k.items) kept.store ∙ ap (λ (t : PlanState). list_any is_one (placed_in t)) c.watched.ensures.state)
