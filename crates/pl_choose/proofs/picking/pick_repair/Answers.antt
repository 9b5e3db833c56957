use Rattle.std.proofs.Common.{◌≡◌, List, Option, sym, subst, ap, ◌∙◌}
use Rattle.std.specs.Option.{option_map}
use Rattle.pl_plan.specs.declared.repair.RepairMove.{RepairMove}
use Rattle.pl_semantics.specs.Legal.{legal_for}
use Rattle.pl_choose.specs.Picks.{proposal, picked_by}
use Rattle.pl_choose.proofs.picking.pick_repair.Goals as goal

pub returns-in-Some : goal.returns-in-Some
returns-in-Some c =
    let picked : Option RepairMove = c.picked_by.result in
    let P : List RepairMove → Type 0 = λ ms. picked ≡ picked_by c.args.word ms in
    let is : picked ≡ picked_by c.args.word (legal_for c.args.board.now.state c.args.conflict) = subst P (c.as_slice.ensures.value ∙ c.in_ok-moves.ensures) c.picked_by.ensures in
    sym (ap (option_map (proposal c.args.conflict)) (sym is ∙ c.in-Some.is))

pub returns : goal.returns
returns c =
    let picked : Option RepairMove = c.picked_by.result in
    let P : List RepairMove → Type 0 = λ ms. picked ≡ picked_by c.args.word ms in
    let is : picked ≡ picked_by c.args.word (legal_for c.args.board.now.state c.args.conflict) = subst P (c.as_slice.ensures.value ∙ c.in_ok-moves.ensures) c.picked_by.ensures in
    sym (ap (option_map (proposal c.args.conflict)) (sym is ∙ c.in-None.is))
