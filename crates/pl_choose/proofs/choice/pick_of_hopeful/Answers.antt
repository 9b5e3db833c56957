use Rattle.std.proofs.Common.{◌≡◌, ◌+◌, ℕ, List, Some, ◌∙◌}
use Rattle.std.specs.Prelude.{IfOk}
use Rattle.std.proofs.lemmas.Bool.{ltb-true}
use Rattle.std.proofs.lemmas.Result.{IfOk-weaker}
use Rattle.pl_plan.specs.declared.repair.RepairMove.{RepairMove}
use Rattle.pl_semantics.specs.Legal.{left_after}
use Rattle.pl_choose.specs.Choice.{IsFewestBelow, IsPickedIf}
use Rattle.pl_choose.specs.Picks.{fewest}
use Rattle.pl_choose.specs.Tried.{AreHopes}
use Rattle.pl_choose.proofs.Aims.{picked_if}
use Rattle.pl_choose.proofs.Trying.{best, fewest_of_all}
use Rattle.pl_choose.proofs.choice.pick_of_hopeful.Goals as goal

pub returns-clause-picked : goal.returns-clause-picked
returns-clause-picked c =
    let s = c.args.board.now.state in
    let moves : List RepairMove = c.args.moves.now in
    let kept : List RepairMove = c.in_ok-hopes.hopes.moves.items in
    let left : ℕ = c.len.result + 1 in
    let same : c.hopes_of.new.board ≡ c.args.board.now = c.in_ok-hopes.ensures.same ∙ c.in_ok-bounds.ensures.same in
    let hopes : AreHopes s (best c.in-Some.any.now left) moves kept c.in_ok-hopes.hopes.bounds.items = rw c.in_ok-bounds.ensures.same at c.in_ok-hopes.ensures.hopes in
    let P : RepairMove → Type 0 = IsFewestBelow s kept (Some left) in
    let Q : RepairMove → Type 0 = λ m. fewest s moves ≡ Some m in
    let picked : IfOk c.pick_of_hopes.result (λ p. IsPickedIf c.args.purpose P c.args.board.now p c.pick_of_hopes.new.board) = rw (same, c.deref-2.ensures.value) at c.pick_of_hopes.ensures.picked in
    IfOk-weaker c.pick_of_hopes.result (λ p. IsPickedIf c.args.purpose P c.args.board.now p c.pick_of_hopes.new.board) (λ p. IsPickedIf c.args.purpose Q c.args.board.now p c.pick_of_hopes.new.board) (λ p is. picked_if c.args.purpose P Q c.args.board.now p c.pick_of_hopes.new.board (λ m few. fewest_of_all s (best c.in-Some.any.now left) moves kept c.in_ok-hopes.hopes.bounds.items m hopes (ltb-true (left_after s m) left few.1) few.0) is) picked
