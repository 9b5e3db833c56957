use Rattle.std.proofs.Common.{◌≡◌, ◌∷◌, Some, ◌∙◌}
use Rattle.std.specs.Prelude.{IfOk}
use Rattle.std.proofs.lemmas.Result.{IfOk-weaker}
use Rattle.pl_plan.specs.declared.repair.RepairMove.{RepairMove}
use Rattle.pl_semantics.specs.Legal.{left_after}
use Rattle.pl_choose.specs.Picked.{IsPicked}
use Rattle.pl_choose.specs.Picks.{fewest}
use Rattle.pl_choose.specs.Tried.{best_of}
use Rattle.pl_choose.proofs.Aims.{picked_as, first_is_fewest, found_from}
use Rattle.pl_choose.proofs.fewest.pick_of_few.Goals as goal

pub returns-in-Decided-clause-picked : goal.returns-in-Decided-clause-picked
returns-in-Decided-clause-picked c =
    let s = c.args.board.now.state in
    let first : RepairMove = c.args.first.now in
    let started = rw c.in-Decided.is at c.in_ok-picked.ensures.started in
    let P : RepairMove → Type 0 = λ m. m ≡ first in
    let Q : RepairMove → Type 0 = λ m. fewest s (first ∷ c.args.rest.now) ≡ Some m in
    picked_as c.args.purpose P Q c.args.board.now c.in-Decided.picked c.start_with.new.board (λ m is. first_is_fewest s first c.args.rest.now c.args.least m started.0 c.requires.least is) started.1

pub returns-in_ok-bounds-in-Open-clause-picked : goal.returns-in_ok-bounds-in-Open-clause-picked
returns-in_ok-bounds-in-Open-clause-picked c =
    let s = c.args.board.now.state in
    let first : RepairMove = c.args.first.now in
    let opened = rw c.in-Open.is at c.in_ok-picked.ensures.started in
    let same : c.bounds_of.new.board ≡ c.args.board.now = c.in_ok-bounds-in-Open.ensures.same ∙ opened.2 in
    let P : RepairMove → Type 0 = λ m. m ≡ (best_of (left_after s) c.in-Open.best c.args.rest.now).mv in
    let Q : RepairMove → Type 0 = λ m. fewest s (first ∷ c.args.rest.now) ≡ Some m in
    let picked : IfOk c.pick_by_aims.result (λ p. IsPicked c.args.purpose P c.args.board.now p c.pick_by_aims.new.board) = rw same at c.pick_by_aims.ensures.picked in
    IfOk-weaker c.pick_by_aims.result (λ p. IsPicked c.args.purpose P c.args.board.now p c.pick_by_aims.new.board) (λ p. IsPicked c.args.purpose Q c.args.board.now p c.pick_by_aims.new.board) (λ p is. picked_as c.args.purpose P Q c.args.board.now p c.pick_by_aims.new.board (λ m last. found_from s first c.args.rest.now c.in-Open.best m opened.0 opened.1 last) is) picked
