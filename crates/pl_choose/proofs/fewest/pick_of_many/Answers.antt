use Rattle.std.proofs.Common.{◌≡◌, ◌≤◌, ◌∷◌, Some, ℕ}
use Rattle.std.specs.Prelude.{All, IfOk}
use Rattle.std.proofs.lemmas.Result.{IfOk-weaker}
use Rattle.pl_plan.specs.declared.repair.RepairMove.{RepairMove}
use Rattle.pl_semantics.specs.Legal.{left_after}
use Rattle.pl_choose.specs.Picked.{IsPicked}
use Rattle.pl_choose.specs.Picks.{fewest}
use Rattle.pl_choose.specs.Tried.{best_of}
use Rattle.pl_choose.proofs.Aims.{picked_as, first_is_fewest, found_from, least_all}
use Rattle.pl_choose.proofs.fewest.pick_of_many.Goals as goal

pub returns-in-Decided-clause-picked : goal.returns-in-Decided-clause-picked
returns-in-Decided-clause-picked c =
    let s = c.args.board.now.state in
    let first : RepairMove = c.args.first.now in
    let least : ℕ = c.lowest_of-least.result in
    let started = rw (c.in-Decided.is, c.in_ok-bounds.ensures.same) at c.in_ok-picked.ensures.started in
    let P : RepairMove → Type 0 = λ m. m ≡ first in
    let Q : RepairMove → Type 0 = λ m. fewest s (first ∷ c.args.rest.now) ≡ Some m in
    let low : All (λ n. least ≤ n) c.in_ok-bounds.bounds.items = rw c.deref.ensures.value at c.lowest_of-least.ensures.least in
    let others : All (λ m. least ≤ left_after s m) c.args.rest.now = least_all s least c.args.rest.now c.in_ok-bounds.bounds.items c.in_ok-bounds.ensures.least low in
    picked_as c.args.purpose P Q c.args.board.now c.in-Decided.picked c.start_with.new.board (λ m is. first_is_fewest s first c.args.rest.now least m started.0 others is) started.1

pub returns-clause-picked : goal.returns-clause-picked
returns-clause-picked c =
    let s = c.args.board.now.state in
    let first : RepairMove = c.args.first.now in
    let opened = rw (c.in-Open.is, c.in_ok-bounds.ensures.same) at c.in_ok-picked.ensures.started in
    let P : RepairMove → Type 0 = λ m. m ≡ (best_of (left_after s) c.in-Open.best c.args.rest.now).mv in
    let Q : RepairMove → Type 0 = λ m. fewest s (first ∷ c.args.rest.now) ≡ Some m in
    let picked : IfOk c.pick_by_aims.result (λ p. IsPicked c.args.purpose P c.args.board.now p c.pick_by_aims.new.board) = rw opened.2 at c.pick_by_aims.ensures.picked in
    IfOk-weaker c.pick_by_aims.result (λ p. IsPicked c.args.purpose P c.args.board.now p c.pick_by_aims.new.board) (λ p. IsPicked c.args.purpose Q c.args.board.now p c.pick_by_aims.new.board) (λ p is. picked_as c.args.purpose P Q c.args.board.now p c.pick_by_aims.new.board (λ m last. found_from s first c.args.rest.now c.in-Open.best m opened.0 opened.1 last) is) picked
