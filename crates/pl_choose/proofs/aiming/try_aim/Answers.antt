use Rattle.std.proofs.Common.{◌≡◌, ◌<◌, ◌+◌, List, length, take, drop, get_or, ℕ, None, refl, ◌∙◌, arith}
use Rattle.pl_plan.specs.declared.repair.RepairMove.{RepairMove}
use Rattle.pl_plan.specs.declared.repair.RepairMove.TheVariants.{Add}
use Rattle.pl_semantics.specs.Legal.{left_after}
use Rattle.pl_bounds.specs.Bounds.{left_beside_states}
use Rattle.pl_bounds.proofs.Pushing.{least_of_beside}
use Rattle.pl_choose.specs.declared.best.Best.{Best}
use Rattle.pl_choose.specs.Alone.{AreEnough}
use Rattle.pl_choose.specs.Picked.{enough_for}
use Rattle.pl_choose.specs.Tried.{above, better_of, best_of}
use Rattle.pl_choose.proofs.Aims.{is_mended, few_enough, aim_made}
use Rattle.pl_choose.proofs.Trying.{least_take, aimed}
use Rattle.pl_choose.proofs.aiming.try_aim.Goals as goal

pub best_by_runs-requires-clause-beside : goal.best_by_runs-requires-clause-beside
best_by_runs-requires-clause-beside c =
    let tried = rw c.in-Undone.is at c.in_ok-trial.ensures.tried in
    rw tried.2 (least_take (left_beside_states c.args.board.now.state) c.lowest_place-at.result c.args.moves.now c.args.bounds.now c.requires.beside)

pub returns-in-Made-clause-aimed : goal.returns-in-Made-clause-aimed
returns-in-Made-clause-aimed c =
    let s = c.args.board.now.state in
    let moves : List RepairMove = c.args.moves.now in
    let at : ℕ = c.lowest_place-at.result in
    let within : at < length moves = rw c.requires.count at c.lowest_place-at.ensures in
    let made = rw c.in-Made.is at c.in_ok-trial.ensures.tried in
    let few : AreEnough (enough_for c.args.purpose c.enough_at.result) (left_after s (get_or moves at (Add 0 0 None))) = rw c.enough_for-enough.ensures at made.0 in (
      is_mended c.args.purpose c.enough_at.result (left_after s (get_or moves at (Add 0 0 None))) few,
      aim_made s c.args.best moves c.args.bounds.now at (Add 0 0 None) c.enough_at.result within (least_of_beside s moves c.args.bounds.now c.requires.beside) (few_enough c.args.purpose c.enough_at.result (left_after s (get_or moves at (Add 0 0 None))) few) c.enough_at.ensures.best c.enough_at.ensures.before c.enough_at.ensures.others,
      made.1,
      made.2,
    )

pub returns-in_ok-before-in-Undone-clause-aimed : goal.returns-in_ok-before-in-Undone-clause-aimed
returns-in_ok-before-in-Undone-clause-aimed c =
    let s = c.args.board.now.state in
    let moves : List RepairMove = c.args.moves.now in
    let at : ℕ = c.lowest_place-at.result in
    let aim : RepairMove = get_or moves at (Add 0 0 None) in
    let left : ℕ = c.in-Undone.left in
    let front : Best = c.in_ok-before-in-Undone.before in
    let within : at < length moves = rw c.requires.count at c.lowest_place-at.ensures in
    let tried = rw c.in-Undone.is at c.in_ok-trial.ensures.tried in
    let one : front ≡ best_of (left_after s) (above c.args.best aim left) (take at moves) = rw (tried.2, c.above-first.ensures) at c.in_ok-before-in-Undone.ensures.best in
    let last : Best = best_of (left_after s) (better_of front aim left) (drop (at + 1) moves) in
    let all : last ≡ best_of (left_after s) c.args.best moves = aimed (left_after s) moves at (Add 0 0 None) left c.args.best front last within tried.0 one refl in
    (rw c.better.ensures all, omega (arith, within), c.in_ok-before-in-Undone.ensures.same ∙ tried.2)
