use Rattle.std.proofs.Common.{◌≡◌, ◌≤◌, ℕ, None, length, get_or, arith}
use Rattle.pl_plan.specs.declared.repair.RepairMove.{RepairMove}
use Rattle.pl_plan.specs.declared.repair.RepairMove.TheVariants.{Add}
use Rattle.pl_semantics.specs.Legal.{left_after}
use Rattle.pl_semantics.specs.Moves.{applied}
use Rattle.pl_bounds.specs.Bounds.{left_beside_states}
use Rattle.pl_bounds.specs.Marks.{count_of_states}
use Rattle.pl_bounds.proofs.Pushing.{no_more_at, no_more_length, no_more_next, with_states_too}
use Rattle.pl_bounds.proofs.bounds_with_states.with_states.Goals as goal

pub bounds-bounds-place : goal.bounds-bounds-place
bounds-bounds-place c =
    let same : length c.args.bounds.now ≡ length c.args.moves.now = no_more_length (left_beside_states c.args.board.now.state) c.args.moves.now c.args.bounds.now c.requires.beside in
    omega (arith, same, c.loop-place-test.true)

pub loop-place-preserved : goal.loop-place-preserved
loop-place-preserved c =
    let s = c.args.board.now.state in
    let i : ℕ = c.loop-place.place in
    let m : RepairMove = get_or c.args.moves.now i (Add 0 0 None) in
    let n : ℕ = get_or c.args.bounds.now i 0 in
    let k : ℕ = c.in_ok-states.states in
    let beside : n ≤ left_beside_states s m = no_more_at (left_beside_states s) c.args.moves.now c.args.bounds.now i (Add 0 0 None) 0 c.loop-place-test.true c.requires.beside in
    let states : k ≤ count_of_states (applied s m) = c.in_ok-states.ensures in
    let le : c.saturating_add.result ≤ left_after s m = with_states_too s m n k c.saturating_add.result beside states (omega (arith, c.saturating_add.ensures)) in
    rw c.in_ok-push.ensures.items (no_more_next (left_after s) c.args.moves.now i (Add 0 0 None) c.loop-place.all.items c.saturating_add.result c.loop-place-test.true c.loop-place.invariant le)
