use Rattle.std.proofs.Common.{◌≡◌, ◌≤◌, ℕ, None, get_or, subst, arith}
use Rattle.pl_plan.specs.declared.repair.RepairMove.{RepairMove}
use Rattle.pl_plan.specs.declared.repair.RepairMove.TheVariants.{Add}
use Rattle.pl_semantics.specs.Whole.{IsWhole}
use Rattle.pl_moves.specs.Least.{least_known}
use Rattle.pl_bounds.specs.Bounds.{left_beside_states}
use Rattle.pl_bounds.proofs.Knowing.{known_beside}
use Rattle.pl_bounds.proofs.Pushing.{no_more_next}
use Rattle.pl_bounds.proofs.bounds.least_alone.Goals as goal

pub moves-preserved : goal.moves-preserved
moves-preserved c =
    let s = c.args.board.now.state in
    let i : ℕ = c.moves.mv-index in
    let m : RepairMove = get_or c.args.moves.now i (Add 0 0 None) in
    let whole : IsWhole s = subst IsWhole c.state.ensures.value (c.state.ensures.whole c.requires.unspoiled) in
    let known : least_known s m ≤ left_beside_states s m = known_beside s whole c.requires.next m (c.requires.allowed i (Add 0 0 None) c.moves-test.true) in
    let told : c.least_left.result ≡ least_known s m = rw c.state.ensures.value at c.least_left.ensures.known in
    let le : c.least_left.result ≤ left_beside_states s m = omega (arith, told, known) in
    rw c.in_ok-push.ensures.items (no_more_next (left_beside_states s) c.args.moves.now i (Add 0 0 None) c.moves.bounds.items c.least_left.result c.moves-test.true c.moves.invariant le)
