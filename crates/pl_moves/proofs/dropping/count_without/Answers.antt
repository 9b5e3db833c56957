use Rattle.std.proofs.Common.{◌≡◌, Some, None, true, false, sym}
use Rattle.pl_semantics.specs.PlanStates.{goal_at, is_open}
use Rattle.pl_semantics.specs.Legal.{left_after}
use Rattle.pl_semantics.specs.Moves.{holds}
use Rattle.pl_moves.proofs.Drops.{open_if}
use Rattle.pl_moves.proofs.OneGoalLess.{length_dropped}
use Rattle.pl_moves.proofs.dropping.count_without.Goals as goal

-- a goal that may be dropped is there
pub unreachable-requires : goal.unreachable-requires
unreachable-requires c =
    let s = c.args.board.now.state in
    let is : holds (is_open s) (goal_at s c.args.number) ≡ true = open_if s c.args.number c.requires.proper in
    let none : goal_at s c.args.number ≡ None = sym (rw c.state.ensures.value at c.in-None.ensures.goal) in
    let bad : false ≡ true = rw none at is in
    absurd (cc)

pub returns : goal.returns
unfolding left_after
returns c =
    let s = c.args.board.now.state in
    let here : goal_at s c.args.number ≡ Some c.in-Some.goal.now = sym (rw c.state.ensures.value at c.in-Some.ensures.goal) in
    rw (c.open_goal.ensures, c.conflicts.ensures c.requires.unspoiled, ← length_dropped s (rw c.state.ensures.value at (c.state.ensures.whole c.requires.unspoiled)) c.args.number c.in-Some.goal.now here) at c.count_besides.ensures
