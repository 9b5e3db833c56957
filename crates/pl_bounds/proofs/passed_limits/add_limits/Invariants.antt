-- each is of the plan, and no two are of one side of a timeline
use Rattle.std.specs.Prelude.{All}
use Rattle.pl_bounds.specs.Sides.{IsOutsideOf, AreDifferent}
use Rattle.pl_bounds.proofs.passed_limits.add_limits.Given as goal

abbrev pub invariant-loop-demand : goal.invariant-loop-demand
invariant-loop-demand l = All (IsOutsideOf l.board.state) l.past.items × AreDifferent l.past.items
