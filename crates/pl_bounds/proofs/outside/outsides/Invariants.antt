-- each is of the plan, and no two are of one side of a timeline
use Rattle.std.specs.Prelude.{All}
use Rattle.pl_bounds.specs.Sides.{IsOutsideOf, AreDifferent}
use Rattle.pl_bounds.proofs.outside.outsides.Given as goal

abbrev pub invariant-loop-conflict : goal.invariant-loop-conflict
invariant-loop-conflict l = All (IsOutsideOf l.board.state) l.all.items × AreDifferent l.all.items
