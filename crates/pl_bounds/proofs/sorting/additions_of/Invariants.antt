-- each is what the move adds
use Rattle.std.specs.Prelude.{All}
use Rattle.pl_bounds.specs.Steps.{IsAdditionOf}
use Rattle.pl_bounds.proofs.sorting.additions_of.Given as goal

abbrev pub invariant-loop-outside : goal.invariant-loop-outside
invariant-loop-outside l = All (IsAdditionOf l.asking) l.additions.items
