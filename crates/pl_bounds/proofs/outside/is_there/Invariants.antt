-- all are else where the rest is
use Rattle.std.proofs.Common.{drop}
use Rattle.std.specs.Prelude.{All}
use Rattle.pl_bounds.specs.Looks.{IsElse}
use Rattle.pl_bounds.proofs.outside.is_there.Given as goal

abbrev pub invariant-loop-outside : goal.invariant-loop-outside
invariant-loop-outside l = All (IsElse l.side l.line) (drop l.outside-index l.all) → All (IsElse l.side l.line) l.all
