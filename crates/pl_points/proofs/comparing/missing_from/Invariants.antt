-- the rest gives the whole
use Rattle.std.proofs.Common.{◌≡◌, ◌++◌, drop}
use Rattle.pl_points.specs.Changes.{same_span}
use Rattle.pl_lists.specs.Lists.{left_out}
use Rattle.pl_points.proofs.comparing.missing_from.Given as goal

abbrev pub invariant-loop-span : goal.invariant-loop-span
invariant-loop-span l = l.missing.items ++ left_out same_span l.others (drop l.span-index l.spans) ≡ left_out same_span l.others l.spans
