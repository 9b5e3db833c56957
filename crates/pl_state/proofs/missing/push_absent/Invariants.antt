-- the rest gives the whole
use Rattle.std.proofs.Common.{◌≡◌, ◌++◌, drop}
use Rattle.pl_lists.specs.Lists.{left_out}
use Rattle.pl_state.specs.Timelines.{same_broken}
use Rattle.pl_state.proofs.missing.push_absent.Given as goal

abbrev pub invariant-loop-span : goal.invariant-loop-span
invariant-loop-span l = l.missing ++ left_out same_broken l.ordered (drop l.span-index l.list) ≡ l.fn.missing ++ left_out same_broken l.ordered l.list
