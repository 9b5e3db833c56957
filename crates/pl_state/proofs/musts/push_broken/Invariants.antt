-- the rest gives the whole
use Rattle.std.proofs.Common.{◌≡◌, ◌++◌, drop}
use Rattle.pl_state.specs.Musts.{broken_spans}
use Rattle.pl_state.proofs.musts.push_broken.Given as goal

abbrev pub invariant-loop-span : goal.invariant-loop-span
invariant-loop-span l = l.broken.items ++ broken_spans l.must (drop l.span-index l.spans) ≡ l.fn.broken.items ++ broken_spans l.must l.spans
