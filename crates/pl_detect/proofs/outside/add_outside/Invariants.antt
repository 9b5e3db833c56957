use Rattle.std.proofs.Common.{◌≡◌, ◌++◌, take, map}
use Rattle.pl_semantics.specs.Timelines.{outside}
use Rattle.pl_detect.proofs.outside.add_outside.Given as goal

abbrev pub invariant-loop-span : goal.invariant-loop-span
invariant-loop-span l = l.out.items ≡ l.initial.out.items ++ map (outside l.code l.line) (take l.span-index l.spans)
