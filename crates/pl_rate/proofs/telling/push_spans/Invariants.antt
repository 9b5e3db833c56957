use Rattle.std.proofs.Common.{◌≡◌, ◌++◌, drop, map}
use Rattle.pl_rate.specs.Fores.{outside}
use Rattle.pl_rate.proofs.telling.push_spans.Given as goal

-- what was put, and the other spans
abbrev pub invariant-loop-span : goal.invariant-loop-span
invariant-loop-span l = l.all.items ++ map (outside l.level l.high) (drop l.span-index l.spans) ≡ l.initial.all.items ++ map (outside l.level l.high) l.spans
