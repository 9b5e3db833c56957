use Rattle.std.proofs.Common.{◌≡◌, ◌++◌, flat_map, take}
use Rattle.pl_syntax.specs.Canonical.{further_tokens}
use Rattle.pl_syntax.proofs.writer.alternatives.push_all_further.Given as goal

abbrev pub invariant-loop-binding : goal.invariant-loop-binding
invariant-loop-binding l = l.out ≡ l.initial.out ++ flat_map further_tokens (take l.binding-index l.bindings)
