use Rattle.std.proofs.Common.{◌≡◌, ◌++◌, take}
use Rattle.std.specs.Prelude.{pos}
use Rattle.std.specs.List.{flat_map}
use Rattle.pl_semantics.specs.Starts.{starting, shift_to}
use Rattle.pl_prefs.proofs.changes.add_shifts.Given as goal

abbrev pub invariant-loop-start : goal.invariant-loop-start
invariant-loop-start l = l.out.items ≡ l.initial.out.items ++ flat_map (λ start. starting l.state (shift_to l.id) (pos start)) (take l.start-index l.starts)
