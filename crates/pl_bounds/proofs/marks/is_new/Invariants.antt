-- none so far is it
use Rattle.std.specs.Prelude.{take}
use Rattle.pl_state.specs.Keys.{Has}
use Rattle.pl_bounds.proofs.marks.is_new.Given as goal

abbrev pub invariant-loop-other : goal.invariant-loop-other
invariant-loop-other l = Has l.mark (take l.other-index l.marks) → ⊥
