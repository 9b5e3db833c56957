-- none so far is of it
use Rattle.std.specs.Prelude.{ℕ, take}
use Rattle.pl_state.specs.Keys.{Has}
use Rattle.pl_bounds.specs.Settings.{musts_asked}
use Rattle.pl_bounds.proofs.broken_musts.are_of_others.Given as goal

abbrev pub invariant-loop-demand : goal.invariant-loop-demand
invariant-loop-demand l = (line : ℕ) → Has l.must (musts_asked line (take l.demand-index l.demands)) → ⊥
