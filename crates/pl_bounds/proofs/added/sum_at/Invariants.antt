-- what was added and what the rest adds, up to when it stays the same
use Rattle.std.proofs.Common.{◌≡◌, ℕ, ◌≤◌, ◌<◌, ◌+ℤ◌, drop}
use Rattle.pl_bounds.specs.Steps.{steps_on}
use Rattle.pl_bounds.proofs.added.sum_at.Given as goal

abbrev pub invariant-loop-step : goal.invariant-loop-step
invariant-loop-step l = (l.added.from ≡ l.t) × ((u : ℕ) → l.t ≤ u → u < l.added.until → (l.added.by +ℤ steps_on l.outside l.change.way u (drop l.step-index l.steps)) ≡ steps_on l.outside l.change.way u l.steps)
