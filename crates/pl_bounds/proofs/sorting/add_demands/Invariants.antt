-- the steps so far and those of the rest
use Rattle.std.proofs.Common.{◌≡◌, ℕ, ◌+ℤ◌, drop}
use Rattle.pl_points.specs.Sums.{total}
use Rattle.pl_bounds.specs.Steps.{demand_toward, steps_on}
use Rattle.pl_bounds.specs.declared.outside.Outside.{Outside}
use Rattle.pl_bounds.specs.declared.stepwise.Way.{Way}
use Rattle.pl_bounds.proofs.sorting.add_demands.Given as goal

abbrev pub invariant-loop-demand : goal.invariant-loop-demand
invariant-loop-demand l = (o : Outside) (w : Way) (t : ℕ) → o.line ≡ l.outside.line → o.side ≡ l.outside.side
    → (steps_on o w t l.steps.items +ℤ total (demand_toward o w t l.comes) (drop l.demand-index l.demands)) ≡ steps_on o w t l.initial.steps.items +ℤ total (demand_toward o w t l.comes) l.demands
