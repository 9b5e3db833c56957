use Rattle.std.proofs.Common.{◌≡◌, ◌+◌, ◌≤◌, ◌++◌, drop, length}
use Rattle.pl_semantics.specs.Demands.{uses_of}
use Rattle.pl_detect.proofs.capacities.add_uses.Given as goal

-- with the other uses it is the capacity with all, and each demand is at most one
abbrev pub invariant-loop-demand : goal.invariant-loop-demand
invariant-loop-demand l =
    (record l.capacity { uses = l.capacity.uses ++ uses_of l.line (drop l.demand-index l.demands) } ≡ record l.initial.capacity { uses = l.initial.capacity.uses ++ uses_of l.line l.demands })
    × (length l.capacity.uses ≤ length l.initial.capacity.uses + l.demand-index)
