use Rattle.std.proofs.Common.{◌≡◌, ◌+◌, ◌≤◌, ◌++◌, drop, length}
use Rattle.pl_semantics.specs.Demands.{effects_of}
use Rattle.pl_detect.proofs.levels.add_effects.Given as goal

-- with the other effects it is the level with all, and each demand is at most one
abbrev pub invariant-loop-demand : goal.invariant-loop-demand
invariant-loop-demand l =
    (record l.level { effects = l.level.effects ++ effects_of l.line (drop l.demand-index l.demands) } ≡ record l.initial.level { effects = l.initial.level.effects ++ effects_of l.line l.demands })
    × (length l.level.effects ≤ length l.initial.level.effects + l.demand-index)
