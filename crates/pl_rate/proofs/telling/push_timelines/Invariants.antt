use Rattle.std.proofs.Common.{◌≡◌, ◌++◌, drop}
use Rattle.std.specs.List.{flat_map}
use Rattle.pl_semantics.specs.PlanStates.{numbered}
use Rattle.pl_rate.specs.Hinges.{outsides_by}
use Rattle.pl_rate.proofs.telling.push_timelines.Given as goal

-- what was put, and the spans of the other timelines
abbrev pub invariant-loop-line : goal.invariant-loop-line
invariant-loop-line l = l.all.items ++ flat_map (outsides_by l.hinges l.bases l.window) (numbered l.line (drop l.line l.timelines)) ≡ flat_map (outsides_by l.hinges l.bases l.window) (numbered 0 l.timelines)
