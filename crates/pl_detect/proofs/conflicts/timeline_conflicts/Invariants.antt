use Rattle.std.proofs.Common.{◌≡◌, ◌++◌, drop}
use Rattle.std.specs.List.{flat_map}
use Rattle.pl_semantics.specs.PlanStates.{numbered}
use Rattle.pl_semantics.specs.Timelines.{line_conflicts, timeline_conflicts}
use Rattle.pl_detect.proofs.conflicts.timeline_conflicts.Given as goal

-- what was added and the conflicts of the other timelines
abbrev pub invariant-loop-line : goal.invariant-loop-line
invariant-loop-line l = l.out.items ++ flat_map (line_conflicts l.s) (numbered l.line (drop l.line l.timelines)) ≡ l.initial.out.items ++ timeline_conflicts l.s
