use Rattle.std.proofs.Common.{◌≡◌, ◌++◌, drop, map}
use Rattle.pl_semantics.specs.PlanStates.{numbered}
use Rattle.pl_semantics.specs.Timelines.{lines_of}
use Rattle.pl_update.specs.Timelines.Framed.{idle}
use Rattle.pl_update.proofs.timelines.lines.Lines.new.Given as goal

-- what was made and the timelines that follow
abbrev pub invariant-loop-line : goal.invariant-loop-line
invariant-loop-line l = l.all.items ++ map (idle l.s) (numbered l.line (drop l.line l.timelines)) ≡ map (idle l.s) (lines_of l.s)
