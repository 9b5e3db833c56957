use Rattle.std.proofs.Common.{◌≡◌, ◌++◌, take}
use Rattle.pl_report.specs.Forecasts.{outside_lines}
use Rattle.pl_report.proofs.forecasts.push_outside_lines.Given as goal

-- the lines of the spans so far
abbrev pub invariant-loop-outside : goal.invariant-loop-outside
invariant-loop-outside l = l.text.items ≡ l.initial.text.items ++ outside_lines l.model (take l.outside-index l.all)
