use Rattle.std.proofs.Common.{◌≡◌, flat_map}
use Rattle.pl_io.specs.Lines.{with_newline}
use Rattle.pl_report.specs.Demonstration.{model_lines}
use Rattle.pl_report.proofs.Inputs.{lines_for}
use Rattle.pl_report.proofs.demonstration.demo_input.Given as goal

-- the text so far
abbrev pub invariant-loop-done : goal.invariant-loop-done
invariant-loop-done l = l.text.items ≡ flat_map with_newline (lines_for model_lines l.done)
