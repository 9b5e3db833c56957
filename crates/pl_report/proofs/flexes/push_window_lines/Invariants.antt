use Rattle.std.proofs.Common.{◌≡◌, ◌++◌, drop}
use Rattle.std.specs.Prelude.{flat_map}
use Rattle.pl_report.specs.Flexes.{window_line}
use Rattle.pl_report.proofs.flexes.push_window_lines.Given as goal

-- the lines so far and those of the other windows
abbrev pub invariant-loop-window : goal.invariant-loop-window
invariant-loop-window l = l.text.items ++ flat_map window_line (drop l.window-index l.windows) ≡ l.initial.text.items ++ flat_map window_line l.windows
