use Rattle.std.proofs.Common.{◌≡◌, ◌++◌, take}
use Rattle.std.specs.List.{flat_map}
use Rattle.pl_report.specs.Reports.{command_line}
use Rattle.pl_report.proofs.commands.push_commands.Given as goal

-- the lines of the commands of the entries so far
abbrev pub invariant-loop-entry : goal.invariant-loop-entry
invariant-loop-entry l = l.text.items ≡ l.initial.text.items ++ flat_map (command_line l.model) (take l.entry-index l.log)
