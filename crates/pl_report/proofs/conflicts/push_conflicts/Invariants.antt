use Rattle.std.proofs.Common.{◌≡◌, ◌++◌, take}
use Rattle.std.specs.List.{flat_map}
use Rattle.pl_report.specs.Reports.{conflict_line}
use Rattle.pl_report.proofs.conflicts.push_conflicts.Given as goal

-- the lines of the conflicts so far
abbrev pub invariant-loop-conflict : goal.invariant-loop-conflict
invariant-loop-conflict l = l.text.items ≡ l.initial.text.items ++ flat_map conflict_line (take l.conflict-index l.conflicts)
