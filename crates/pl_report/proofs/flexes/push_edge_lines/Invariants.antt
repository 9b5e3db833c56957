use Rattle.std.proofs.Common.{◌≡◌, ◌++◌, drop}
use Rattle.pl_report.specs.Flexes.{edge_lines}
use Rattle.pl_report.proofs.flexes.push_edge_lines.Given as goal

-- the lines so far and those of the other edges
abbrev pub invariant-loop-edge : goal.invariant-loop-edge
invariant-loop-edge l = l.text.items ++ edge_lines l.label (drop l.edge-index l.edges) ≡ l.initial.text.items ++ edge_lines l.label l.edges
