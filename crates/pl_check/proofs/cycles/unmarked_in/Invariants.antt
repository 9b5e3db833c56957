use Rattle.std.proofs.Common.{◌≡◌, drop}
use Rattle.pl_check.specs.Cycles.{unmarked_in}
use Rattle.pl_check.proofs.cycles.unmarked_in.Given as goal

-- the rest gives the whole
abbrev pub invariant-loop-vertex : goal.invariant-loop-vertex
invariant-loop-vertex l = unmarked_in l.marks (drop l.vertex-index l.row) ≡ unmarked_in l.marks l.row
