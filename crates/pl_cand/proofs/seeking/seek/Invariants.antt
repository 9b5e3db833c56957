use Rattle.std.proofs.Common.{◌+◌, ◌*◌, ◌≤◌, drop}
use Rattle.pl_cand.specs.declared.told.Told.{Told}
use Rattle.pl_cand.specs.Telling.{TellsRest}
use Rattle.pl_cand.proofs.Behind.{left}
use Rattle.pl_cand.proofs.seeking.seek.Given as goal

-- what is told by the other activities
abbrev pub invariant-loop-x : goal.invariant-loop-x
invariant-loop-x l = record {
  users : l.found ≤ 8;
  count : l.most ≤ 80 + 35 * l.found;
  so_far : (t : Told) → TellsRest l.state l.role l.mv l.most (left l.state l.role l.timeline l.found (drop l.x-index l.x-items)) t → TellsRest l.state l.role l.mv 80 (left l.state l.role l.timeline 0 l.x-items) t;
}
