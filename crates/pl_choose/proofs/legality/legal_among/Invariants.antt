use Rattle.std.proofs.Common.{◌≡◌, ◌≤◌, ◌-◌, ◌++◌, length, drop}
use Rattle.std.specs.Prelude.{filter}
use Rattle.pl_semantics.specs.Legal.{is_legal}
use Rattle.pl_choose.proofs.legality.legal_among.Given as goal

-- what is kept and what comes of the other moves
abbrev pub invariant-runs : goal.invariant-runs
invariant-runs l = record {
  kept : l.all.items ++ filter (is_legal l.board.state) (drop l.done l.tried) ≡ filter (is_legal l.board.state) l.tried;
  few : l.done ≤ length l.tried;
}

abbrev pub decreases-runs : goal.decreases-runs
decreases-runs l = length l.tried - l.done
