use Rattle.std.proofs.Common.{◌≡◌, ◌≤◌, ℕ, List, Option, false, None}
use Rattle.pl_io.specs.Lines.{ahead}
use Rattle.pl_io.specs.Reader.{Reader}
use Rattle.pl_replay.specs.Verifying.{IsReadSoFar}
use Rattle.pl_replay.proofs.verifying.follow.Given as goal

-- no line so far was wrong
abbrev pub invariant-entries : goal.invariant-entries
invariant-entries g l = record {
  so_far : (first : Reader) (all : Option (List ℕ)) → IsReadSoFar l.initial.machine.model l.initial.machine.log first all l.initial.lines (ahead l.initial.lines.held (g.S.Source.left l.initial.src))
      → IsReadSoFar l.initial.machine.model l.machine.log first all l.lines (ahead l.lines.held (g.S.Source.left l.src));
  unspoiled : l.machine.spoiled ≡ false;
  model : l.machine.model ≡ l.initial.machine.model;
  working : l.lines.failed ≡ None;
  later : g.S.Source.faults l.initial.src ≤ g.S.Source.faults l.src;
}

abbrev pub decreases-entries : goal.decreases-entries
decreases-entries g l = l.lines.room
