use Rattle.std.proofs.Common.{◌≡◌, ◌≤◌, None}
use Rattle.pl_io.specs.Lines.{ahead}
use Rattle.pl_input.specs.Waits.{Skips}
use Rattle.pl_input.proofs.messages.next_message.Given as goal

-- blank lines so far
abbrev pub invariant-blanks : goal.invariant-blanks
invariant-blanks g l = record {
  so_far : Skips l.initial.lines (ahead l.initial.lines.held (g.S.Source.left l.initial.src)) l.lines (ahead l.lines.held (g.S.Source.left l.src));
  working : l.lines.failed ≡ None;
  later : g.S.Source.faults l.initial.src ≤ g.S.Source.faults l.src;
}

abbrev pub decreases-blanks : goal.decreases-blanks
decreases-blanks g l = l.lines.room
