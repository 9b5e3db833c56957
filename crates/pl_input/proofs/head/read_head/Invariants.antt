use Rattle.std.proofs.Common.{◌≡◌, ◌<◌, ◌≤◌, ◌^◌, None}
use Rattle.pl_io.specs.Lines.{ahead}
use Rattle.pl_input.specs.Heads.{IsBefore}
use Rattle.pl_input.proofs.head.read_head.Given as goal

-- no `begin` line so far
abbrev pub invariant-head : goal.invariant-head
invariant-head g l = record {
  so_far : IsBefore l.initial.lines (ahead l.initial.lines.held (g.S.Source.left l.initial.src)) l.kept l.lines (ahead l.lines.held (g.S.Source.left l.src));
  limit : l.lines.limit < 2 ^ 32;
  working : l.lines.failed ≡ None;
  later : g.S.Source.faults l.initial.src ≤ g.S.Source.faults l.src;
}

abbrev pub decreases-head : goal.decreases-head
decreases-head g l = l.lines.room
