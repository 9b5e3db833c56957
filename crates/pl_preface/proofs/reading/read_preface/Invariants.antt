use Rattle.std.proofs.Common.{◌≡◌, ◌<◌, ◌≤◌, ◌^◌, None}
use Rattle.std.specs.Prelude.{All}
use Rattle.pl_io.specs.Lines.{ahead}
use Rattle.pl_preface.specs.Gives.{IsBeforeJournal}
use Rattle.pl_preface.proofs.reading.read_preface.Given as goal

-- the items so far
abbrev pub invariant-preface : goal.invariant-preface
invariant-preface g l = record {
  so_far : IsBeforeJournal (g.T.Asked.meant l.model) l.initial.lines (ahead l.initial.lines.held (g.S.Source.left l.initial.src)) l.items l.lines (ahead l.lines.held (g.S.Source.left l.src));
  fits : All (g.T.Asked.fits l.model) l.items;
  limit : l.lines.limit < 2 ^ 32;
  working : l.lines.failed ≡ None;
  later : g.S.Source.faults l.initial.src ≤ g.S.Source.faults l.src;
}

abbrev pub decreases-preface : goal.decreases-preface
decreases-preface g l = l.lines.room
