use Rattle.std.proofs.Common.{◌≡◌, ◌≤◌, ◌+◌, drop}
use Rattle.pl_journal.specs.Rendering.Lines.{text_from}
use Rattle.pl_journal.proofs.AboutWriting.{AddsFront}
use Rattle.pl_journal.proofs.writing.write_entries.Given as goal

-- the lines so far
abbrev pub invariant-loop-entry : goal.invariant-loop-entry
invariant-loop-entry g l = record {
  front : AddsFront (g.O.Sink.held l.initial.out) (g.O.Sink.held l.out) (text_from l.model l.number (drop l.entry-index l.entries)) (text_from l.model l.from l.entries);
  count : l.number ≡ l.from + l.entry-index;
  later : g.O.Sink.faults l.initial.out ≤ g.O.Sink.faults l.out;
}
