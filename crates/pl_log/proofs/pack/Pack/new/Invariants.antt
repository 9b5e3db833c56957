-- the parts have the entries so far
use Rattle.std.proofs.Common.{drop}
use Rattle.pl_log.proofs.Entries.{HaveWith}
use Rattle.pl_log.proofs.pack.Pack.new.Given as goal

abbrev pub invariant-loop-entry : goal.invariant-loop-entry
invariant-loop-entry l = HaveWith l.parts (drop l.entry-index l.entries) l.entries
