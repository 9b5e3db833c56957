use Rattle.std.proofs.Common.{◌≡◌, drop}
use Rattle.pl_journal.specs.Parsing.Words.{count_from}
use Rattle.pl_journal.proofs.parsing.counts.count_of.Given as goal

-- the rest gives the whole
abbrev pub invariant-loop-byte : goal.invariant-loop-byte
invariant-loop-byte l = count_from l.number (drop l.byte-index l.digits) ≡ count_from 0 l.digits
