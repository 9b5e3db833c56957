-- the copies so far, and those to come
use Rattle.std.proofs.Common.{◌≡◌, ◌++◌, drop}
use Rattle.pl_log.proofs.log.push_copies.Given as goal

abbrev pub invariant-loop-entry : goal.invariant-loop-entry
invariant-loop-entry l = l.into ++ drop l.entry-index l.entries ≡ l.initial.into ++ l.entries
