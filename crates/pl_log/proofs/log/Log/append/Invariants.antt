-- the entries so far, and those to come
use Rattle.std.proofs.Common.{◌≡◌, ◌++◌, drop}
use Rattle.pl_log.proofs.log.Log.append.Given as goal

abbrev pub invariant-loop-entry : goal.invariant-loop-entry
invariant-loop-entry l = l.self.entries ++ drop l.entry-index l.entries ≡ l.initial.self.entries ++ l.entries
