use Rattle.std.proofs.Common.{◌≡◌, ◌++◌, false, drop}
use Rattle.pl_acts.proofs.asking.catch_up.Given as goal

-- the entries that are left give the whole log
abbrev pub invariant-loop-entry : goal.invariant-loop-entry
invariant-loop-entry l = (l.replica.spoiled ≡ false) × (l.replica.model ≡ l.initial.replica.model) × (l.replica.log ++ drop l.entry-index l.entries ≡ l.initial.replica.log ++ l.entries)
