-- what comes of the other activities
use Rattle.std.proofs.Common.{◌≡◌, ◌++◌, drop}
use Rattle.pl_machine.specs.Calm.{next_start}
use Rattle.pl_machine.specs.Looking.{starts_in}
use Rattle.pl_machine.proofs.found.add_starts.Given as goal

abbrev pub invariant-loop-activity : goal.invariant-loop-activity
invariant-loop-activity l = record {
  begun : l.starts.items ++ starts_in l.model l.period (drop l.activity-index l.activities) ≡ l.initial.starts.items ++ starts_in l.model l.period l.activities;
  nearest : next_start l.period.moment l.next (drop l.activity-index l.activities) ≡ next_start l.period.moment l.before l.activities;
}
