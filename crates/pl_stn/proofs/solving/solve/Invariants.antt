use Rattle.pl_stn.specs.Causes.{AreRising, room_of}
use Rattle.pl_stn.proofs.solving.solve.Given as goal

abbrev pub invariant-passes : goal.invariant-passes
invariant-passes l = AreRising l.net l.times.items l.causes.items

abbrev pub decreases-passes : goal.decreases-passes
decreases-passes l = room_of l.net l.times.items
