use Rattle.std.proofs.Common.{◌-◌, length}
use Rattle.pl_driver.specs.Rounds.{RanTo}
use Rattle.pl_driver.proofs.round.solo_round.Given as goal

abbrev pub invariant-turns : goal.invariant-turns
invariant-turns g l = RanTo g.C.Chooser.picks l.initial.machine l.initial.chooser l.machine l.chooser

abbrev pub decreases-turns : goal.decreases-turns
decreases-turns g l = l.machine.world.options.entries - length l.machine.log
