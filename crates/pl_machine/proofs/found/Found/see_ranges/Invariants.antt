-- the ranges before this one were looked at
use Rattle.std.proofs.Common.{drop}
use Rattle.pl_machine.specs.Looking.{HasLooked}
use Rattle.pl_machine.proofs.found.Found.see_ranges.Given as goal

abbrev pub invariant-loop-range : goal.invariant-loop-range
invariant-loop-range l = HasLooked l.model l.period l.activities l.seen l.place (drop l.range-index l.ranges) l.self.starts.items l.self.ranges.items l.self.next_start
