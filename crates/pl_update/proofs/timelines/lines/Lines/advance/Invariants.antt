use Rattle.std.proofs.Common.{◌≡◌, ◌++◌, map, take, drop}
use Rattle.pl_update.specs.Timelines.Named.{AreNamed}
use Rattle.pl_update.specs.Timelines.Mending.{IsMended}
use Rattle.pl_update.specs.Timelines.Moments.{at_moment}
use Rattle.pl_update.proofs.timelines.lines.Lines.advance.Given as goal

abbrev pub invariant-loop-line : goal.invariant-loop-line
invariant-loop-line g l = record { mended : IsMended l.s l.fn.self l.self l.fn.set l.set; moved : l.self ≡ map (at_moment l.now) (take l.line l.fn.self) ++ drop l.line l.fn.self; named : AreNamed l.s l.self }
