use Rattle.std.proofs.Common.{take}
use Rattle.pl_update.specs.Timelines.Held.{asked_at}
use Rattle.pl_update.specs.Timelines.Named.{AreNamed}
use Rattle.pl_update.specs.Timelines.Mending.{IsMended, IsMoved}
use Rattle.pl_update.proofs.timelines.lines.Lines.take_on.Given as goal

abbrev pub invariant-loop-demand : goal.invariant-loop-demand
invariant-loop-demand g l = record { mended : IsMended l.s l.fn.self l.self l.fn.set l.set; moved : IsMoved l.fn.self l.self (asked_at (take l.demand-index l.demands)); named : AreNamed l.s l.self }
