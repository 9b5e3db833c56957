use Rattle.std.proofs.Common.{◌≡◌}
use Rattle.pl_many.specs.CrewRuns.{crew_of}
use Rattle.pl_many.proofs.running.duties.Given as goal

abbrev pub invariant-loop-before : goal.invariant-loop-before
invariant-loop-before l = l.duties.items ≡ crew_of l.before l.seed l.begun
