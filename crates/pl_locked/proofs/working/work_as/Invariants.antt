use Rattle.pl_locked.specs.Plans.{BelongsTo}
use Rattle.pl_locked.proofs.Progress.{Working}
use Rattle.pl_locked.proofs.working.work_as.Given as goal

abbrev pub invariant-loop : goal.invariant-loop
invariant-loop g l = BelongsTo l.plan l.pass × Working l.by l.initial.pass l.initial.role l.acts l.pass l.role
