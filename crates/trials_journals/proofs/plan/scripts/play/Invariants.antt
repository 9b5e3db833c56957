use Rattle.std.proofs.Common.{◌≡◌}
use Rattle.pl_turn.specs.Passes.{crew_of}
use Rattle.pl_locked.specs.Plans.{BelongsTo}
use Rattle.trials_journals.proofs.plan.scripts.play.Given as goal

abbrev pub invariant-loop-line : goal.invariant-loop-line
invariant-loop-line g l = BelongsTo l.plan l.pass × BelongsTo l.plan l.other × (crew_of l.pass ≡ crew_of l.fn.pass)
