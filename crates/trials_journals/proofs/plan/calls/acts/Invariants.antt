use Rattle.std.proofs.Common.{◌≡◌}
use Rattle.pl_turn.specs.Passes.{crew_of}
use Rattle.pl_locked.specs.Plans.{BelongsTo}
use Rattle.trials_journals.proofs.plan.calls.acts.Given as goal

abbrev pub invariant-loop-word : goal.invariant-loop-word
invariant-loop-word g l = BelongsTo l.plan l.pass × (crew_of l.pass ≡ crew_of l.fn.pass)
