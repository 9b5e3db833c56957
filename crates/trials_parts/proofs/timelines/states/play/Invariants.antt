-- the horizon and the moment stay
use Rattle.std.proofs.Common.{◌≡◌}
use Rattle.trials_parts.proofs.timelines.states.play.Given as goal

abbrev pub invariant-loop-row : goal.invariant-loop-row
invariant-loop-row g l = record { horizon : l.timeline.horizon ≡ 100; moment : l.timeline.moment ≡ l.moment }
