-- the rest gives the whole
use Rattle.std.proofs.Common.{◌≡◌, drop}
use Rattle.pl_state.specs.Sets.{is_listed}
use Rattle.pl_bounds.proofs.newcomers.is_listed.Given as goal

abbrev pub invariant-loop-step : goal.invariant-loop-step
invariant-loop-step l = is_listed (drop l.step-index l.steps) l.from l.to ≡ is_listed l.steps l.from l.to
