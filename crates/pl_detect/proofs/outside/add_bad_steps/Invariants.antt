use Rattle.std.proofs.Common.{◌≡◌, ◌++◌, take, map}
use Rattle.pl_semantics.specs.Timelines.{bad_step}
use Rattle.pl_detect.proofs.outside.add_bad_steps.Given as goal

abbrev pub invariant-loop-step : goal.invariant-loop-step
invariant-loop-step l = l.out.items ≡ l.initial.out.items ++ map (bad_step l.s) (take l.step-index l.steps)
