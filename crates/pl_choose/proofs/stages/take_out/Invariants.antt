use Rattle.std.proofs.Common.{take}
use Rattle.std.specs.Prelude.{All}
use Rattle.pl_choose.specs.Stages.{TakesOut}
use Rattle.pl_choose.proofs.stages.take_out.Given as goal

-- those so far take these out
abbrev pub invariant-loop-stage : goal.invariant-loop-stage
invariant-loop-stage l = All (TakesOut l.gone) (take l.stage-index l.stages)
