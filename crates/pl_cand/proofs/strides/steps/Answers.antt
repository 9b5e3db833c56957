use Rattle.std.proofs.Common.{rules, arith}
use Rattle.pl_cand.proofs.Steps.{step_kept}
use Rattle.pl_cand.proofs.strides.steps.Goals as goal

pub loop-left-preserved : goal.loop-left-preserved
loop-left-preserved c =
    step_kept c.loop-left.all.items _ _ c.loop-left.left _ _ _ c.args.step
    c.in_ok-push.ensures.items c.loop-left.invariant (search rules) (omega arith) (search rules)
