use Rattle.std.proofs.Common.{sym}
use Rattle.pl_main.proofs.Playing.{plays_out, plays_stop}
use Rattle.pl_main.proofs.play.play.Goals as goal

pub returns-in-Ok-true-clause-play : goal.returns-in-Ok-true-clause-play
returns-in-Ok-true-clause-play g c =
    let step = rw c.in-Ok-true.field-0-test at c.in-Ok-true.ensures.step in
    plays_out _ _ _ _ _ _ _ _ _ c.messages.invariant.so_far step.0 (sym step.1)

pub returns-in-Err-clause-play : goal.returns-in-Err-clause-play
returns-in-Err-clause-play g c = plays_stop _ _ _ _ _ _ _ _ _ c.in-Err.halt c.messages.invariant.so_far c.in-Err.ensures.step
