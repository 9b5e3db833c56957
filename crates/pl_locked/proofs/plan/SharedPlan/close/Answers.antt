use Rattle.pl_locked.proofs.plan.SharedPlan.close.Goals as goal

pub returns : goal.returns
returns c = (c.close_signed-machine.result.1, c.close_signed-machine.ensures)
