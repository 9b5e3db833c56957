use Rattle.pl_main.proofs.Jobs.{is_job}
use Rattle.pl_main.proofs.Completing.{completes}
use Rattle.pl_main.proofs.top.run_solo.Goals as goal

pub returns-clause-complete : goal.returns-clause-complete
returns-clause-complete g c = λ no_read no_write.
    completes _ _ _ _ _ _ c.task_status.ensures.says (is_job c.args.task.now _ c.task_status.ensures.status)
    (λ e. no_read (c.task_status.ensures.read e)) (λ e. no_write (c.task_status.ensures.write e))
