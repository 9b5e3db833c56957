use Rattle.std.proofs.Common.{sym, subst}
use Rattle.pl_main.specs.Limits.{CompletesRun}
use Rattle.pl_main.specs.RunKinds.{run_of}
use Rattle.pl_main.proofs.Jobs.{status_is}
use Rattle.pl_main.proofs.Topping.{says_of, read_failed, write_failed}
use Rattle.pl_main.proofs.Causes.{run_completes}
use Rattle.pl_main.proofs.top.team_status.Goals as goal

pub returns-clause-complete : goal.returns-clause-complete
returns-clause-complete g c = λ no_read no_write.
    let ran = c.paired in
    let kind = run_of c.args.team c.args.turns in
    subst (λ s. CompletesRun kind (g.I.Source.left c.args.input.now) s) (sym c.status_of.ensures)
    (run_completes kind _ _ _ _ _ (says_of kind _ _ _ _ _ ran.ensures.ran) (status_is ran.result)
    (λ e. no_read (ran.ensures.read (read_failed ran.result e))) (λ e. no_write (ran.ensures.write (write_failed ran.result e))))
