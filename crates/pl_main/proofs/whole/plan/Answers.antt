use Rattle.pl_main.specs.RunKinds.{run_by}
use Rattle.pl_main.specs.Runs.{ModelRuns}
use Rattle.pl_main.proofs.Breaking.{ends_solo}
use Rattle.pl_main.proofs.Running.{begun_run, refused_run}
use Rattle.pl_main.proofs.whole.plan.Goals as goal

pub returns-in-Ok-NoBegin-clause-ran : goal.returns-in-Ok-NoBegin-clause-ran
returns-in-Ok-NoBegin-clause-ran g c = refused_run (run_by g.P.Planner.rule c.args.turns) _ _ _ _ _ _ _ c.in_ok-lines.ensures (rw c.in-Ok-NoBegin.field-0-is at c.in-Ok-NoBegin.ensures.head) c.refuse.ensures.text c.refuse.ensures.refused c.refuse.ensures.front c.refuse.ensures.fails

pub returns-clause-ran : goal.returns-clause-ran
returns-clause-ran g c = begun_run (run_by g.P.Planner.rule c.args.turns) (ModelRuns g.P.Planner.rule c.args.turns) (ends_solo g.P.Planner.rule c.args.turns) _ _ _ _ _ _ _ _ _ _ c.in_ok-lines.ensures (rw c.in-Ok-Text.field-0-is at c.in-Ok-Text.ensures.head) c.run_text.ensures.run
