use Rattle.pl_main.specs.RunKinds.{run_of}
use Rattle.pl_main.specs.Runs.{ModelRunsAs}
use Rattle.pl_main.proofs.Running.{begun_run, refused_run}
use Rattle.pl_main.proofs.Crewing.{ends_team}
use Rattle.pl_main.proofs.paired.paired.Goals as goal

pub returns-in-Ok-NoBegin-clause-ran : goal.returns-in-Ok-NoBegin-clause-ran
returns-in-Ok-NoBegin-clause-ran g c = refused_run (run_of c.args.team c.args.turns) _ _ _ _ _ _ _ c.in_ok-lines.ensures (rw c.in-Ok-NoBegin.field-0-is at c.in-Ok-NoBegin.ensures.head) c.refuse.ensures.text c.refuse.ensures.refused c.refuse.ensures.front c.refuse.ensures.fails

pub returns-clause-ran : goal.returns-clause-ran
returns-clause-ran g c =
    begun_run (run_of c.args.team c.args.turns) (ModelRunsAs c.args.team c.args.turns) (ends_team c.args.team c.args.turns c.requires.team) _ _ _ _ _ _ _ _ _ _ c.in_ok-lines.ensures (rw c.in-Ok-Text.field-0-is at c.in-Ok-Text.ensures.head) c.run_text.ensures.run
