use Rattle.pl_input.specs.Places.{place_of}
use Rattle.pl_pair.proofs.Running.{back_none}
use Rattle.pl_pair.proofs.run.run_team.Goals as goal

pub returns-in-Err-clause-run : goal.returns-in-Err-clause-run
returns-in-Err-clause-run g c = back_none c.args.duties.now c.args.machine (place_of c.args.lines.now (g.I.Source.left c.args.src.now)) (g.O.Sink.held c.args.out.now) c.log-log.ensures.legal
