use Rattle.pl_input.specs.Places.{place_of}
use Rattle.pl_main.proofs.Prefacing.{prefers_stop}
use Rattle.pl_main.proofs.forewords.read_prefers.Goals as goal

pub returns-in-Err-clause-reads : goal.returns-in-Err-clause-reads
returns-in-Err-clause-reads g c = prefers_stop c.args.steps c.args.model.now (place_of c.args.lines.now (g.S.Source.left c.args.src.now)) (place_of c.read_preface.new.lines (g.S.Source.left c.read_preface.new.src)) c.in-Err.fault c.halt_of.result c.in-Err.ensures.preface c.halt_of.ensures
