use Rattle.pl_replay.proofs.Found.{reads_numbered, reads_none}
use Rattle.pl_replay.proofs.judging.entry_at.Goals as goal

pub returns-in-Ok : goal.returns-in-Ok
returns-in-Ok c = rw c.numbered.ensures (reads_numbered c.args.model.now c.args.line.now c.args.number c.in-Ok.found c.in-Ok.entry c.in-Ok.ensures.found c.in-Ok.ensures.reads)

pub returns-in-Err-NotALine : goal.returns-in-Err-NotALine
returns-in-Err-NotALine c = reads_none c.args.model.now c.args.line.now c.args.number c.in-Err-NotALine.field-0 c.in-Err-NotALine.field-0-is c.in-Err-NotALine.ensures.reads
