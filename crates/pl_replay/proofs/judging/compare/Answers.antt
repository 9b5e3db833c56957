use Rattle.pl_replay.proofs.Judged.{not_now, log_full, answered_ok, still_shows}
use Rattle.pl_replay.proofs.judging.compare.Goals as goal

pub answer-requires-clause-event : goal.answer-requires-clause-event
answer-requires-clause-event c = c.requires.line.entry.event

pub difference-requires : goal.difference-requires
difference-requires c = still_shows c.args.machine.now c.answer.new.self c.args.line.now c.args.entry c.args.number c.in-Ok.reply c.model.result.now c.requires.number c.requires.line c.in-Ok.ensures c.model.ensures.value

pub returns-in-Ok : goal.returns-in-Ok
returns-in-Ok c = answered_ok c.args.machine.now c.answer.new.self c.args.line.now c.args.entry c.args.number c.in-Ok.reply c.model.result.now c.difference.result c.requires.number c.requires.line c.requires.history c.in-Ok.ensures c.model.ensures.value c.difference.ensures

pub returns-in-Err-NotNow : goal.returns-in-Err-NotNow
returns-in-Err-NotNow c = not_now c.args.machine.now c.answer.new.self c.args.line.now c.args.entry c.args.number c.in-Err-NotNow.field-0 c.in-Err-NotNow.field-0-is c.requires.number c.requires.line c.requires.history c.in-Err-NotNow.ensures

pub returns-in-Err-LogFull : goal.returns-in-Err-LogFull
returns-in-Err-LogFull c = log_full c.args.machine.now c.answer.new.self c.args.line.now c.args.entry c.args.number c.in-Err-LogFull.field-0 c.in-Err-LogFull.field-0-is c.requires.number c.requires.line c.requires.history c.in-Err-LogFull.ensures
