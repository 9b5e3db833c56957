use Rattle.pl_acts.proofs.Replicas.{next_in_range, next_made}
use Rattle.pl_acts.proofs.asking.follow.Goals as goal

pub answer-requires-clause-event : goal.answer-requires-clause-event
answer-requires-clause-event c = next_in_range c.args.replica.now.model c.args.replica.now.log c.args.entry.now c.log-log.ensures.legal c.requires.next

pub returns : goal.returns
returns c =
    next_made c.args.replica.now c.answer.new.self c.args.entry.now c.in_ok-answer.field-0 (c.log-log.ensures.history c.requires.unspoiled) c.requires.next c.in_ok-answer.ensures
