use Rattle.pl_update.proofs.AboutChanges.Renewing.{exchanged_renewed, free_without}
use Rattle.pl_update.proofs.changes.replacement.renew.Goals as goal

pub returns-then-keeps : goal.returns-then-keeps
returns-then-keeps c =
    let kept = c.keeps_place-keeps.ensures c.if-keeps.true in
    rw c.exchange.ensures.after (rw c.in_ok-a.ensures (exchanged_renewed c.args.a.now c.args.plan.now.activities c.requires kept.0))

pub put-requires : goal.put-requires
put-requires c = rw (c.take.ensures.after, c.in_ok-a.ensures) (free_without c.args.a.now.id c.args.plan.now.activities c.requires)
