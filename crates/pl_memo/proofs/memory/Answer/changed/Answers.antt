use Rattle.pl_memo.proofs.Remembering.{holds_after}
use Rattle.pl_memo.proofs.memory.Answer.changed.Goals as goal

pub returns : goal.returns
returns c = λ s t made h. holds_after s t c.args.left.now c.args.more.now c.args.self c.in_ok-changed.field-0 made h c.in_ok-changed.ensures
