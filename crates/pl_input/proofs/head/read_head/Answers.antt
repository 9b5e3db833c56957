use Rattle.pl_input.proofs.Beginning.{before_begun}
use Rattle.pl_input.proofs.head.read_head.Goals as goal

pub returns-in-Text-clause-head : goal.returns-in-Text-clause-head
returns-in-Text-clause-head g c = before_begun _ _ _ _ _ _ _ _ c.head.invariant.so_far (rw c.in-Text.is at c.in_ok-more.ensures.line)
