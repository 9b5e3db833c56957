use Rattle.pl_semantics.specs.Legal.{legal_for}
use Rattle.pl_semantics.proofs.Sifting.{proper}
use Rattle.pl_choose.proofs.legality.legal_moves.Goals as goal

pub legal_among-requires-clause-proper : goal.legal_among-requires-clause-proper
legal_among-requires-clause-proper c = rw (c.as_slice.ensures.value, c.in_ok-tried.ensures) (proper c.args.board.now.state c.args.conflict.now)

pub returns : goal.returns
unfolding legal_for
returns c = rw (c.as_slice.ensures.value, c.in_ok-tried.ensures) at c.legal_among.ensures
