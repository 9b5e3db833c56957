use Rattle.pl_semantics.proofs.Sifting.{proper}
use Rattle.pl_search.proofs.Confirmed.{some_legal}
use Rattle.pl_search.proofs.confirming.legal_for.Goals as goal

pub legal_among-requires-clause-proper : goal.legal_among-requires-clause-proper
legal_among-requires-clause-proper c =
    rw (c.as_slice.ensures.value, c.in_ok-moves.ensures) (proper c.args.board.now.state c.args.conflict.now)

pub returns : goal.returns
returns c =
    some_legal _ _ _ (rw (c.as_slice.ensures.value, c.in_ok-moves.ensures) at c.legal_among.ensures)
