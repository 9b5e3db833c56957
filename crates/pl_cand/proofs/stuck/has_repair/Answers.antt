use Rattle.pl_semantics.proofs.Sifting.{proper}
use Rattle.pl_cand.proofs.stuck.has_repair.Goals as goal

pub any_legal-requires-clause-proper : goal.any_legal-requires-clause-proper
any_legal-requires-clause-proper c = rw (c.as_slice.ensures.value, c.in_ok-moves.ensures) (proper c.args.board.now.state c.args.conflict.now)
