use Rattle.pl_cand.proofs.Proposed.{proposed_proper, proposed_allowed}
use Rattle.pl_cand.proofs.making.make.Goals as goal

pub make-requires-clause-proper : goal.make-requires-clause-proper
make-requires-clause-proper c = proposed_proper c.args.board.now.state c.args.proposal.now c.requires.legal

pub make-requires-clause-allowed : goal.make-requires-clause-allowed
make-requires-clause-allowed c = proposed_allowed c.args.board.now.state c.args.proposal.now c.requires.legal
