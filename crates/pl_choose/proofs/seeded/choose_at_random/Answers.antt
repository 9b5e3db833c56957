use Rattle.std.proofs.Common.{Option, sym, subst, ◌∙◌}
use Rattle.pl_cand.specs.declared.proposal.Proposal.{Proposal}
use Rattle.pl_cand.specs.Proposals.{IsProposal}
use Rattle.pl_choose.proofs.Proposing.{random_is_proposal}
use Rattle.pl_choose.proofs.seeded.choose_at_random.Goals as goal

pub make_if_mending-requires-clause-legal : goal.make_if_mending-requires-clause-legal
make_if_mending-requires-clause-legal c =
    let P : Option Proposal → Type 0 = λ p. IsProposal c.args.board.now.state p in
    subst P (sym (sym c.in-Ok-Some.field-0-is ∙ c.in-Ok-Some.ensures)) (random_is_proposal c.args.board.now.state c.args.conflict c.args.repair)
