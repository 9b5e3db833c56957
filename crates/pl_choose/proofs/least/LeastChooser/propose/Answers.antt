use Rattle.std.proofs.Common.{◌≡◌, Option, sym, subst}
use Rattle.std.proofs.lemmas.Result.{IfOk-weaker}
use Rattle.pl_cand.specs.declared.proposal.Proposal.{Proposal}
use Rattle.pl_cand.specs.Proposals.{IsProposal}
use Rattle.pl_choose.specs.Picks.{least_pick}
use Rattle.pl_choose.proofs.Proposing.{least_is_proposal}
use Rattle.pl_choose.proofs.least.LeastChooser.propose.Goals as goal

pub returns-clause-legal : goal.returns-clause-legal
returns-clause-legal c =
    let s = c.args.board.now.state in
    let P : Option Proposal → Type 0 = λ p. p ≡ least_pick s in
    let Q : Option Proposal → Type 0 = λ p. IsProposal s p in
    IfOk-weaker c.choose_least.result P Q (λ p is. subst Q (sym is) (least_is_proposal s)) c.choose_least.ensures.picks
