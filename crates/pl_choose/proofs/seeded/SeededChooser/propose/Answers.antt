use Rattle.std.proofs.Common.{◌≡◌, Option, sym, subst, ap, ◌∙◌}
use Rattle.std.proofs.lemmas.Result.{IfOk-weaker}
use Rattle.pl_cand.specs.declared.proposal.Proposal.{Proposal}
use Rattle.pl_cand.specs.Proposals.{IsProposal}
use Rattle.pl_choose.specs.Picks.{pick_by, seeded_pick, seeded_after}
use Rattle.pl_choose.proofs.Proposing.{drawn_is_proposal}
use Rattle.pl_choose.proofs.seeded.SeededChooser.propose.Goals as goal

pub returns-clause-legal : goal.returns-clause-legal
returns-clause-legal c =
    let s = c.args.board.now.state in
    let P : Option Proposal → Type 0 = λ p. p ≡ pick_by s c.draw-draw.result in
    let Q : Option Proposal → Type 0 = λ p. IsProposal s p in
    IfOk-weaker c.propose_by.result P Q (λ p is. subst Q (sym is) (drawn_is_proposal s c.draw-draw.result)) c.propose_by.ensures.picks

pub returns-clause-picks : goal.returns-clause-picks
unfolding seeded_pick
returns-clause-picks c =
    let s = c.args.board.now.state in
    let P : Option Proposal → Type 0 = λ p. p ≡ pick_by s c.draw-draw.result in
    let Q : Option Proposal → Type 0 = λ p. (p ≡ seeded_pick s c.args.self.now) × (c.draw-draw.new.self ≡ seeded_after c.args.self.now) in
    IfOk-weaker c.propose_by.result P Q (λ p is. (is ∙ ap (pick_by s) c.draw-draw.ensures.draw, c.draw-draw.ensures.after)) c.propose_by.ensures.picks
