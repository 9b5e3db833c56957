use Rattle.std.proofs.Common.{◌≡◌, Option, Some, None, sym, subst, inr}
use Rattle.std.specs.Prelude.{IfSome}
use Rattle.std.proofs.lemmas.Result.{IfOk-weaker}
use Rattle.pl_cand.specs.declared.proposal.Proposal.{Proposal}
use Rattle.pl_cand.specs.Proposals.{IsProposal}
use Rattle.pl_choose.specs.declared.repairs.Repairs.{Repairs}
use Rattle.pl_choose.specs.Found.{AreFirst}
use Rattle.pl_choose.specs.Picks.{draw_of, seeded_pick, seeded_after}
use Rattle.pl_choose.proofs.Proposing.{drawn_is_proposal, some_is_not_stuck, something, if_some, none_is_stuck}
use Rattle.pl_choose.proofs.seeded.SeededChooser.mend.Goals as goal

pub mend_from-requires-clause-first : goal.mend_from-requires-clause-first
mend_from-requires-clause-first c = let P : Option Repairs → Type 0 = λ o. AreFirst c.args.board.now.state o in subst P c.in-Ok-Some.field-0-is c.in-Ok-Some.ensures

pub returns-in-Ok-Some-clause-picks : goal.returns-in-Ok-Some-clause-picks
returns-in-Ok-Some-clause-picks c =
    let s = c.args.board.now.state in
    let g = c.args.self.now in
    let P : Option Proposal → Type 0 = λ p. p ≡ seeded_pick s g in
    let R : Option Proposal → Type 0 = λ p. (p ≡ seeded_pick s g) × (c.mend_from.new.self ≡ seeded_after g) in
    let Q : Option Proposal → Type 0 = λ p. IfSome p (λ q. (Some q ≡ seeded_pick s g) × (c.mend_from.new.self ≡ seeded_after g)) in
    IfOk-weaker c.mend_from.result P Q (λ p is. if_some R p (is, c.mend_from.ensures.after)) c.mend_from.ensures.picks

pub returns-in-Ok-Some-clause-kept : goal.returns-in-Ok-Some-clause-kept
unfolding seeded_pick
returns-in-Ok-Some-clause-kept c =
    let s = c.args.board.now.state in
    let g = c.args.self.now in
    let F : Option Repairs → Type 0 = λ o. AreFirst s o in
    let first : AreFirst s (Some c.in-Ok-Some.first) = subst F c.in-Ok-Some.field-0-is c.in-Ok-Some.ensures in
    let L : Option Proposal → Type 0 = λ p. IsProposal s p in
    let P : Option Proposal → Type 0 = λ p. p ≡ seeded_pick s g in
    let Q : Option Proposal → Type 0 = λ p. p ≡ None → c.mend_from.new.self ≡ g in
    IfOk-weaker c.mend_from.result P Q (λ p is none. absurd (something s c.in-Ok-Some.first p first (subst L (sym is) (drawn_is_proposal s (draw_of g))) none)) c.mend_from.ensures.picks

pub returns-in-Ok-Some-clause-legal : goal.returns-in-Ok-Some-clause-legal
unfolding seeded_pick
returns-in-Ok-Some-clause-legal c =
    let s = c.args.board.now.state in
    let g = c.args.self.now in
    let P : Option Proposal → Type 0 = λ p. p ≡ seeded_pick s g in
    let Q : Option Proposal → Type 0 = λ p. IsProposal s p in
    IfOk-weaker c.mend_from.result P Q (λ p is. subst Q (sym is) (drawn_is_proposal s (draw_of g))) c.mend_from.ensures.picks

pub returns-in-Ok-None-clause-legal : goal.returns-in-Ok-None-clause-legal
returns-in-Ok-None-clause-legal c = let P : Option Repairs → Type 0 = λ o. AreFirst c.args.board.now.state o in none_is_stuck c.args.board.now.state (subst P c.in-Ok-None.field-0-is c.in-Ok-None.ensures)

pub returns-in-Ok-Some-clause-drawn : goal.returns-in-Ok-Some-clause-drawn
returns-in-Ok-Some-clause-drawn c =
    let s = c.args.board.now.state in
    let F : Option Repairs → Type 0 = λ o. AreFirst s o in
    let first : AreFirst s (Some c.in-Ok-Some.first) = subst F c.in-Ok-Some.field-0-is c.in-Ok-Some.ensures in
    inr (some_is_not_stuck s c.in-Ok-Some.first first, c.mend_from.ensures.after)
