use Rattle.std.proofs.Common.{◌≡◌, List, Option, IfOk, sym, subst, ap, ◌∙◌}
use Rattle.std.specs.Prelude.{option_and_then}
use Rattle.pl_conflict.specs.declared.conflict.Conflict.{Conflict}
use Rattle.pl_semantics.specs.Legal.{repairable}
use Rattle.pl_cand.specs.declared.proposal.Proposal.{Proposal}
use Rattle.pl_choose.specs.Picks.{picked_by, picked_for, random_pick}
use Rattle.pl_choose.proofs.picking.pick.Goals as goal

pub returns-in-Some : goal.returns-in-Some
unfolding random_pick
returns-in-Some c =
    let s = c.args.board.now.state in
    let picked : Option Conflict = c.picked_by.result in
    let P : List Conflict → Type 0 = λ ks. picked ≡ picked_by c.args.word ks in
    let is : picked ≡ picked_by c.args.word (repairable s) = subst P (c.as_slice.ensures.value ∙ c.in_ok-conflicts.ensures) c.picked_by.ensures in
    let Q : Option Proposal → Type 0 = λ q. IfOk c.pick_repair.result (λ p. p ≡ q) in
    subst Q (sym (ap (option_and_then (picked_for s c.args.other)) (sym is ∙ c.in-Some.is))) c.pick_repair.ensures

pub returns : goal.returns
unfolding random_pick
returns c =
    let s = c.args.board.now.state in
    let picked : Option Conflict = c.picked_by.result in
    let P : List Conflict → Type 0 = λ ks. picked ≡ picked_by c.args.word ks in
    let is : picked ≡ picked_by c.args.word (repairable s) = subst P (c.as_slice.ensures.value ∙ c.in_ok-conflicts.ensures) c.picked_by.ensures in
    sym (ap (option_and_then (picked_for s c.args.other)) (sym is ∙ c.in-None.is))
