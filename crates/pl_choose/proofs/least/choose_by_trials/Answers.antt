use Rattle.std.proofs.Common.{◌≡◌, List, Option, Some, ap, sym, subst, ◌∙◌}
use Rattle.std.specs.Prelude.{All}
use Rattle.std.proofs.lemmas.Result.{IfOk-weaker}
use Rattle.pl_plan.specs.declared.repair.RepairMove.{RepairMove}
use Rattle.pl_board.specs.Boards.{Standing}
use Rattle.pl_cand.specs.declared.proposal.Proposal.{Proposal}
use Rattle.pl_cand.specs.Proposals.{IsProposal}
use Rattle.pl_choose.specs.Found.{IsAllowed}
use Rattle.pl_choose.specs.Picks.{proposal, least_pick}
use Rattle.pl_choose.proofs.Proposing.{all_allowed, least_is_proposal, picks_least, picks_none}
use Rattle.pl_choose.proofs.Remembered.{chosen_if_told}
use Rattle.pl_choose.proofs.least.choose_by_trials.Goals as goal

pub fewest-requires-clause-allowed : goal.fewest-requires-clause-allowed
fewest-requires-clause-allowed c = rw (c.as_slice-moves.ensures.value, c.requires.first.1) (all_allowed c.args.board.now.state c.args.repairs.now.conflict)

pub make_if_mending-requires-clause-legal : goal.make_if_mending-requires-clause-legal
make_if_mending-requires-clause-legal c =
    let s = c.args.board.now.state in
    let P : Option Proposal → Type 0 = λ p. IsProposal s p in
    let found = rw (c.in-Some-Found.is, c.in-Some-Found.field-0-is, c.as_slice-moves.ensures.value) at c.in_ok-mv.ensures.fewest in
    let is : Some (proposal c.args.repairs.now.conflict c.in-Some-Found.mv) ≡ least_pick s = picks_least s c.args.repairs.now c.in-Some-Found.mv c.requires.first found.0 in
    rw (c.remember_found.ensures, found.1) (subst P (sym is) (least_is_proposal s))

pub returns-in-Some-Made-clause-picks : goal.returns-in-Some-Made-clause-picks
returns-in-Some-Made-clause-picks c =
    let made = rw (c.in-Some-Made.is, c.in-Some-Made.field-0-is, c.as_slice-moves.ensures.value) at c.in_ok-mv.ensures.fewest in
    picks_least c.args.board.now.state c.args.repairs.now c.in-Some-Made.mv c.requires.first made.1

pub returns-in-Some-Found-clause-picks : goal.returns-in-Some-Found-clause-picks
returns-in-Some-Found-clause-picks c =
    let s = c.args.board.now.state in
    let found = rw (c.in-Some-Found.is, c.in-Some-Found.field-0-is, c.as_slice-moves.ensures.value) at c.in_ok-mv.ensures.fewest in
    let is : Some (proposal c.args.repairs.now.conflict c.in-Some-Found.mv) ≡ least_pick s = picks_least s c.args.repairs.now c.in-Some-Found.mv c.requires.first found.0 in
    let P : Option Proposal → Type 0 = λ p. p ≡ Some (proposal c.args.repairs.now.conflict c.in-Some-Found.mv) in
    let Q : Option Proposal → Type 0 = λ p. p ≡ least_pick s in
    IfOk-weaker c.make_if_mending.result P Q (λ p e. e ∙ is) c.make_if_mending.ensures.told

pub returns-in-None-clause-picks : goal.returns-in-None-clause-picks
returns-in-None-clause-picks c =
    let none = rw (c.in-None.is, c.as_slice-moves.ensures.value) at c.in_ok-mv.ensures.fewest in
    picks_none c.args.board.now.state c.args.repairs.now c.requires.first none.0

pub remember_made-requires-clause-chosen : goal.remember_made-requires-clause-chosen
remember_made-requires-clause-chosen c =
    let s = c.args.board.now.state in
    let made = rw (c.in-Some-Made.is, c.in-Some-Made.field-0-is, c.as_slice-moves.ensures.value) at c.in_ok-mv.ensures.fewest in
    rw c.as_slice-moves.ensures.value (chosen_if_told s c.args.repairs.now.moves.items c.in-Some-Made.mv c.in-Some-Made.told c.fewest.new.board.state (subst (λ (ms : List RepairMove). All (IsAllowed s) ms) (sym c.requires.first.1) (all_allowed s c.args.repairs.now.conflict)) made.1 (ap (λ (b : Standing). b.state) made.2) made.3)

pub remember_found-requires-clause-allowed : goal.remember_found-requires-clause-allowed
remember_found-requires-clause-allowed c =
    let found = rw (c.in-Some-Found.is, c.in-Some-Found.field-0-is) at c.in_ok-mv.ensures.fewest in
    rw (found.1, c.as_slice-moves.ensures.value, c.requires.first.1) (all_allowed c.args.board.now.state c.args.repairs.now.conflict)

pub remember_found-requires-clause-best : goal.remember_found-requires-clause-best
remember_found-requires-clause-best c =
    let found = rw (c.in-Some-Found.is, c.in-Some-Found.field-0-is) at c.in_ok-mv.ensures.fewest in
    rw found.1 found.0

pub remember_made-requires-clause-unspoiled : goal.remember_made-requires-clause-unspoiled
remember_made-requires-clause-unspoiled c =
    let made = rw (c.in-Some-Made.is, c.in-Some-Made.field-0-is) at c.in_ok-mv.ensures.fewest in
    ap (λ (b : Standing). b.spoiled) made.2

pub remember_found-requires-clause-unspoiled : goal.remember_found-requires-clause-unspoiled
remember_found-requires-clause-unspoiled c =
    let found = rw (c.in-Some-Found.is, c.in-Some-Found.field-0-is) at c.in_ok-mv.ensures.fewest in
    rw found.1 c.requires.unspoiled

pub returns-in-Some-Made-clause-board : goal.returns-in-Some-Made-clause-board
returns-in-Some-Made-clause-board c =
    let made = rw (c.in-Some-Made.is, c.in-Some-Made.field-0-is) at c.in_ok-mv.ensures.fewest in
    rw made.0 (c.remember_made.ensures ∙ made.2)

pub returns-in-Some-Found-clause-board : goal.returns-in-Some-Found-clause-board
returns-in-Some-Found-clause-board c =
    let found = rw (c.in-Some-Found.is, c.in-Some-Found.field-0-is) at c.in_ok-mv.ensures.fewest in
    rw (c.remember_found.ensures, found.1) at c.make_if_mending.ensures.board
