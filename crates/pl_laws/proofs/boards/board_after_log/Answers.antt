use Rattle.std.proofs.Common.{◌≡◌, ◌∙◌, false, sym, ap, subst, rules}
use Rattle.std.proofs.lemmas.Int.{to_z-of_z}
use mir.Syntax.{w64}
use mir.Val.{SFits}
use Rattle.pl_semantics.specs.declared.plan_state.PlanState.{PlanState}
use Rattle.pl_semantics.specs.Conflicts.{conflicts_of}
use Rattle.pl_board.specs.Boards.{Standing}
use Rattle.pl_laws.specs.Laws.{state_of}
use Rattle.pl_laws.specs.Recomputed.{value_at, IsAhead}
use Rattle.pl_laws.proofs.AfterLogs.{board_state}
use Rattle.pl_laws.proofs.boards.board_after_log.Goals as goal

pub value_at-requires-clause-ahead : goal.value_at-requires-clause-ahead
value_at-requires-clause-ahead c =
    let is = board_state c.args.machine.now c.board-board.result.now (c.log-log.ensures.history c.requires.unspoiled) c.board-board.ensures in
    subst (λ (s : PlanState). IsAhead s c.args.line c.args.t) (sym is) c.requires.ahead

pub returns-clause-conflicts : goal.returns-clause-conflicts
returns-clause-conflicts c =
    let is = board_state c.args.machine.now c.board-board.result.now (c.log-log.ensures.history c.requires.unspoiled) c.board-board.ensures in
    let unspoiled : c.board-board.result.now.spoiled ≡ false = ap (λ (b : Standing). b.spoiled) c.board-board.ensures ∙ c.requires.unspoiled in
    c.conflicts.ensures unspoiled ∙ ap conflicts_of is

pub returns-clause-value : goal.returns-clause-value
returns-clause-value c =
    let is = board_state c.args.machine.now c.board-board.result.now (c.log-log.ensures.history c.requires.unspoiled) c.board-board.ensures in
    let value : c.value_at.result ≡ value_at (state_of c.args.machine.now.model c.args.machine.now.log) c.args.line c.args.t =
    c.value_at.ensures ∙ ap (λ (s : PlanState). value_at s c.args.line c.args.t) is in
    let fits : SFits w64 c.value_at.result = search rules in
    to_z-of_z w64 c.value_at.result fits ∙ value
