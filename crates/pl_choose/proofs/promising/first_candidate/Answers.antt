use Rattle.std.proofs.Common.{◌≡◌, false, sym, subst, ◌∙◌}
use Rattle.pl_semantics.specs.declared.plan_state.PlanState.{PlanState}
use Rattle.pl_semantics.specs.Candidates.{changes_nothing, tried_for}
use Rattle.pl_choose.specs.Promising.{IsForemost}
use Rattle.pl_choose.proofs.Promise.{candidate_foremost}
use Rattle.pl_choose.proofs.promising.first_candidate.Goals as goal

pub returns-then-proper-clause-foremost : goal.returns-then-proper-clause-foremost
returns-then-proper-clause-foremost c =
    let k = c.args.k.now in
    let m = c.in_ok-mv.mv in
    let tried = subst (λ (s : PlanState). IsForemost s m (tried_for s k k.code)) c.state.ensures.value c.in_ok-mv.ensures.foremost in
    let changes = subst (λ (s : PlanState). changes_nothing s m ≡ false) c.state.ensures.value c.in_ok-mv.ensures.changes in
    candidate_foremost c.args.board.now.state k m tried changes (sym c.proper.ensures ∙ c.if-proper.true)
