use Rattle.std.proofs.Common.{◌∙◌, ap, sym}
use Rattle.pl_plan.specs.declared.evaluated.Evaluated.{Evaluated}
use Rattle.pl_semantics.specs.declared.plan_state.PlanState.{PlanState}
use Rattle.pl_semantics.specs.PlanStates.{amounts_at, end_at}
use Rattle.pl_update.proofs.AboutEvaluations.Reading.{kept_is, none_kept}
use Rattle.pl_bounds.proofs.asking.add_asked.Goals as goal

pub demands_with-requires-clause-amounts : goal.demands_with-requires-clause-amounts
demands_with-requires-clause-amounts c =
    let s = c.args.board.now.state in
    let a = c.args.a.now in
    ap (λ (e : Evaluated). e.amounts) (kept_is s.model s.plan.activities a c.requires.live c.in-Some.evaluated.now c.in-Some.ensures) ∙ ap (λ (t : PlanState). amounts_at t a) (sym c.state-s.ensures.value)

pub demands_with-requires-clause-end : goal.demands_with-requires-clause-end
demands_with-requires-clause-end c =
    let s = c.args.board.now.state in
    let a = c.args.a.now in
    ap (λ (e : Evaluated). e.end) (kept_is s.model s.plan.activities a c.requires.live c.in-Some.evaluated.now c.in-Some.ensures) ∙ ap (λ (t : PlanState). end_at t a) (sym c.state-s.ensures.value)

pub unreachable-requires : goal.unreachable-requires
unreachable-requires c = let s = c.args.board.now.state in none_kept s.model s.plan.activities c.args.a.now c.requires.live c.in-None.ensures
