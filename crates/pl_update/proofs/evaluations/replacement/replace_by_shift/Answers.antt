use Rattle.std.proofs.Common.{subst, sym}
use Rattle.pl_semantics.specs.declared.plan_state.PlanState.{PlanState}
use Rattle.pl_update.specs.Evaluations.Kept.{AreOf}
use Rattle.pl_update.proofs.evaluations.replacement.replace_by_shift.Goals as goal

pub returns-clause-values : goal.returns-clause-values
returns-clause-values c =
    subst (λ (u : PlanState). AreOf u c.shift.new.self) (sym c.in_ok-replace_activities.ensures.ok)
    (c.shift.ensures c.args.gone.now c.requires.whole c.requires.can c.requires.shift c.requires.values)
