use Rattle.std.proofs.Common.{◌≡◌, subst, sym}
use Rattle.std.specs.Prelude.{All, Some}
use Rattle.pl_plan.specs.declared.activity.Activity.{Activity}
use Rattle.pl_plan.specs.Activities.{activity_of}
use Rattle.pl_semantics.specs.declared.plan_state.PlanState.{PlanState}
use Rattle.pl_semantics.specs.Whole.{IsWhole}
use Rattle.pl_update.proofs.AboutChanges.Keeping.{whole_replaced}
use Rattle.pl_update.proofs.AboutEvaluations.Coming.{live_after}
use Rattle.pl_update.proofs.evaluations.replacement.replace_anew.Goals as goal

pub replace-requires-clause-whole : goal.replace-requires-clause-whole
replace-requires-clause-whole c = subst IsWhole (sym c.in_ok-replace_activities.ensures.ok) (whole_replaced c.args.s.now c.args.gone.now c.args.placed.now c.requires.whole c.requires.can)

pub replace-requires-clause-live : goal.replace-requires-clause-live
replace-requires-clause-live c =
    subst (λ (u : PlanState). All (λ (a : Activity). activity_of a.id u.plan.activities ≡ Some a) c.args.placed.now) (sym c.in_ok-replace_activities.ensures.ok)
    (live_after c.args.s.now c.args.gone.now c.args.placed.now c.requires.whole c.requires.can)

pub returns-clause-values : goal.returns-clause-values
returns-clause-values c = c.in_ok-replace.ensures c.args.s.now c.requires.whole c.requires.can c.in_ok-replace_activities.ensures.ok c.requires.values
