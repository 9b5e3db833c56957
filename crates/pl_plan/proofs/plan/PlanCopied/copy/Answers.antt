use Rattle.std.proofs.Common.{◌≡◌, List, ap, ◌∙◌, add-one}
use Rattle.std.proofs.lemmas.List.{take_all}
use Rattle.pl_plan.specs.declared.activity.Activity.{Activity}
use Rattle.pl_plan.specs.State.{PlanValue}
use Rattle.pl_plan.specs.Activities.{AreRising}
use Rattle.pl_plan.proofs.Ids.{next_absent, next_placed}
use Rattle.pl_plan.proofs.plan.PlanCopied.copy.Goals as goal

abbrev plan_of : List Activity → PlanValue
plan_of l = record { activities = l }

pub put-requires : goal.put-requires
put-requires c =
    let xs = c.deref-activity-items.result.now in
    let rising : AreRising xs = rw c.deref-activity-items.ensures.value c.self.invariant.0.rising in
    let none = next_absent xs 0 c.loop-activity.activity-index c.activity-item.result rising c.loop-activity-test.true in
    rw (c.in_ok-copy.ensures, c.loop-activity.invariant, c.activity-item.is) none

pub loop-activity-preserved : goal.loop-activity-preserved
loop-activity-preserved c =
    let xs = c.deref-activity-items.result.now in
    let rising : AreRising xs = rw c.deref-activity-items.ensures.value c.self.invariant.0.rising in
    c.in_ok-put.ensures.ok ∙ (rw (c.in_ok-copy.ensures, c.loop-activity.invariant, c.activity-item.is, add-one) (next_placed xs 0 c.loop-activity.activity-index c.activity-item.result rising c.loop-activity-test.true))

pub returns : goal.returns
returns c =
    let xs = c.deref-activity-items.result.now in
    let all : c.loop-activity.plan.activities ≡ c.self.inside.activities.items = c.loop-activity.invariant ∙ (take_all c.loop-activity.activity-index xs c.loop-activity-test.false ∙ c.deref-activity-items.ensures.value) in
    ap (λ (l : List Activity). plan_of l) all ∙ c.self.view_is
