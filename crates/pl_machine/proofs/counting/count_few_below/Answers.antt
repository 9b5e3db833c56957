use Rattle.std.proofs.Common.{◌<◌, ◌≤◌, subst, arith}
use Rattle.std.proofs.lemmas.List.Elements.{All-more}
use Rattle.pl_plan.specs.declared.activity.Activity.{Activity}
use Rattle.pl_machine.proofs.Places.{rest_above, below_all}
use Rattle.pl_machine.proofs.counting.count_few_below.Goals as goal

pub returns-then-id-activity : goal.returns-then-id-activity
returns-then-id-activity c =
    let lt = c.loop-place-test.true in
    record {
      few = omega (arith, lt);
      front = c.loop-place.invariant;
      rest = rest_above c.args.activities.now 0 c.loop-place.place c.args.id c.index-activities-place.result c.requires lt (subst (λ (a : Activity). c.args.id ≤ a.id) c.index-activities-place.is c.if-id-activity.true);
    }

pub loop-place-preserved : goal.loop-place-preserved
loop-place-preserved c =
    All-more (λ (a : Activity). a.id < c.args.id) c.args.activities.now c.loop-place.place c.index-activities-place.result c.loop-place-test.true c.loop-place.invariant
    (subst (λ (a : Activity). a.id < c.args.id) c.index-activities-place.is c.if-id-activity.false)

pub returns : goal.returns
returns c = below_all c.args.id c.loop-place.place c.args.activities.now c.loop-place-test.false c.loop-place.invariant
