use Rattle.std.proofs.Common.{◌≡◌, ℕ, ◌≤◌, true, ◌⊎◌, sym, ap, subst}
use Rattle.std.specs.Prelude.{All}
use Rattle.std.proofs.lemmas.List.Elements.{All-more}
use Rattle.pl_plan.specs.declared.activity.Activity.{Activity}
use Rattle.pl_machine.specs.Calm.{is_settled}
use Rattle.pl_machine.proofs.Places.{first_each, none_fails}
use Rattle.pl_machine.proofs.unsettled.first_open.Goals as goal

pub returns-then-not-is_settled-clause-each : goal.returns-then-not-is_settled-clause-each
returns-then-not-is_settled-clause-each c =
    let p = c.args.period in
    let xs = c.args.activities.now in
    subst (λ (n : ℕ). All (λ (a : Activity). (is_settled p.moment p.committed a ≡ true) ⊎ (n ≤ a.id)) xs) (sym (ap (λ (a : Activity). a.id) c.activity-item.is))
    (first_each (λ (a : Activity). is_settled p.moment p.committed a ≡ true) xs c.loop-activity.activity-index c.activity-item.result c.requires.rising c.loop-activity-test.true c.loop-activity.invariant)

pub loop-activity-preserved : goal.loop-activity-preserved
loop-activity-preserved c =
    let p = c.args.period in
    let P : Activity → Type 0 = λ a. is_settled p.moment p.committed a ≡ true in
    All-more P c.args.activities.now c.loop-activity.activity-index c.activity-item.result c.loop-activity-test.true c.loop-activity.invariant (subst P c.activity-item.is (sym c.if-not-is_settled.ensures))

pub returns-clause-each : goal.returns-clause-each
returns-clause-each c = none_fails (λ (a : Activity). is_settled c.args.period.moment c.args.period.committed a ≡ true) c.args.activities.now c.loop-activity.activity-index c.args.next_id c.loop-activity-test.false c.loop-activity.invariant
