use Rattle.std.proofs.Common.{◌≡◌, List, Some, ap, sym, ◌∙◌, subst, get_or, set}
use Rattle.pl_plan.specs.declared.activity.Activity.{Activity}
use Rattle.pl_plan.specs.Activities.{AreRising, activity_of, ended, with_end}
use Rattle.pl_plan.proofs.Ends.{found_id, end_exchanged}
use Rattle.pl_plan.specs.Latest.{AreNoted}
use Rattle.pl_plan.proofs.Keeping.{kept_ended}
use Rattle.pl_plan.proofs.Noting.{noted_ended}
use Rattle.pl_plan.proofs.plan.Plan.set_end.Goals as goal

same : (c : goal.After-self-1) → c.self.inside.activities.items ≡ c.args.self.now.activities
same c = ap (λ s. s.activities) c.self.view_is

here : (c : goal.After-self-1) → activity_of c.args.id c.args.self.now.activities ≡ Some c.index_mut.result.now
here c =
    let a = c.index_mut.result.now in
    c.place-at.ensures.here a ∙ sym (ap Some (c.index_mut.ensures.value ∙ ap (λ l. get_or l c.place-at.result a) (same c)))

is : (c : goal.After-self-1) → set c.self.inside.activities.items c.place-at.result (ended c.args.moment c.index_mut.result.now) ≡ with_end c.args.id c.args.moment c.args.self.now.activities
is c =
    let xs = c.args.self.now.activities in
    let a = ended c.args.moment c.index_mut.result.now in
    let rising : AreRising xs = subst (λ (l : List Activity). AreRising l) (same c) c.self.invariant.0.rising in
    ap (λ l. set l c.place-at.result a) (same c)
    ∙ (sym (c.place-at.ensures.changed a (found_id c.args.id xs c.index_mut.result.now (here c))) ∙ sym (end_exchanged c.args.id c.args.moment xs 0 c.index_mut.result.now rising (here c)))

pub invariant_of-self : goal.invariant_of-self
invariant_of-self c =
    let k = kept_ended c.self.inside.activities.items c.args.self.now.activities _ c.self.inside.families.children c.self.inside.families.servers c.self.inside.counts c.args.id c.args.moment c.index_mut.result.now (same c) (is c) (c.self.invariant.0, c.self.invariant.1, c.self.invariant.2) (here c) in
    let old = c.self.inside.latest in
    (k.0, k.1, k.2, subst (λ (l : List Activity). AreNoted l old) (sym (is c)) (noted_ended old c.args.id c.args.moment c.args.self.now.activities (subst (λ (l : List Activity). AreNoted l old) (same c) c.self.invariant.3)))

pub returns : goal.returns
returns c = is c
