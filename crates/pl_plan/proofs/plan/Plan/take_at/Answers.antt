use Rattle.std.proofs.Common.{◌≡◌, Some, ap, sym, ◌∙◌, get_or, List, subst}
use Rattle.std.specs.List.{remove}
use Rattle.pl_plan.specs.Activities.{without, activity_of}
use Rattle.pl_plan.specs.declared.activity.Activity.{Activity}
use Rattle.pl_plan.specs.Counts.{AreCounted, Raises, MayFall}
use Rattle.pl_plan.specs.Latest.{AreNoted}
use Rattle.pl_plan.proofs.Keeping.{kept_without}
use Rattle.pl_plan.proofs.Noting.{noted_without}
use Rattle.pl_plan.proofs.Counting.{may_fall}
use Rattle.pl_plan.proofs.plan.Plan.take_at.Goals as goal

here : (c : goal.After-served_goal) → activity_of c.args.id c.args.self.now.activities ≡ Some c.remove-a.result
here c =
    let same = ap (λ s. get_or s.activities c.args.at c.remove-a.result) c.self.view_is in
    c.requires.here c.remove-a.result ∙ sym (ap Some (c.remove-a.ensures.value ∙ same))

is : (c : goal.After-served_goal) → c.remove-a.new.self.items ≡ without c.args.id c.args.self.now.activities
is c = c.remove-a.ensures.items ∙ (ap (λ s. remove s.activities c.args.at) c.self.view_is ∙ sym c.requires.taken)

counted : (c : goal.After-served_goal) → AreCounted c.args.self.now.activities c.self.inside.counts
counted c = subst (λ (l : List Activity). AreCounted l c.self.inside.counts) (ap (λ s. s.activities) c.self.view_is) c.self.invariant.2

named : (c : goal.After-served_goal) → c.remove-a.result.id ≡ c.args.id
named c =
    let named = ap (λ s. (get_or s.activities c.args.at c.remove-a.result).id) c.self.view_is in
    ap (λ a. a.id) c.remove-a.ensures.value ∙ (named ∙ c.requires.is c.remove-a.result)

pub lower-requires : goal.lower-requires
lower-requires c =
    let may = may_fall c.remove-a.result c.args.self.now.activities c.self.inside.counts (ap (λ n. activity_of n c.args.self.now.activities) (named c) ∙ here c) (counted c) in
    subst (λ o. MayFall o c.self.inside.counts) (sym c.served_goal.ensures) may

pub invariant_of-self : goal.invariant_of-self
invariant_of-self c =
    let same = ap (λ s. s.activities) c.self.view_is in
    let id = named c.before in
    let k = kept_without c.self.inside.activities.items c.args.self.now.activities c.remove-a.new.self.items c.self.inside.families.children c.self.inside.families.servers c.leave.new.self.children c.leave.new.self.servers c.self.inside.counts c.lower.new.self c.remove-a.result same
    (is c.before ∙ ap (λ n. without n c.args.self.now.activities) (sym id)) (c.self.invariant.0, c.self.invariant.1, c.self.invariant.2) (ap (λ n. activity_of n c.args.self.now.activities) id ∙ here c.before) c.leave.ensures.children c.leave.ensures.servers (subst (λ o. Raises o c.lower.new.self c.self.inside.counts) c.served_goal.ensures c.lower.ensures) in
    let old = c.self.inside.latest in
    (k.0, k.1, k.2, subst (λ (l : List Activity). AreNoted l old) (sym (is c.before)) (noted_without old c.args.id c.args.self.now.activities (subst (λ (l : List Activity). AreNoted l old) same c.self.invariant.3)))

pub returns-clause-value : goal.returns-clause-value
returns-clause-value c = here c.before

pub returns-clause-after : goal.returns-clause-after
returns-clause-after c = is c.before
