use Rattle.std.proofs.Common.{◌≡◌, ◌<◌, ◌≤◌, arith, List, ap, sym, refl, rules, subst}
use Rattle.pl_plan.specs.declared.activity.Activity.{Activity}
use Rattle.pl_plan.specs.Activities.{placed}
use Rattle.pl_plan.specs.Counts.{Raises}
use Rattle.pl_plan.specs.Latest.{group_of, HasNote, IsNoted, AreNoted, latest_in}
use Rattle.pl_plan.proofs.Counting.{may_rise}
use Rattle.pl_plan.proofs.Keeping.{kept_placed, kept_grown}
use Rattle.pl_plan.proofs.Noting.{noted_later, noted_same, noted_placed}
use Rattle.pl_plan.proofs.plan.Plan.put_at.Goals as goal

pub invariant_of-self-in_err-make_place : goal.invariant_of-self-in_err-make_place
invariant_of-self-in_err-make_place c =
    let f = c.self.inside.families in
    let xs = c.self.inside.activities.items in
    let k = kept_grown xs c.reserve.new.self.items f.children f.servers c.self.inside.counts c.make_place.new.self c.reserve.ensures.items (c.self.invariant.0, c.self.invariant.1, c.self.invariant.2) c.make_place.ensures.same in
    (k.0, k.1, k.2, subst (λ (l : List Activity). AreNoted l c.self.inside.latest) (sym c.reserve.ensures.items) c.self.invariant.3)

pub invariant_of-self-in_err-make_note : goal.invariant_of-self-in_err-make_note
invariant_of-self-in_err-make_note c =
    let f = c.self.inside.families in
    let xs = c.self.inside.activities.items in
    let k = kept_grown xs c.reserve.new.self.items f.children f.servers c.self.inside.counts c.make_place.new.self c.reserve.ensures.items (c.self.invariant.0, c.self.invariant.1, c.self.invariant.2) c.make_place.ensures.same in
    (k.0, k.1, k.2, subst (λ (l : List Activity). AreNoted l c.make_note.new.self) (sym c.reserve.ensures.items) (noted_same c.self.inside.latest c.make_note.new.self xs c.make_note.ensures.longer c.make_note.ensures.fewer c.make_note.ensures.same c.self.invariant.3))

pub invariant_of-self-in_err-enter : goal.invariant_of-self-in_err-enter
invariant_of-self-in_err-enter c =
    let f = c.self.inside.families in
    let xs = c.self.inside.activities.items in
    let k = kept_grown xs c.reserve.new.self.items f.children f.servers c.self.inside.counts c.make_place.new.self c.reserve.ensures.items (c.self.invariant.0, c.self.invariant.1, c.self.invariant.2) c.make_place.ensures.same in
    rw c.in_err-enter.ensures.err (k.0, k.1, k.2, subst (λ (l : List Activity). AreNoted l c.make_note.new.self) (sym c.reserve.ensures.items) (noted_same c.self.inside.latest c.make_note.new.self xs c.make_note.ensures.longer c.make_note.ensures.fewer c.make_note.ensures.same c.self.invariant.3))

pub raise-requires-clause-small : goal.raise-requires-clause-small
raise-requires-clause-small c =
    let f = c.self.inside.families in
    let same = ap (λ s. s.activities) c.self.view_is in
    let kept = kept_grown c.self.inside.activities.items c.args.self.now.activities f.children f.servers c.self.inside.counts c.make_place.new.self (sym same) (c.self.invariant.0, c.self.invariant.1, c.self.invariant.2) c.make_place.ensures.same in
    may_rise c.served_goal-goal.result c.args.self.now.activities c.make_place.new.self c.requires.few kept.2

pub invariant_of-self-2 : goal.invariant_of-self-2
invariant_of-self-2 c =
    let xs = c.args.self.now.activities in
    let same : c.self.inside.activities.items ≡ xs = ap (λ s. s.activities) c.self.view_is in
    let is : c.insert.new.self.items ≡ placed c.args.a xs = search rules in
    let f = c.self.inside.families in
    let kept = kept_grown c.self.inside.activities.items c.self.inside.activities.items f.children f.servers c.self.inside.counts c.make_place.new.self refl (c.self.invariant.0, c.self.invariant.1, c.self.invariant.2) c.make_place.ensures.same in
    let k = kept_placed c.self.inside.activities.items xs c.insert.new.self.items f.children f.servers c.enter.new.self.children c.enter.new.self.servers c.make_place.new.self c.raise.new.self c.args.a same is kept c.requires.few c.requires.gap.none c.in_ok-enter.ensures.children c.in_ok-enter.ensures.servers (subst (λ o. Raises o c.make_place.new.self c.raise.new.self) c.served_goal-goal.ensures c.raise.ensures) in
    let old = c.make_note.new.self in
    let new = c.note.new.self in
    let before : AreNoted xs old = noted_same c.self.inside.latest old xs c.make_note.ensures.longer c.make_note.ensures.fewer c.make_note.ensures.same (subst (λ (l : List Activity). AreNoted l c.self.inside.latest) same c.self.invariant.3) in
    let group = c.group_of-group.ensures in
    let noted : IsNoted new c.args.a = record {
      there = λ few. let noted : group_of c.args.a.id < old.limit = omega (arith, few, c.note.ensures.limit) in omega (arith, subst (λ n. HasNote n old) group c.in_ok-make_note.ensures.place noted, c.note.ensures.length);
      by = λ few. subst (λ n. n < old.limit → c.args.a.start ≤ latest_in n new) group c.note.ensures.noted (omega (arith, few, c.note.ensures.limit));
    } in
    (k.0, k.1, k.2, subst (λ (l : List Activity). AreNoted l new) (sym is) (noted_placed new c.args.a xs (noted_later old new xs (omega (arith, c.note.ensures.length)) (omega (arith, c.note.ensures.limit)) c.note.ensures.later before) noted))
