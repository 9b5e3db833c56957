use Rattle.std.proofs.Common.{◌≡◌, ◌<◌, ◌≤◌, arith, List, ap, sym, ◌∙◌, refl, set, subst}
use Rattle.pl_plan.specs.declared.activity.Activity.{Activity}
use Rattle.pl_plan.specs.Activities.{exchanged}
use Rattle.pl_plan.specs.Latest.{group_of, latest_in, HasNote, IsNoted, AreNoted}
use Rattle.pl_plan.proofs.Keeping.{kept_exchanged}
use Rattle.pl_plan.proofs.Noting.{noted_later, noted_exchanged, noted_live}
use Rattle.pl_plan.proofs.plan.Plan.exchange.Goals as goal

pub note-requires : goal.note-requires
note-requires c =
    let xs = c.args.self.now.activities in
    let same : c.self.inside.activities.items ≡ xs = ap (λ s. s.activities) c.self.view_is in
    let noted = subst (λ (l : List Activity). AreNoted l c.self.inside.latest) same c.self.invariant.3 in
    subst (λ n. HasNote n c.self.inside.latest) (sym c.group_of-group.ensures) (noted_live c.self.inside.latest c.args.a.id xs noted c.requires.live)

pub invariant_of-self : goal.invariant_of-self
invariant_of-self c =
    let xs = c.args.self.now.activities in
    let same : c.self.inside.activities.items ≡ xs = ap (λ s. s.activities) c.self.view_is in
    let is : set c.self.inside.activities.items c.place-at.result c.replace.new.dest ≡ exchanged c.args.a xs =
    ap (λ l. set l c.place-at.result c.replace.new.dest) same ∙ (ap (set xs c.place-at.result) c.replace.ensures.after ∙ sym (c.place-at.ensures.changed c.args.a refl)) in
    let k = kept_exchanged c.self.inside.activities.items xs _ c.self.inside.families.children c.self.inside.families.servers c.self.inside.counts c.args.a same is (c.self.invariant.0, c.self.invariant.1, c.self.invariant.2) c.requires.place in
    let old = c.self.inside.latest in
    let new = c.note.new.self in
    let before = subst (λ (l : List Activity). AreNoted l old) same c.self.invariant.3 in
    let place = noted_live old c.args.a.id xs before c.requires.live in
    let noted : IsNoted new c.args.a = record {
      there = λ few. let noted : group_of c.args.a.id < old.limit = omega (arith, few, c.note.ensures.limit) in omega (arith, place noted, c.note.ensures.length);
      by = λ few. subst (λ n. n < old.limit → c.args.a.start ≤ latest_in n new) c.group_of-group.ensures c.note.ensures.noted (omega (arith, few, c.note.ensures.limit));
    } in
    (k.0, k.1, k.2, subst (λ (l : List Activity). AreNoted l new) (sym is) (noted_exchanged new c.args.a xs (noted_later old new xs (omega (arith, c.note.ensures.length)) (omega (arith, c.note.ensures.limit)) c.note.ensures.later before) noted))
