use Rattle.std.proofs.Common.{◌≡◌, ◌<◌, ◌+◌, ◌-◌, ◌∙◌, ap, sym, subst, arith, List, ℕ, length, take, drop, Some}
use Rattle.std.specs.Prelude.{slice_get, All}
use Rattle.std.proofs.lemmas.List.{take_rest}
use Rattle.std.proofs.lemmas.List.Elements.{All-drop}
use Rattle.pl_plan.specs.State.{PlanValue}
use Rattle.pl_plan.specs.Latest.{Notes, IsNoted, AreNoted}
use Rattle.pl_plan.specs.declared.activity.Activity.{Activity}
use Rattle.pl_plan.specs.Activities.{AreRising}
use Rattle.pl_plan.proofs.Noting.{all_early, rises_behind}
use Rattle.pl_plan.proofs.plan.Plan.pass_early.Goals as goal

pub count_before-requires : goal.count_before-requires
count_before-requires c =
    let xs : List Activity = c.deref.result.now in
    let rising : AreRising xs = subst AreRising (sym c.deref.ensures.value) c.self.invariant.0.rising in
    subst AreRising (sym (take_rest xs c.args.from)) (rises_behind c.args.from 0 xs rising)

pub returns-in-Some-clause-early : goal.returns-in-Some-clause-early
returns-in-Some-clause-early c =
    let xs : List Activity = c.deref.result.now in
    let ys : List Activity = take (length xs - c.args.from) (drop c.args.from xs) in
    let n : ℕ = c.count_before.result in
    let m : Notes = c.self.inside.latest in
    let here : slice_get ys 0 ≡ Some c.in-Some.first.now = sym c.in-Some.ensures.value in
    let noted : AreNoted ys m = subst (λ (l : List Activity). AreNoted l m) (sym (take_rest xs c.args.from)) (All-drop (IsNoted m) c.args.from xs (subst (λ (l : List Activity). AreNoted l m) (sym c.deref.ensures.value) c.self.invariant.3)) in
    let early : All (λ a. a.start < c.args.moment) (take n ys) = all_early m c.group_of.result c.first_late-group.result c.args.moment c.in-Some.first.now ys n (count_before-requires c.before) here c.group_of.ensures noted c.first_late-group.ensures.passed c.count_before.ensures.before in
    let same : ys ≡ drop c.args.from c.args.self.now.activities = take_rest xs c.args.from ∙ ap (drop c.args.from) (c.deref.ensures.value ∙ ap (λ (p : PlanValue). p.activities) c.self.view_is) in
    let count : n ≡ c.args.from + n - c.args.from = omega arith in
    subst (λ (k : ℕ). All (λ (a : Activity). a.start < c.args.moment) (take k (drop c.args.from c.args.self.now.activities))) count (subst (λ (l : List Activity). All (λ (a : Activity). a.start < c.args.moment) (take n l)) same early)
