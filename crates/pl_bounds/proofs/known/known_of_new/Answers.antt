use Rattle.std.proofs.Common.{[], ◌∷◌, Option, ap, ◌∙◌, sym, subst, refl}
use Rattle.std.specs.Prelude.{IsSome}
use Rattle.pl_plan.specs.declared.activity.Activity.{Activity}
use Rattle.pl_plan.specs.Activities.{IsLive}
use Rattle.pl_semantics.specs.declared.plan_state.PlanState.{PlanState}
use Rattle.pl_semantics.specs.Demands.{demands_of}
use Rattle.pl_semantics.specs.Moves.{root_for}
use Rattle.pl_semantics.specs.Whole.{IsWhole}
use Rattle.pl_bounds.specs.Askings.{without_goal}
use Rattle.pl_bounds.specs.Ties.{root_in}
use Rattle.pl_bounds.proofs.Adding.{itself, whole_alone}
use Rattle.pl_bounds.proofs.Knowing.{known_new}
use Rattle.pl_bounds.proofs.known.known_of_new.Goals as goal

pub added-requires : goal.added-requires
added-requires c = subst (λ (t : PlanState). IsWhole t) (sym c.in_ok-alone.ensures) (whole_alone c.args.s.now c.requires.whole c.requires.next c.args.kind c.args.start c.args.goal c.requires.allowed)

pub added_alone-requires-clause-whole : goal.added_alone-requires-clause-whole
added_alone-requires-clause-whole c = subst (λ (t : PlanState). IsWhole t) (sym c.in_ok-alone.ensures) (whole_alone c.args.s.now c.requires.whole c.requires.next c.args.kind c.args.start c.args.goal c.requires.allowed)

pub added_alone-requires-clause-live : goal.added_alone-requires-clause-live
added_alone-requires-clause-live c =
    let s = c.args.s.now in
    let root : Activity = without_goal (root_for s c.args.kind c.args.start c.args.goal) in
    let live : IsLive s.next_id (root ∷ []) = subst (λ (o : Option Activity). IsSome o) (sym (itself root)) refl in
    subst (λ (t : PlanState). IsLive s.next_id t.plan.activities) (sym c.in_ok-alone.ensures) live

pub returns-clause-known : goal.returns-clause-known
returns-clause-known c =
    let s = c.args.s.now in
    let a = c.in_ok-asking.asking in
    known_new s c.requires.whole c.requires.next c.args.kind c.args.start c.args.goal c.requires.allowed c.in_ok-steady.steady c.in_ok-steady.ensures
    c.left_alone_by_new.result (c.left_alone_by_new.ensures s c.requires.standing)
    c.added_alone.result (c.added_alone.ensures ∙ ap (λ (t : PlanState). root_in t s.next_id c.args.kind c.args.start) c.in_ok-alone.ensures)
    a c.in_ok-asking.ensures.going (c.in_ok-asking.ensures.coming ∙ ap (λ (t : PlanState). demands_of t) c.in_ok-alone.ensures) c.in_ok-asking.ensures.start
