use Rattle.std.proofs.Common.{◌≡◌, true, ap, ◌∙◌, sym, subst, ◌∷◌, [], arith}
use Rattle.std.specs.List.{list_any}
use Rattle.pl_update.specs.GoalsAndActivities.Near.{near}
use Rattle.pl_semantics.specs.declared.plan_state.PlanState.{PlanState}
use Rattle.pl_semantics.specs.Whole.{IsWhole}
use Rattle.pl_bounds.specs.Standing.{is_unset_one, IsUnsetThen}
use Rattle.pl_bounds.proofs.Adding.{whole_alone}
use Rattle.pl_bounds.proofs.Lacking.{unset_then}
use Rattle.pl_bounds.proofs.Staying.{new_left}
use Rattle.pl_bounds.proofs.steady.left_by_new.Goals as goal

pub is_unset_in-requires : goal.is_unset_in-requires
is_unset_in-requires c = subst (λ (t : PlanState). IsWhole t) (sym c.requires.alone) (whole_alone c.args.s.now c.requires.whole c.requires.next c.args.kind c.args.start c.args.goal c.requires.allowed)

pub returns : goal.returns
returns c =
    let s = c.args.s.now in
    let told : c.in_ok-is_unset.is_unset ≡ list_any is_unset_one (near c.args.alone.now [] (s.next_id ∷ [])) = c.in_ok-is_unset.ensures in
    let so : c.in_ok-is_unset.is_unset ≡ true → IsUnsetThen s c.args.kind c.args.goal = λ e.
    unset_then s c.requires.whole c.requires.next c.args.kind c.args.start c.args.goal c.requires.allowed (sym (ap (λ (t : PlanState). list_any is_unset_one (near t [] (s.next_id ∷ []))) c.requires.alone) ∙ (sym told ∙ e)) in
    new_left s c.requires.whole c.requires.next c.args.kind c.args.start c.args.goal c.args.wrong c.requires.wrong c.in_ok-is_unset.is_unset so c.count_if.result (omega (arith, c.count_if.ensures))
