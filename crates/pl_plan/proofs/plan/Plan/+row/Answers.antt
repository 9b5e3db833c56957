use Rattle.std.proofs.Common.{◌≡◌, Some, refl, sym, ◌∙◌, rules}
use Rattle.pl_plan.proofs.ValueSteps.{values_at_root, values_at_child, settled_same}
use Rattle.pl_plan.proofs.plan.Plan.+row.Goals as goal

pub returns-in-Some-clause-value : goal.returns-in-Some-clause-value
returns-in-Some-clause-value t c =
    let named : c.fitted-activity.result.now.parent ≡ Some (c.in-Some.parent, c.in-Some.slot) = search rules in
    c.settle.ensures.value
    ∙ (settled_same _ _ _ _ _ _ _ _ c.params_in-params.ensures.value c.as_slice-set.ensures c.bindings-bindings.ensures.value (c.as_slice.ensures.value ∙ c.row-above.ensures.value)
    ∙ sym (values_at_child c.args.model.now c.args.self.now.activities c.requires.fits.rooted c.args.id c.fitted-activity.result.now c.fitted-activity.ensures.here (c.in-Some.parent, c.in-Some.slot) named))

pub returns-in-None-clause-value : goal.returns-in-None-clause-value
returns-in-None-clause-value t c =
    c.settle-in-None.ensures.value
    ∙ (settled_same _ _ _ _ _ _ _ _ c.params_in-params.ensures.value c.as_slice-set.ensures refl refl
    ∙ sym (values_at_root c.args.model.now c.args.self.now.activities c.requires.fits.rooted c.args.id c.fitted-activity.result.now c.fitted-activity.ensures.here c.in-None.is))
