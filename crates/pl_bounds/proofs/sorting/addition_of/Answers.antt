use Rattle.std.proofs.Common.{◌≡◌, pos, neg_ℤ, ◌+ℤ◌, List, true, false, ap, ◌∙◌}
use Rattle.pl_points.specs.Sums.{total}
use Rattle.pl_semantics.specs.declared.demand.Demand.{Demand}
use Rattle.pl_bounds.specs.Afterwards.{moved_by, pull}
use Rattle.pl_bounds.specs.Steps.{demand_toward, steps_on}
use Rattle.pl_bounds.specs.declared.stepwise.Step.{Step}
use Rattle.pl_bounds.proofs.StepSums.{coming_all, going_all, with_both}
use Rattle.pl_bounds.proofs.sorting.addition_of.Goals as goal

pub returns : goal.returns
returns c = λ o line side w t.
    let a = c.args.asking.now in
    let none : steps_on o w t c.new-steps.result.items ≡ pos 0 = ap (λ (xs : List Step). steps_on o w t xs) c.new-steps.ensures.items in
    let goes : steps_on o w t c.add_demands.new.steps.items ≡ steps_on o w t c.new-steps.result.items +ℤ total (demand_toward o w t false) c.as_slice-going.result.now = c.in_ok-add_demands.ensures o w t line side in
    let comes : steps_on o w t c.add_demands-2.new.steps.items ≡ steps_on o w t c.add_demands.new.steps.items +ℤ total (demand_toward o w t true) c.as_slice-coming.result.now = c.in_ok-add_demands-2.ensures o w t line side in
    let out : total (demand_toward o w t false) c.as_slice-going.result.now ≡ neg_ℤ (pull o t a.going.items) = ap (λ (ds : List Demand). total (demand_toward o w t false) ds) c.as_slice-going.ensures.value ∙ going_all o w t a.going.items in
    let back : total (demand_toward o w t true) c.as_slice-coming.result.now ≡ pull o t (moved_by w a.coming.items) = ap (λ (ds : List Demand). total (demand_toward o w t true) ds) c.as_slice-coming.ensures.value ∙ coming_all o w t a.coming.items in
    with_both _ _ _ _ _ _ _ none goes comes out back
