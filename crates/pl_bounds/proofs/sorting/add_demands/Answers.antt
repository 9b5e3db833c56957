use Rattle.std.proofs.Common.{◌≡◌, List, ap, arith, drop, pos}
use Rattle.std.proofs.lemmas.Int.{ints}
use Rattle.std.proofs.lemmas.List.{drop_all}
use Rattle.pl_points.specs.Sums.{total}
use Rattle.pl_semantics.specs.declared.demand.Demand.{Demand}
use Rattle.pl_bounds.specs.Steps.{demand_toward, steps_on}
use Rattle.pl_bounds.proofs.StepSums.{demand_next}
use Rattle.pl_bounds.proofs.sorting.add_demands.Goals as goal

pub loop-demand-preserved : goal.loop-demand-preserved
loop-demand-preserved c = λ o w t line side.
    demand_next o w t c.args.comes c.args.demands.now c.loop-demand.demand-index _ (steps_on o w t c.args.steps.now.items) (steps_on o w t c.loop-demand.steps.items) _ c.loop-demand-test.true
    (c.in_ok-add_demand.ensures o w t line side) (c.loop-demand.invariant o w t line side)

pub returns : goal.returns
returns c = λ o w t line side.
    let f = demand_toward o w t c.args.comes in
    let ds = c.args.demands.now in
    let rest : total f (drop c.loop-demand.demand-index ds) ≡ pos 0 = ap (λ (xs : List Demand). total f xs) (drop_all c.loop-demand.demand-index ds c.loop-demand-test.false) in
    let all = c.loop-demand.invariant o w t line side in
    omega (arith, ints, rest, all)
