use Rattle.std.proofs.Common.{ap, ◌∙◌, ◌+ℤ◌}
use Rattle.std.specs.List.{flat_map}
use Rattle.pl_points.specs.Spans.{span}
use Rattle.pl_semantics.specs.PlanStates.{numbered}
use Rattle.pl_semantics.specs.Demands.{told}
use Rattle.pl_rate.specs.Hinges.{seen, sum_on, outsides_by}
use Rattle.pl_rate.proofs.Forecasts.{AreKnown, forecasts}
use Rattle.pl_rate.proofs.telling.forecast.Goals as goal

pub returns : goal.returns
returns c =
    let model = c.args.model.now in
    let plan = c.args.plan.now in
    let bases = c.args.bases.now in
    let hs = c.as_slice.result.now in
    let known : AreKnown hs c.args.rates.now model plan bases = λ line t before.
    ap (λ z. told (seen model plan bases 0) line +ℤ z) (ap (λ l. sum_on l line t) c.as_slice.ensures.value ∙ c.order.ensures.sums line t)
    ∙ c.in_ok-hinges.ensures.sums line t before in
    λ s has.
    c.in_ok-all.ensures
    ∙ (ap (λ n. flat_map (outsides_by hs bases (span n model.horizon)) (numbered 0 model.timelines)) c.min.ensures
    ∙ forecasts hs c.args.rates.now model plan bases c.args.now known s has)
