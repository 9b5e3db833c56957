use Rattle.std.proofs.Common.{◌≡◌, ap, arith, pos}
use Rattle.std.proofs.lemmas.Int.{ints}
use Rattle.pl_rate.specs.Hinges.{seen, sum_on}
use Rattle.pl_rate.proofs.Fores.{fore_is}
use Rattle.pl_rate.proofs.gathering.hinges_of.Goals as goal

pub returns-clause-sums : goal.returns-clause-sums
returns-clause-sums c = λ line t before.
    let none : sum_on c.new-hinges.result.items line t ≡ pos 0 = ap (λ l. sum_on l line t) c.new-hinges.ensures.items in
    let drifts = c.in_ok-push_drifts.ensures.sums line t in
    let activities = c.in_ok-push_activities.ensures.sums line t in
    fore_is (seen c.args.model.now c.args.plan.now c.args.bases.now 0) c.args.rates.now line t _ before (omega (arith, ints, none, drifts, activities))
