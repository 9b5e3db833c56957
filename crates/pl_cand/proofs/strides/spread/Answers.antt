use Rattle.std.proofs.Common.{◌≡◌, rules, subst, to_z, of_z, w64}
use Rattle.std.specs.Prelude.{IfOk, ℤ, List}
use Rattle.pl_cand.proofs.Steps.{spread_is}
use Rattle.pl_cand.proofs.strides.spread.Goals as goal

pub returns : goal.returns
returns c =
    let low : to_z w64 (of_z w64 c.args.low) ≡ c.args.low = search rules in
    let high : to_z w64 (of_z w64 c.args.high) ≡ c.args.high = search rules in
    let wide = rw (high, low) at c.width.ensures.value in
    let all = rw (low, high) at c.steps.ensures in
    subst (λ (l : List ℤ). IfOk c.steps.result (λ all. all.items ≡ l))
    (spread_is c.args.low c.args.high c.width.result c.stride.result wide c.stride.ensures.value)
    all
