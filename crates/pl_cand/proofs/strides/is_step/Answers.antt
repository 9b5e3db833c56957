use Rattle.std.proofs.Common.{◌≡◌, rules, arith, ap, to_z, of_z, w64}
use Rattle.std.proofs.lemmas.Grind.{common_steps}
use Rattle.std.specs.List.{list_any}
use Rattle.std.specs.Ordering.{int_eq}
use Rattle.pl_semantics.specs.Starts.{spread, steps_from}
use Rattle.pl_cand.proofs.Steps.{spread_is}
use Rattle.pl_cand.proofs.strides.is_step.Goals as goal

pub returns : goal.returns
returns c =
    let low : to_z w64 (of_z w64 c.args.low) ≡ c.args.low = search rules in
    let high : to_z w64 (of_z w64 c.args.high) ≡ c.args.high = search rules in
    let number : to_z w64 (of_z w64 c.args.number) ≡ c.args.number = search rules in
    let wide = rw (high, low) at c.width.ensures.value in
    let steps : steps_from 16 c.args.low c.args.high c.stride.result ≡ spread c.args.low c.args.high = spread_is c.args.low c.args.high c.width.result c.stride.result wide c.stride.ensures.value in
    let same : list_any (int_eq c.args.number) (steps_from 16 c.args.low c.args.high c.stride.result) ≡ list_any (int_eq c.args.number) (spread c.args.low c.args.high) = ap (list_any (int_eq c.args.number)) steps in
    first_of (cc (c.is_among_steps.ensures, low, high, number, same), search rules, grind (arith, common_steps))
