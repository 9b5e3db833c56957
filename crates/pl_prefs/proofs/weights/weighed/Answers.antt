use Rattle.std.proofs.Common.{arith}
use Rattle.std.proofs.lemmas.Int.{ints}
use mir.Syntax.{w128}
use mir.Val.{to_z, of_z}
use Rattle.pl_prefs.proofs.Weighed.{weighed_within}
use Rattle.pl_prefs.proofs.weights.weighed.Goals as goal

pub overflow_mul-result : goal.overflow_mul-result
overflow_mul-result c =
    let within = weighed_within (to_z w128 (of_z w128 c.from.result)) (to_z w128 (of_z w128 c.args.amount)) (omega (arith, ints), omega (arith, ints)) (omega (arith, ints), omega (arith, ints)) in
    omega (arith, ints, within)

pub returns-clause-within : goal.returns-clause-within
returns-clause-within c =
    let within = weighed_within (to_z w128 (of_z w128 c.from.result)) (to_z w128 (of_z w128 c.args.amount)) (omega (arith, ints), omega (arith, ints)) (omega (arith, ints), omega (arith, ints)) in
    (omega (arith, ints, within), omega (arith, ints, within))
