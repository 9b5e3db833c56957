use Rattle.std.proofs.Common.{◌*ℤ◌, ◌^◌, arith}
use Rattle.std.specs.Int.{w128}
use Rattle.std.proofs.lemmas.Int.{ints, to_z-of_z, fits_signed_mul}
use Rattle.pl_model.proofs.evaluation.product.Goals as goal

pub returns : goal.returns
returns c =
    let left = to_z-of_z w128 c.args.left c.ranges.left in
    let right = to_z-of_z w128 c.args.right c.ranges.right in
    rw (left, right) (to_z-of_z w128 (c.args.left *ℤ c.args.right) (fits_signed_mul w128 c.args.left c.args.right (2 ^ 63) (2 ^ 63) (omega (arith, ints, c.requires.left.0, c.requires.left.1)) (omega (arith, ints)) (grind arith)))
