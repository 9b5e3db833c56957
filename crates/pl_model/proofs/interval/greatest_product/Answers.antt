use Rattle.std.proofs.Common.{FitsSigned, w64, rules}
use Rattle.std.specs.Int.{w128}
use Rattle.std.proofs.lemmas.Int.{to_z-of_z}
use Rattle.pl_model.proofs.interval.greatest_product.Goals as goal

pub returns : goal.returns
returns c =
    let fits : FitsSigned w64 c.clip.result = search rules in
    let fits_greatest : FitsSigned w128 c.greatest.result = search rules in
    let fits_1 : FitsSigned w128 c.product_of.result = search rules in
    let fits_2 : FitsSigned w128 c.product_of-2.result = search rules in
    let fits_3 : FitsSigned w128 c.product_of-3.result = search rules in
    let fits_4 : FitsSigned w128 c.product_of-4.result = search rules in
    rw (
      to_z-of_z w64 c.clip.result fits,
      c.clip.ensures,
      to_z-of_z w128 c.greatest.result fits_greatest,
      c.greatest.ensures,
      to_z-of_z w128 c.product_of.result fits_1,
      to_z-of_z w128 c.product_of-2.result fits_2,
      to_z-of_z w128 c.product_of-3.result fits_3,
      to_z-of_z w128 c.product_of-4.result fits_4,
      c.product_of.ensures,
      c.product_of-2.ensures,
      c.product_of-3.ensures,
      c.product_of-4.ensures,
      to_z-of_z w64 c.args.a c.ranges.a,
      to_z-of_z w64 c.args.b c.ranges.b,
      to_z-of_z w64 c.args.c c.ranges.c,
      to_z-of_z w64 c.args.d c.ranges.d,
    )
