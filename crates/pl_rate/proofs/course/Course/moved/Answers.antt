use Rattle.std.proofs.Common.{arith, rules, FitsSigned}
use Rattle.std.specs.Int.{w128}
use Rattle.std.proofs.lemmas.Int.{to_z-of_z}
use Rattle.pl_rate.proofs.Courses.{ample_modest, change_modest}
use Rattle.pl_rate.proofs.course.Course.moved.Goals as goal

pub add-requires : goal.add-requires
add-requires c =
    let fits_value : FitsSigned w128 c.args.self.value = search rules in
    let fits_slope : FitsSigned w128 c.args.self.slope = search rules in
    let fits_change : FitsSigned w128 c.product-change.result = search rules in
    rw (to_z-of_z w128 c.args.self.value fits_value, to_z-of_z w128 c.product-change.result fits_change, c.product-change.ensures, to_z-of_z w128 c.args.self.slope fits_slope)
    (ample_modest c.args.self.value c.requires.roomy.0, change_modest c.args.self.slope _ c.requires.roomy.1 (omega (arith, c.requires.later.1)))
