use Rattle.std.proofs.Common.{arith, rules, FitsSigned}
use Rattle.std.specs.Int.{w64, w128}
use Rattle.std.proofs.lemmas.Int.{to_z-of_z}
use Rattle.pl_rate.proofs.Courses.{ample_modest, change_modest, along_modest, billion_modest}
use Rattle.pl_rate.proofs.course.Course.turned.Goals as goal

pub add-along-requires : goal.add-along-requires
add-along-requires c =
    let fits_value : FitsSigned w128 c.args.self.value = search rules in
    let fits_slope : FitsSigned w128 c.args.self.slope = search rules in
    let fits_change : FitsSigned w128 c.product-change.result = search rules in
    rw (to_z-of_z w128 c.args.self.value fits_value, to_z-of_z w128 c.product-change.result fits_change, c.product-change.ensures, to_z-of_z w128 c.args.self.slope fits_slope)
    (ample_modest c.args.self.value c.requires.roomy.0, change_modest c.args.self.slope _ c.requires.roomy.1 (omega (arith, c.requires.later.1)))

pub add-requires : goal.add-requires
add-requires c =
    let fits_value : FitsSigned w128 c.args.self.value = search rules in
    let fits_slope : FitsSigned w128 c.args.self.slope = search rules in
    let fits_change : FitsSigned w128 c.product-change.result = search rules in
    let fits_along : FitsSigned w128 c.add-along.result = search rules in
    let fits_jump : FitsSigned w64 c.args.hinge.jump = search rules in
    let wide_jump : FitsSigned w128 c.args.hinge.jump = search rules in
    rw (to_z-of_z w64 c.args.hinge.jump fits_jump, to_z-of_z w128 c.args.hinge.jump wide_jump, to_z-of_z w128 c.add-along.result fits_along, c.add-along.ensures, to_z-of_z w128 c.args.self.value fits_value, to_z-of_z w128 c.product-change.result fits_change, c.product-change.ensures, to_z-of_z w128 c.args.self.slope fits_slope)
    (along_modest c.args.self.value c.args.self.slope _ c.requires.roomy.0 c.requires.roomy.1 (omega (arith, c.requires.later.1)), billion_modest c.args.hinge.jump c.requires.flat.0 c.requires.flat.1)
