use Rattle.std.proofs.Common.{◌-◌, rules, FitsSigned}
use Rattle.std.specs.Int.{w128}
use Rattle.std.proofs.lemmas.Int.{to_z-of_z}
use Rattle.pl_rate.proofs.Pieces.{line_is, piece_put, piece_empty}
use Rattle.pl_rate.proofs.pushing.push_line.Goals as goal

pub returns-then-low-high : goal.returns-then-low-high
returns-then-low-high c =
    let fits_value : FitsSigned w128 c.args.course.value = search rules in
    let fits_slope : FitsSigned w128 c.args.course.slope = search rules in
    let fits_gap : FitsSigned w128 c.gap.result = search rules in
    let fits_tilt : FitsSigned w128 c.tilt.result = search rules in
    let value = to_z-of_z w128 c.args.course.value fits_value in
    let slope = to_z-of_z w128 c.args.course.slope fits_slope in
    let line = line_is c.args.limit c.args.course.value c.args.course.slope c.gap.result c.tilt.result (c.args.to - c.args.course.at) c.negative_part-low.result.0 c.negative_part-low.result.1 (rw value at c.gap.ensures) (rw slope at c.tilt.ensures)
    (λ k lt. rw (to_z-of_z w128 c.gap.result fits_gap, to_z-of_z w128 c.tilt.result fits_tilt) at (c.negative_part-low.ensures.exact k lt)) in
    let piece = piece_put c.args.limit c.args.course.value c.args.course.slope c.args.course.at c.args.to c.negative_part-low.result.0 c.negative_part-low.result.1 c.args.spans.now.items c.requires.some c.negative_part-low.ensures.order c.negative_part-low.ensures.bound c.requires.apart line _ c.if-low-high.true c.in_ok-extend.ensures in
    record { apart = piece.apart; covers = piece.exact }

pub returns : goal.returns
returns c =
    let fits_value : FitsSigned w128 c.args.course.value = search rules in
    let fits_slope : FitsSigned w128 c.args.course.slope = search rules in
    let fits_gap : FitsSigned w128 c.gap.result = search rules in
    let fits_tilt : FitsSigned w128 c.tilt.result = search rules in
    let value = to_z-of_z w128 c.args.course.value fits_value in
    let slope = to_z-of_z w128 c.args.course.slope fits_slope in
    let line = line_is c.args.limit c.args.course.value c.args.course.slope c.gap.result c.tilt.result (c.args.to - c.args.course.at) c.negative_part-low.result.0 c.negative_part-low.result.1 (rw value at c.gap.ensures) (rw slope at c.tilt.ensures)
    (λ k lt. rw (to_z-of_z w128 c.gap.result fits_gap, to_z-of_z w128 c.tilt.result fits_tilt) at (c.negative_part-low.ensures.exact k lt)) in
    let piece = piece_empty c.args.limit c.args.course.value c.args.course.slope c.args.course.at c.args.to c.negative_part-low.result.0 c.negative_part-low.result.1 c.args.spans.now.items c.requires.some c.negative_part-low.ensures.order c.negative_part-low.ensures.bound c.requires.apart line c.if-low-high.false in
    record { apart = piece.apart; covers = piece.exact }
