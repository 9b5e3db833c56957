use Rattle.std.proofs.Common.{◌<◌, sym, ◌∙◌, None, length, rules, arith, FitsSigned, w64}
use borrow.Author.Tests.{ltb-true}
use Rattle.std.proofs.lemmas.Int.{to_z-of_z}
use Rattle.std.specs.Prelude.{slice_index_or}
use Rattle.pl_model.specs.Values.{value_of}
use Rattle.pl_model.specs.Bounds.{range_of}
use Rattle.pl_model.proofs.Reaches.{number_within, parameter_within, joined_within}
use Rattle.pl_model.proofs.Levels.{value_of-Num, value_of-Param, value_of-Apply, names-Param}
use Rattle.pl_model.proofs.interval.+bounds.Goals as goal

pub returns-in-Num-clause-holds : goal.returns-in-Num-clause-holds
returns-in-Num-clause-holds t c = λ values v within e.
    let fits : FitsSigned w64 c.in-Num.number = search rules in
    rw (c.clip_both.ensures, to_z-of_z w64 c.in-Num.number fits) (number_within c.in-Num.number v (sym (value_of-Num c.in-Num.number values) ∙ (rw c.in-Num.is at e)))

pub returns-in-Param-clause-holds : goal.returns-in-Param-clause-holds
returns-in-Param-clause-holds t c = λ values v within e.
    let test = rw (names-Param c.in-Param.parameter (length c.args.ranges.now)) at (rw c.in-Param.is at c.requires) in
    let named : c.in-Param.parameter < length c.args.ranges.now = omega (arith, ltb-true) in
    let fits_low : FitsSigned w64 (range_of c.args.ranges.now c.in-Param.parameter).0 = search rules in
    let fits_high : FitsSigned w64 (range_of c.args.ranges.now c.in-Param.parameter).1 = search rules in
    rw (c.clip_both-in-Param.ensures, to_z-of_z w64 (range_of c.args.ranges.now c.in-Param.parameter).0 fits_low, to_z-of_z w64 (range_of c.args.ranges.now c.in-Param.parameter).1 fits_high)
    (parameter_within (range_of c.args.ranges.now c.in-Param.parameter) (slice_index_or values c.in-Param.parameter None) v
    (λ x is. within c.in-Param.parameter x named is)
    (sym (value_of-Param c.in-Param.parameter values) ∙ (rw c.in-Param.is at e)))

pub returns-in-Apply-clause-holds : goal.returns-in-Apply-clause-holds
returns-in-Apply-clause-holds t c = λ values v within e.
    rw c.reach.ensures
    (joined_within c.in-Apply.op _ _ (value_of c.in-Apply.left values) (value_of c.in-Apply.right values) v
    (λ x is. c.bounds-left.ensures.holds values x within (rw c.get.ensures is))
    (λ y is. c.bounds-right.ensures.holds values y within (rw c.get-in-Apply.ensures is))
    (sym (value_of-Apply c.in-Apply.op c.in-Apply.left c.in-Apply.right values) ∙ (rw c.in-Apply.is at e)))
