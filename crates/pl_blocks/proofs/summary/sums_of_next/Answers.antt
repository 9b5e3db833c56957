use Rattle.std.proofs.Common.{rules, ◌+◌, ◌+ℤ◌, ◌∙◌, refl, get_or, pos}
use mir.Val.{to_z, of_z, SFits}
use mir.Syntax.{w64}
use Rattle.std.proofs.lemmas.Int.{to_z-of_z}
use Rattle.std.proofs.lemmas.List.{get_or_default}
use Rattle.pl_points.proofs.PointLists.{near_step}
use Rattle.pl_blocks.specs.Blocks.{AreSums}
use Rattle.pl_blocks.proofs.Beginnings.{sums_near, next_sums}
use Rattle.pl_blocks.proofs.summary.sums_of_next.Goals as goal

pub overflow_add-sum : goal.overflow_add-sum
overflow_add-sum c =
    let ps = c.args.points.now in
    let i = c.args.sums.count in
    let p = get_or ps i (0, pos 0) in
    let fits : SFits w64 c.args.sums.sum = search rules in
    let is = to_z-of_z w64 c.args.sums.sum fits in
    rw is (near_step c.args.sums.sum ps i (i + 1) p c.requires.there refl (get_or_default ps i (0, pos 0) p c.requires.there) (sums_near ps i c.args.sums.sum c.args.sums.least c.args.sums.greatest c.requires.sums c.requires.near)).0

pub returns-clause-sums : goal.returns-clause-sums
returns-clause-sums c =
    let ps = c.args.points.now in
    let i = c.args.sums.count in
    let p = get_or ps i (0, pos 0) in
    let s = to_z w64 (of_z w64 c.args.sums.sum) in
    let l = to_z w64 (of_z w64 c.args.sums.least) in
    let h = to_z w64 (of_z w64 c.args.sums.greatest) in
    let fits : SFits w64 c.args.sums.sum = search rules in
    let fits_least : SFits w64 c.args.sums.least = search rules in
    let fits_greatest : SFits w64 c.args.sums.greatest = search rules in
    let sums : AreSums ps i s l h = rw (to_z-of_z w64 c.args.sums.sum fits, to_z-of_z w64 c.args.sums.least fits_least, to_z-of_z w64 c.args.sums.greatest fits_greatest) c.requires.sums in
    let is = get_or_default ps i (0, pos 0) p c.requires.there in
    let step = near_step s ps i (i + 1) p c.requires.there refl is (sums_near ps i s l h sums c.requires.near) in
    let z = to_z w64 (of_z w64 (s +ℤ to_z w64 (of_z w64 p.1))) in
    let fits_low : SFits w64 c.min.result = search rules in
    let fits_high : SFits w64 c.max.result = search rules in
    next_sums ps i (i + 1) s l h z (to_z w64 (of_z w64 c.min.result)) (to_z w64 (of_z w64 c.max.result)) p sums c.requires.there refl is step.1.0 (to_z-of_z w64 c.min.result fits_low ∙ c.min.ensures.value) (to_z-of_z w64 c.max.result fits_high ∙ c.max.ensures.value)
