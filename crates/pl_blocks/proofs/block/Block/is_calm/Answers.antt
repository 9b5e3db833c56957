use Rattle.std.proofs.Common.{◌≡◌, ◌<◌, arith, ap, sym, ◌∙◌, subst, length, ◌+ℤ◌, false}
use Rattle.std.specs.Prelude.{int_lt, is_some}
use mir.Val.{to_z, of_z}
use mir.Syntax.{w64}
use Rattle.std.proofs.lemmas.Int.{to_z-of_z}
use Rattle.std.proofs.lemmas.Bool.{or_from}
use Rattle.pl_points.specs.Sums.{IsSmall}
use Rattle.pl_points.specs.Points.{SmallFrom}
use Rattle.pl_points.proofs.Outside.{same_leaving}
use Rattle.pl_blocks.specs.Blocks.{least_sum, greatest_sum}
use Rattle.pl_blocks.proofs.Rows.{small_sum, small_head}
use Rattle.pl_blocks.proofs.Summaries.{either_out, out_there}
use Rattle.pl_blocks.proofs.Searches.{small_fronts}
use Rattle.pl_blocks.proofs.block.Block.is_calm.Goals as goal

pub overflow_add-start : goal.overflow_add-start
overflow_add-start c =
    let ps = c.args.self.now in
    let s = to_z w64 (of_z w64 c.args.start) in
    let raw : s ≡ c.args.start = to_z-of_z w64 c.args.start c.ranges.start in
    let small : SmallFrom s ps = subst (λ z. SmallFrom z ps) (sym raw) c.requires in
    let some : 0 < length ps = omega (arith, c.points.ensures.some, ap length c.points.ensures.points) in
    let fronts = small_fronts s ps some small in
    let low = small_sum s c.least.result (small_head s ps small) (subst (λ z. IsSmall (s +ℤ z)) (sym c.least.ensures) fronts.0) in
    low.0

pub overflow_add-start-else-start-least : goal.overflow_add-start-else-start-least
overflow_add-start-else-start-least c =
    let ps = c.args.self.now in
    let s = to_z w64 (of_z w64 c.args.start) in
    let raw : s ≡ c.args.start = to_z-of_z w64 c.args.start c.ranges.start in
    let small : SmallFrom s ps = subst (λ z. SmallFrom z ps) (sym raw) c.requires in
    let some : 0 < length ps = omega (arith, c.points.ensures.some, ap length c.points.ensures.points) in
    let fronts = small_fronts s ps some small in
    let high = small_sum s c.greatest.result (small_head s ps small) (subst (λ z. IsSmall (s +ℤ z)) (sym c.greatest.ensures) fronts.1) in
    high.0

pub returns : goal.returns
returns c =
    let ps = c.args.self.now in
    let s = to_z w64 (of_z w64 c.args.start) in
    let raw : s ≡ c.args.start = to_z-of_z w64 c.args.start c.ranges.start in
    let small : SmallFrom s ps = subst (λ z. SmallFrom z ps) (sym raw) c.requires in
    let some : 0 < length ps = omega (arith, c.points.ensures.some, ap length c.points.ensures.points) in
    let fronts = small_fronts s ps some small in
    let low = small_sum s c.least.result (small_head s ps small) (subst (λ z. IsSmall (s +ℤ z)) (sym c.least.ensures) fronts.0) in
    let high = small_sum s c.greatest.result (small_head s ps small) (subst (λ z. IsSmall (s +ℤ z)) (sym c.greatest.ensures) fronts.1) in
    let L = to_z w64 (of_z w64 c.args.least) in
    let M = to_z w64 (of_z w64 c.args.most) in
    let least = low.1 ∙ ap (λ z. s +ℤ z) c.least.ensures in
    let greatest = high.1 ∙ ap (λ z. s +ℤ z) c.greatest.ensures in
    let inside : either_out L M (s +ℤ least_sum ps) (s +ℤ greatest_sum ps) ≡ false = or_from (int_lt (s +ℤ least_sum ps) L) (int_lt M (s +ℤ greatest_sum ps)) (ap (λ z. int_lt z L) (sym least) ∙ c.if-start-least.false) (ap (int_lt M) (sym greatest) ∙ c.if-most-start.false) in
    λ _. ap is_some (sym (same_leaving L M s c.args.least c.args.most c.args.start ps (to_z-of_z w64 c.args.least c.ranges.least) (to_z-of_z w64 c.args.most c.ranges.most) raw)) ∙ sym (out_there L M s ps some) ∙ inside
