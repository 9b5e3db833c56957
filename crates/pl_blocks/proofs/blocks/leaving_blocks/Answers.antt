use Rattle.std.proofs.Common.{◌≡◌, ◌+◌, arith, ap, sym, ◌∙◌, refl, subst, drop, ◌+ℤ◌, true, false}
use Rattle.std.specs.Prelude.{int_lt, is_some}
use mir.Val.{to_z, of_z}
use mir.Syntax.{w64}
use Rattle.std.proofs.lemmas.Int.{to_z-of_z}
use Rattle.std.proofs.lemmas.List.{length-drop}
use Rattle.std.proofs.lemmas.Bool.{or_left, or_right, or_from}
use Rattle.pl_points.specs.Sums.{IsSmall}
use Rattle.pl_points.specs.Points.{leaving, SmallFrom}
use Rattle.pl_points.proofs.Outside.{same_leaving}
use Rattle.pl_blocks.specs.Blocks.{together, change_of, least_sum, greatest_sum}
use Rattle.pl_blocks.proofs.Rows.{small_sum, small_split, small_head, drop_block, sized_at}
use Rattle.pl_blocks.proofs.Summaries.{either_out, out_there, leaving_first, leaving_later}
use Rattle.pl_blocks.proofs.Searches.{small_fronts, ahead_there}
use Rattle.pl_blocks.proofs.blocks.leaving_blocks.Goals as goal
use Rattle.pl_blocks.proofs.blocks.leaving_blocks.Goals.{then-sum-least-via-then-sum-least, then-sum-least-via-else-sum-least+then-most-sum}

pub overflow_add-sum : goal.overflow_add-sum
overflow_add-sum g c =
    let bs = c.args.blocks.now in
    let i = c.loop-block.block-index in
    let b = c.block-item.result in
    let s = to_z w64 c.loop-block.sum-bits in
    let cut = drop_block i (i + 1) bs b c.loop-block-test.true refl c.block-item.is in
    let small = small_split s b (together (drop (i + 1) bs)) (subst (λ l. SmallFrom s (together l)) cut c.loop-block.invariant.small) in
    let fronts = small_fronts s b (sized_at i bs b c.requires.sized c.loop-block-test.true c.block-item.is).0 small.0 in
    (small_sum s c.least.result (small_head s b small.0) (subst (λ z. IsSmall (s +ℤ z)) (sym c.least.ensures) fronts.0)).0

pub overflow_add-sum-else-sum-least : goal.overflow_add-sum-else-sum-least
overflow_add-sum-else-sum-least g c =
    let bs = c.args.blocks.now in
    let i = c.loop-block.block-index in
    let b = c.block-item.result in
    let s = to_z w64 c.loop-block.sum-bits in
    let cut = drop_block i (i + 1) bs b c.loop-block-test.true refl c.block-item.is in
    let small = small_split s b (together (drop (i + 1) bs)) (subst (λ l. SmallFrom s (together l)) cut c.loop-block.invariant.small) in
    let fronts = small_fronts s b (sized_at i bs b c.requires.sized c.loop-block-test.true c.block-item.is).0 small.0 in
    (small_sum s c.greatest.result (small_head s b small.0) (subst (λ z. IsSmall (s +ℤ z)) (sym c.greatest.ensures) fronts.1)).0

pub leaving-found-requires-clause-small : goal.leaving-found-requires-clause-small
leaving-found-requires-clause-small g c =
    let bs = c.args.blocks.now in
    let i = c.loop-block.block-index in
    let b = c.block-item.result in
    let s = to_z w64 c.loop-block.sum-bits in
    let cut = drop_block i (i + 1) bs b c.loop-block-test.true refl c.block-item.is in
    subst (SmallFrom s) (sym c.points.ensures.points) (small_split s b (together (drop (i + 1) bs)) (subst (λ l. SmallFrom s (together l)) cut c.loop-block.invariant.small)).0

pub returns-then-sum-least-clause-first : goal.returns-then-sum-least-clause-first
returns-then-sum-least-clause-first g c =
    let bs = c.args.blocks.now in
    let i = c.loop-block.block-index in
    let b = c.block-item.result in
    let s = to_z w64 c.loop-block.sum-bits in
    let L = to_z w64 (of_z w64 c.args.least) in
    let M = to_z w64 (of_z w64 c.args.most) in
    let B = to_z w64 (of_z w64 c.args.before) in
    let more = together (drop (i + 1) bs) in
    let cut = drop_block i (i + 1) bs b c.loop-block-test.true refl c.block-item.is in
    let small = small_split s b more (subst (λ l. SmallFrom s (together l)) cut c.loop-block.invariant.small) in
    let some = (sized_at i bs b c.requires.sized c.loop-block-test.true c.block-item.is).0 in
    let fronts = small_fronts s b some small.0 in
    let out : either_out L M (s +ℤ least_sum b) (s +ℤ greatest_sum b) ≡ true = elim c.then-sum-least.branch [
      | then-sum-least-via-then-sum-least w ↦
          let low = (small_sum s c.least.result (small_head s b small.0) (subst (λ z. IsSmall (s +ℤ z)) (sym c.least.ensures) fronts.0)).1 ∙ ap (λ z. s +ℤ z) c.least.ensures in
          or_left (int_lt (s +ℤ least_sum b) L) (int_lt M (s +ℤ greatest_sum b)) (ap (λ z. int_lt z L) (sym low) ∙ w.if-sum-least.true)
      | then-sum-least-via-else-sum-least+then-most-sum w ↦
          let high = (small_sum s w.greatest.result (small_head s b small.0) (subst (λ z. IsSmall (s +ℤ z)) (sym w.greatest.ensures) fronts.1)).1 ∙ ap (λ z. s +ℤ z) w.greatest.ensures in
          or_right (int_lt (s +ℤ least_sum b) L) (int_lt M (s +ℤ greatest_sum b)) (ap (int_lt M) (sym high) ∙ w.if-most-sum.true)
    ] in
    let found : is_some (leaving L M s b) ≡ true = sym (out_there L M s b some) ∙ out in
    let here : leaving L M s (together (drop i bs)) ≡ leaving L M s b = ap (λ l. leaving L M s (together l)) cut ∙ leaving_first L M s b more found in
    let raw = same_leaving L M B c.args.least c.args.most c.args.before (together bs) (to_z-of_z w64 c.args.least c.ranges.least) (to_z-of_z w64 c.args.most c.ranges.most) (to_z-of_z w64 c.args.before c.ranges.before) in
    c.leaving-found.ensures.first ∙ ap (leaving L M s) c.points.ensures.points ∙ sym here ∙ c.loop-block.invariant.rest ∙ raw

pub returns-then-sum-least-clause-cost : goal.returns-then-sum-least-clause-cost
returns-then-sum-least-clause-cost g c =
    let bs = c.args.blocks.now in
    let i = c.loop-block.block-index in
    let b = c.block-item.result in
    let s = to_z w64 c.loop-block.sum-bits in
    let L = to_z w64 (of_z w64 c.args.least) in
    let M = to_z w64 (of_z w64 c.args.most) in
    let cut = drop_block i (i + 1) bs b c.loop-block-test.true refl c.block-item.is in
    let ahead = ahead_there bs i L M s b (together (drop (i + 1) bs)) c.leaving-found.result c.requires.rising (ap together cut) (c.leaving-found.ensures.first ∙ ap (leaving L M s) c.points.ensures.points) in
    omega (arith, c.stand_at.ensures, c.leaving-found.ensures.few, c.points.ensures.few, c.pass.ensures, c.loop-block.invariant.few, ahead, length-drop i bs, c.loop-block-test.true)

pub overflow_add-sum-in-loop-block : goal.overflow_add-sum-in-loop-block
overflow_add-sum-in-loop-block g c =
    let bs = c.args.blocks.now in
    let i = c.loop-block.block-index in
    let b = c.block-item.result in
    let s = to_z w64 c.loop-block.sum-bits in
    let more = together (drop (i + 1) bs) in
    let cut = drop_block i (i + 1) bs b c.loop-block-test.true refl c.block-item.is in
    let small = small_split s b more (subst (λ l. SmallFrom s (together l)) cut c.loop-block.invariant.small) in
    (small_sum s c.sum-sum.result (small_head s b small.0) (subst (λ z. IsSmall (s +ℤ z)) (sym c.sum-sum.ensures) (small_head (s +ℤ change_of b) more small.1))).0

pub loop-block-preserved : goal.loop-block-preserved
loop-block-preserved g c =
    let bs = c.args.blocks.now in
    let i = c.loop-block.block-index in
    let b = c.block-item.result in
    let s = to_z w64 c.loop-block.sum-bits in
    let L = to_z w64 (of_z w64 c.args.least) in
    let M = to_z w64 (of_z w64 c.args.most) in
    let more = together (drop (i + 1) bs) in
    let cut = drop_block i (i + 1) bs b c.loop-block-test.true refl c.block-item.is in
    let small = small_split s b more (subst (λ l. SmallFrom s (together l)) cut c.loop-block.invariant.small) in
    let some = (sized_at i bs b c.requires.sized c.loop-block-test.true c.block-item.is).0 in
    let fronts = small_fronts s b some small.0 in
    let low = (small_sum s c.least.result (small_head s b small.0) (subst (λ z. IsSmall (s +ℤ z)) (sym c.least.ensures) fronts.0)).1 ∙ ap (λ z. s +ℤ z) c.least.ensures in
    let high = (small_sum s c.greatest.result (small_head s b small.0) (subst (λ z. IsSmall (s +ℤ z)) (sym c.greatest.ensures) fronts.1)).1 ∙ ap (λ z. s +ℤ z) c.greatest.ensures in
    let value : to_z w64 (of_z w64 (s +ℤ to_z w64 (of_z w64 c.sum-sum.result))) ≡ s +ℤ change_of b = (small_sum s c.sum-sum.result (small_head s b small.0) (subst (λ z. IsSmall (s +ℤ z)) (sym c.sum-sum.ensures) (small_head (s +ℤ change_of b) more small.1))).1 ∙ ap (λ z. s +ℤ z) c.sum-sum.ensures in
    let inside : either_out L M (s +ℤ least_sum b) (s +ℤ greatest_sum b) ≡ false = or_from (int_lt (s +ℤ least_sum b) L) (int_lt M (s +ℤ greatest_sum b)) (ap (λ z. int_lt z L) (sym low) ∙ c.if-sum-least.false) (ap (int_lt M) (sym high) ∙ c.if-most-sum.false) in
    let none : is_some (leaving L M s b) ≡ false = sym (out_there L M s b some) ∙ inside in
    let here : leaving L M s (together (drop i bs)) ≡ leaving L M (s +ℤ change_of b) more = ap (λ l. leaving L M s (together l)) cut ∙ leaving_later L M s b more none in
    record {
      rest = ap (λ z. leaving L M z more) value ∙ sym here ∙ c.loop-block.invariant.rest;
      small = rw value small.1;
      more = omega (arith, c.pass.ensures, c.loop-block.invariant.more);
      few = omega (arith, c.pass.ensures, c.loop-block.invariant.few);
    }
