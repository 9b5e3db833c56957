use Rattle.std.proofs.Common.{◌≤◌, ◌+◌, ◌*◌, arith, ap, sym, refl, length, drop, subst}
use Rattle.std.proofs.lemmas.List.{length-append}
use Rattle.pl_blocks.specs.Blocks.{together, AreSized}
use Rattle.pl_blocks.proofs.Rows.{count_most, drop_block}
use Rattle.pl_blocks.proofs.blocks.BlockPointsPoints.len.Goals as goal

pub overflow_add-count : goal.overflow_add-count
overflow_add-count c =
    let bs = c.deref-block-items.result.now in
    let i = c.loop-block.block-index in
    let b = c.block-item.result in
    let cut = ap (λ l. length (together l)) (drop_block i (i + 1) bs b c.loop-block-test.true refl c.block-item.is) in
    let most : length (together bs) ≤ 64 * length bs = count_most bs (subst AreSized (sym c.deref-block-items.ensures.value) c.self.invariant.sized) in
    omega (arith, cut, most, ap length c.deref-block-items.ensures.value, c.self.invariant.few, c.loop-block.invariant, length-append b (together (drop (i + 1) bs)), ap length c.points.ensures.points)
