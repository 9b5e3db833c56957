use Rattle.std.proofs.Common.{◌+◌, arith, ap, sym, ◌∙◌, refl, subst, drop, ◌+ℤ◌}
use mir.Val.{to_z}
use mir.Syntax.{w64}
use Rattle.std.proofs.lemmas.Int.{ints}
use Rattle.std.proofs.lemmas.List.{drop_all}
use Rattle.pl_points.specs.Points.{AreNear, IsNear}
use Rattle.pl_blocks.specs.Blocks.{together, change_of}
use Rattle.pl_blocks.proofs.Rows.{drop_block}
use Rattle.pl_blocks.proofs.RowSums.{near_split, near_front, near_sum, change_append}
use Rattle.pl_blocks.proofs.summing.sum_of.Goals as goal

pub overflow_add-sum : goal.overflow_add-sum
overflow_add-sum g c =
    let bs = c.args.blocks.now in
    let i = c.loop-block.block-index in
    let b = c.block-item.result in
    let s = to_z w64 c.loop-block.sum-bits in
    let more = together (drop (i + 1) bs) in
    let cut = drop_block i (i + 1) bs b c.loop-block-test.true refl c.block-item.is in
    let near = subst (λ l. AreNear s (together l)) cut c.loop-block.invariant.near in
    (near_sum s c.sum-sum.result (near_split s b more near).0 (subst (λ z. IsNear (s +ℤ z)) (sym c.sum-sum.ensures) (near_front s b more near))).0

pub loop-block-preserved : goal.loop-block-preserved
loop-block-preserved g c =
    let bs = c.args.blocks.now in
    let i = c.loop-block.block-index in
    let b = c.block-item.result in
    let s = to_z w64 c.loop-block.sum-bits in
    let more = together (drop (i + 1) bs) in
    let cut = drop_block i (i + 1) bs b c.loop-block-test.true refl c.block-item.is in
    let near = subst (λ l. AreNear s (together l)) cut c.loop-block.invariant.near in
    let value = (near_sum s c.sum-sum.result (near_split s b more near).0 (subst (λ z. IsNear (s +ℤ z)) (sym c.sum-sum.ensures) (near_front s b more near))).1 ∙ ap (λ z. s +ℤ z) c.sum-sum.ensures in
    record {
      rest = rw value (omega (arith, ints, ap (λ l. change_of (together l)) cut, change_append b more, c.loop-block.invariant.rest));
      near = rw value (near_split s b more near).1;
      count = omega (arith, c.tick.ensures, c.loop-block.invariant.count);
    }

pub returns-clause-sum : goal.returns-clause-sum
returns-clause-sum g c =
    let bs = c.args.blocks.now in
    let none = ap (λ l. change_of (together l)) (drop_all c.loop-block.block-index bs c.loop-block-test.false) in
    omega (arith, ints, none, c.loop-block.invariant.rest)
