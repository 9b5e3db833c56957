use Rattle.std.proofs.Common.{◌≡◌, ◌<◌, ◌+◌, ◌-◌, arith, ap, sym, ◌∙◌, subst, length, take, drop, ◌+ℤ◌, ◌-ℤ◌, false}
use Rattle.std.specs.Prelude.{is_some}
use mir.Val.{to_z, of_z, SFits}
use mir.Syntax.{w64}
use Rattle.std.proofs.lemmas.Int.{to_z-of_z}
use Rattle.std.proofs.Math.Facts.{sfits_to_z}
use Rattle.std.proofs.lemmas.List.{take_all, drop_all}
use Rattle.pl_points.specs.Sums.{IsSmall}
use Rattle.pl_points.specs.Points.{leaving, SmallFrom}
use Rattle.pl_blocks.specs.Blocks.{together, change_of}
use Rattle.pl_blocks.proofs.RowSums.{block_back, calm_back, small_before}
use Rattle.pl_blocks.proofs.Searches.{started}
use Rattle.pl_blocks.proofs.blocks.ends_calm.Goals as goal

pub loop-here-init : goal.loop-here-init
loop-here-init c =
    let bs = c.args.blocks.now in
    let L = to_z w64 (of_z w64 c.args.least) in
    let M = to_z w64 (of_z w64 c.args.most) in
    let T = to_z w64 (of_z w64 c.args.total) in
    record {
      low = omega (arith, c.requires.there);
      start = to_z-of_z w64 c.args.total c.ranges.total ∙ c.requires.total ∙ ap (λ l. change_of (together l)) (sym (take_all (length bs) bs (omega arith)));
      calm = ap (λ l. is_some (leaving L M T (together l))) (drop_all (length bs) bs (omega arith));
    }

pub overflow_sub-start : goal.overflow_sub-start
overflow_sub-start c =
    let bs = c.args.blocks.now in
    let b = c.index-blocks-here.result in
    let n = c.loop-here.here in
    let i = n - 1 in
    let S = to_z w64 c.loop-here.start-bits in
    let K = c.sum-start.result in
    let pre = change_of (together (take i bs)) in
    let lt : i < length bs = omega (arith, c.loop-here.auto.here, c.loop-here-test.true) in
    let next : n ≡ i + 1 = omega (arith, c.loop-here-test.true) in
    let h = block_back i n bs b c.requires.points lt next c.index-blocks-here.is in
    let sum : change_of (together (take n bs)) ≡ pre +ℤ K = h.0 ∙ ap (λ z. pre +ℤ z) (sym c.sum-start.ensures) in
    let raw : to_z w64 (of_z w64 S) ≡ S = to_z-of_z w64 S (sfits_to_z c.loop-here.auto.start-fits) in
    let start = started S K pre (c.loop-here.invariant.start ∙ sum) (small_before i bs c.requires.points) (subst (λ z. IsSmall z) sum (small_before n bs c.requires.points)) in
    subst (λ z. SFits w64 (z -ℤ to_z w64 (of_z w64 K))) raw start.0

pub is_calm-requires : goal.is_calm-requires
is_calm-requires c =
    let bs = c.args.blocks.now in
    let b = c.index-blocks-here.result in
    let n = c.loop-here.here in
    let i = n - 1 in
    let S = to_z w64 c.loop-here.start-bits in
    let K = c.sum-start.result in
    let pre = change_of (together (take i bs)) in
    let lt : i < length bs = omega (arith, c.loop-here.auto.here, c.loop-here-test.true) in
    let next : n ≡ i + 1 = omega (arith, c.loop-here-test.true) in
    let h = block_back i n bs b c.requires.points lt next c.index-blocks-here.is in
    let sum : change_of (together (take n bs)) ≡ pre +ℤ K = h.0 ∙ ap (λ z. pre +ℤ z) (sym c.sum-start.ensures) in
    let raw : to_z w64 (of_z w64 S) ≡ S = to_z-of_z w64 S (sfits_to_z c.loop-here.auto.start-fits) in
    let start = started S K pre (c.loop-here.invariant.start ∙ sum) (small_before i bs c.requires.points) (subst (λ z. IsSmall z) sum (small_before n bs c.requires.points)) in
    let value : to_z w64 (of_z w64 (S -ℤ to_z w64 (of_z w64 K))) ≡ pre = ap (λ z. to_z w64 (of_z w64 (z -ℤ to_z w64 (of_z w64 K)))) (sym raw) ∙ start.1 in
    subst (λ z. SmallFrom z b) (sym value) h.1.0

pub loop-here-preserved : goal.loop-here-preserved
loop-here-preserved c =
    let bs = c.args.blocks.now in
    let b = c.index-blocks-here.result in
    let n = c.loop-here.here in
    let i = n - 1 in
    let S = to_z w64 c.loop-here.start-bits in
    let K = c.sum-start.result in
    let L = to_z w64 (of_z w64 c.args.least) in
    let M = to_z w64 (of_z w64 c.args.most) in
    let pre = change_of (together (take i bs)) in
    let lt : i < length bs = omega (arith, c.loop-here.auto.here, c.loop-here-test.true) in
    let next : n ≡ i + 1 = omega (arith, c.loop-here-test.true) in
    let h = block_back i n bs b c.requires.points lt next c.index-blocks-here.is in
    let sum : change_of (together (take n bs)) ≡ pre +ℤ K = h.0 ∙ ap (λ z. pre +ℤ z) (sym c.sum-start.ensures) in
    let raw : to_z w64 (of_z w64 S) ≡ S = to_z-of_z w64 S (sfits_to_z c.loop-here.auto.start-fits) in
    let start = started S K pre (c.loop-here.invariant.start ∙ sum) (small_before i bs c.requires.points) (subst (λ z. IsSmall z) sum (small_before n bs c.requires.points)) in
    let value : to_z w64 (of_z w64 (S -ℤ to_z w64 (of_z w64 K))) ≡ pre = ap (λ z. to_z w64 (of_z w64 (z -ℤ to_z w64 (of_z w64 K)))) (sym raw) ∙ start.1 in
    let here : is_some (leaving L M pre b) ≡ false = ap (λ z. is_some (leaving L M z b)) (sym value) ∙ c.is_calm.ensures c.if-not-is_calm.false in
    let behind : is_some (leaving L M (change_of (together (take n bs))) (together (drop n bs))) ≡ false = subst (λ z. is_some (leaving L M z (together (drop n bs))) ≡ false) c.loop-here.invariant.start c.loop-here.invariant.calm in
    record {
      low = omega (arith, c.loop-here-test.true);
      start = value;
      calm = subst (λ z. is_some (leaving L M z (together (drop i bs))) ≡ false) (sym value) (calm_back i n bs b L M c.requires.points lt next c.index-blocks-here.is here behind);
    }
