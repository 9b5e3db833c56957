use Rattle.std.proofs.Common.{◌≡◌, ◌<◌, ◌≤◌, ◌+◌, ◌-◌, suc, refl, get_or, arith, ap, sym, ◌∙◌, subst, [], length, take, drop, ◌+ℤ◌, ◌-ℤ◌, true, false}
use Rattle.std.specs.Prelude.{is_some}
use mir.Val.{to_z, of_z}
use mir.Syntax.{w64}
use Rattle.std.proofs.lemmas.Int.{ints, to_z-of_z}
use Rattle.std.proofs.lemmas.List.{take_rest, length-drop, get_or_default}
use Rattle.pl_lists.specs.Lists.{front, back}
use Rattle.pl_points.specs.Sums.{IsSmall}
use Rattle.pl_points.specs.Points.{is_before, sum_below, first_outside, leaving, RiseFrom, SmallFrom, ahead_of}
use Rattle.pl_points.proofs.Outside.{same_leaving, first_is_leaving, rising_back}
use Rattle.pl_blocks.specs.Blocks.{together, is_past, blocks_from, change_of, AreSized}
use Rattle.pl_blocks.proofs.Rows.{back_nowhere, sized_at, sized_drop, rising_rest}
use Rattle.pl_blocks.proofs.RowSums.{change_taken, calm_end}
use Rattle.pl_blocks.proofs.Summaries.{leaving_first, leaving_later}
use Rattle.pl_blocks.proofs.Searches.{sums_at, started, ended, ahead_from, ahead_behind, from_next}
use Rattle.pl_blocks.proofs.blocks.BlockPointsPoints.first_outside.Goals as goal

pub returns-then-place-len-clause-first : goal.returns-then-place-len-clause-first
returns-then-place-len-clause-first g c =
    let bs = c.self.inside.blocks.items in
    let i = c.past_near-place.result in
    let from = c.args.from in
    let before : take i bs ≡ front (is_past from) bs = rw c.deref.ensures.value at c.past_near-place.ensures.before in
    let none : back (is_before from) (together bs) ≡ [] = back_nowhere from i bs before (omega (arith, c.if-place-len.true, c.len.ensures, c.deref.ensures.len, ap length c.deref.ensures.value)) in
    let sum : c.args.before ≡ sum_below (together bs) from = c.requires ∙ ap (λ l. sum_below (together l) from) (sym c.self.view_is) in
    sym (first_is_leaving (together bs) from c.args.least c.args.most c.args.before c.self.invariant.points.rising sum ∙ ap (leaving c.args.least c.args.most c.args.before) none)
    ∙ ap (λ l. first_outside (together l) from c.args.least c.args.most) c.self.view_is

pub ends_calm-requires-clause-there : goal.ends_calm-requires-clause-there
ends_calm-requires-clause-there g c = omega (arith, c.if-place-len.false, c.len.ensures, c.deref.ensures.len, ap length c.deref.ensures.value, c.past_near-place.ensures.bound, ap length c.deref-2.ensures.value)

pub returns-then-ends_calm-clause-first : goal.returns-then-ends_calm-clause-first
returns-then-ends_calm-clause-first g c =
    let bs = c.self.inside.blocks.items in
    let from = c.args.from in
    let i = c.past_near-place.result in
    let l = c.args.least in
    let m = c.args.most in
    let L = to_z w64 (of_z w64 l) in
    let M = to_z w64 (of_z w64 m) in
    let pre = change_of (together (take i bs)) in
    let b = get_or bs i [] in
    let before : take i bs ≡ front (is_past from) bs = rw c.deref.ensures.value at c.past_near-place.ensures.before in
    let rest : drop i bs ≡ back (is_past from) bs = rw c.deref.ensures.value at c.past_near-place.ensures.rest in
    let lt : i < length bs = omega (arith, c.if-place-len.false, c.len.ensures, c.deref.ensures.len, ap length c.deref.ensures.value, c.past_near-place.ensures.bound) in
    let sum : c.args.before ≡ sum_below (together bs) from = c.requires ∙ ap (λ t. sum_below (together t) from) (sym c.self.view_is) in
    let xs = together (drop i bs) in
    let raw : is_some (leaving L M pre xs) ≡ false = ap (λ t. is_some (leaving L M (change_of (together (take i t))) (together (drop i t)))) (sym c.deref-2.ensures.value) ∙ c.ends_calm.ensures c.if-ends_calm.true in
    let calm : is_some (leaving l m pre xs) ≡ false = ap is_some (sym (same_leaving L M pre l m pre xs (to_z-of_z w64 l c.ranges.least) (to_z-of_z w64 m c.ranges.most) refl)) ∙ raw in
    calm_end bs i from b l m c.args.before c.self.invariant.points before rest lt (get_or_default bs i [] b lt) sum calm ∙ ap (λ t. first_outside (together t) from l m) c.self.view_is

pub overflow_sub-start : goal.overflow_sub-start
overflow_sub-start g c =
    let bs = c.self.inside.blocks.items in
    let from = c.args.from in
    let i = c.past_near-place.result in
    let ps = c.index-block.result.now in
    let n = c.passed-count.result.0 in
    let pre = change_of (together (take i bs)) in
    let before : take i bs ≡ front (is_past from) bs = rw c.deref.ensures.value at c.past_near-place.ensures.before in
    let rest : drop i bs ≡ back (is_past from) bs = rw c.deref.ensures.value at c.past_near-place.ensures.rest in
    let lt : i < length bs = omega (arith, c.if-place-len.false, c.len.ensures, c.deref.ensures.len, ap length c.deref.ensures.value, c.past_near-place.ensures.bound) in
    let sums = sums_at bs i from ps c.self.invariant.points before rest lt c.index-block.ensures in
    let skipped : sum_below ps from ≡ c.passed-count.result.1 = ap (sum_below ps) (sym c.from.ensures) ∙ sym c.passed-count.ensures.sum in
    let whole_sum : c.args.before ≡ sum_below (together bs) from = c.requires ∙ ap (λ l. sum_below (together l) from) (sym c.self.view_is) in
    let sum : c.args.before ≡ pre +ℤ c.passed-count.result.1 = whole_sum ∙ sums.before ∙ ap (λ z. pre +ℤ z) skipped in
    let start = started c.args.before c.passed-count.result.1 pre sum sums.small (subst (λ z. IsSmall (pre +ℤ z)) skipped sums.small_before) in
    start.0

pub leaving_from-found-requires-clause-before : goal.leaving_from-found-requires-clause-before
leaving_from-found-requires-clause-before g c =
    let bs = c.self.inside.blocks.items in
    let from = c.args.from in
    let i = c.past_near-place.result in
    let ps = c.index-block.result.now in
    let n = c.passed-count.result.0 in
    let pre = change_of (together (take i bs)) in
    let before : take i bs ≡ front (is_past from) bs = rw c.deref.ensures.value at c.past_near-place.ensures.before in
    let rest : drop i bs ≡ back (is_past from) bs = rw c.deref.ensures.value at c.past_near-place.ensures.rest in
    let lt : i < length bs = omega (arith, c.if-place-len.false, c.len.ensures, c.deref.ensures.len, ap length c.deref.ensures.value, c.past_near-place.ensures.bound) in
    let sums = sums_at bs i from ps c.self.invariant.points before rest lt c.index-block.ensures in
    let skipped : sum_below ps from ≡ c.passed-count.result.1 = ap (sum_below ps) (sym c.from.ensures) ∙ sym c.passed-count.ensures.sum in
    let whole_sum : c.args.before ≡ sum_below (together bs) from = c.requires ∙ ap (λ l. sum_below (together l) from) (sym c.self.view_is) in
    let sum : c.args.before ≡ pre +ℤ c.passed-count.result.1 = whole_sum ∙ sums.before ∙ ap (λ z. pre +ℤ z) skipped in
    let start = started c.args.before c.passed-count.result.1 pre sum sums.small (subst (λ z. IsSmall (pre +ℤ z)) skipped sums.small_before) in
    let cut : drop n ps ≡ back (is_before from) ps = c.passed-count.ensures.rest ∙ ap (λ m. back (is_before m) ps) c.from.ensures in
    let raw : to_z w64 (of_z w64 c.args.before) ≡ c.args.before = to_z-of_z w64 c.args.before c.ranges.before in
    omega (arith, ints, raw, start.1, sum, skipped, change_taken ps n from sums.rising cut)

pub leaving_from-found-requires-clause-small : goal.leaving_from-found-requires-clause-small
leaving_from-found-requires-clause-small g c =
    let bs = c.self.inside.blocks.items in
    let from = c.args.from in
    let i = c.past_near-place.result in
    let ps = c.index-block.result.now in
    let n = c.passed-count.result.0 in
    let pre = change_of (together (take i bs)) in
    let before : take i bs ≡ front (is_past from) bs = rw c.deref.ensures.value at c.past_near-place.ensures.before in
    let rest : drop i bs ≡ back (is_past from) bs = rw c.deref.ensures.value at c.past_near-place.ensures.rest in
    let lt : i < length bs = omega (arith, c.if-place-len.false, c.len.ensures, c.deref.ensures.len, ap length c.deref.ensures.value, c.past_near-place.ensures.bound) in
    let sums = sums_at bs i from ps c.self.invariant.points before rest lt c.index-block.ensures in
    let skipped : sum_below ps from ≡ c.passed-count.result.1 = ap (sum_below ps) (sym c.from.ensures) ∙ sym c.passed-count.ensures.sum in
    let whole_sum : c.args.before ≡ sum_below (together bs) from = c.requires ∙ ap (λ l. sum_below (together l) from) (sym c.self.view_is) in
    let sum : c.args.before ≡ pre +ℤ c.passed-count.result.1 = whole_sum ∙ sums.before ∙ ap (λ z. pre +ℤ z) skipped in
    let start = started c.args.before c.passed-count.result.1 pre sum sums.small (subst (λ z. IsSmall (pre +ℤ z)) skipped sums.small_before) in
    subst (λ z. SmallFrom z ps) (sym start.1) sums.along

pub returns-then-is_some-clause-first : goal.returns-then-is_some-clause-first
returns-then-is_some-clause-first g c =
    let bs = c.self.inside.blocks.items in
    let from = c.args.from in
    let i = c.past_near-place.result in
    let ps = c.index-block.result.now in
    let n = c.passed-count.result.0 in
    let pre = change_of (together (take i bs)) in
    let before : take i bs ≡ front (is_past from) bs = rw c.deref.ensures.value at c.past_near-place.ensures.before in
    let rest : drop i bs ≡ back (is_past from) bs = rw c.deref.ensures.value at c.past_near-place.ensures.rest in
    let lt : i < length bs = omega (arith, c.if-place-len.false, c.len.ensures, c.deref.ensures.len, ap length c.deref.ensures.value, c.past_near-place.ensures.bound) in
    let sums = sums_at bs i from ps c.self.invariant.points before rest lt c.index-block.ensures in
    let skipped : sum_below ps from ≡ c.passed-count.result.1 = ap (sum_below ps) (sym c.from.ensures) ∙ sym c.passed-count.ensures.sum in
    let whole_sum : c.args.before ≡ sum_below (together bs) from = c.requires ∙ ap (λ l. sum_below (together l) from) (sym c.self.view_is) in
    let sum : c.args.before ≡ pre +ℤ c.passed-count.result.1 = whole_sum ∙ sums.before ∙ ap (λ z. pre +ℤ z) skipped in
    let start = started c.args.before c.passed-count.result.1 pre sum sums.small (subst (λ z. IsSmall (pre +ℤ z)) skipped sums.small_before) in
    let l = c.args.least in
    let m = c.args.most in
    let L = to_z w64 (of_z w64 l) in
    let M = to_z w64 (of_z w64 m) in
    let B = to_z w64 (of_z w64 c.args.before) in
    let cut : drop n ps ≡ back (is_before from) ps = c.passed-count.ensures.rest ∙ ap (λ m. back (is_before m) ps) c.from.ensures in
    let found : c.leaving_from-found.result ≡ leaving l m c.args.before (back (is_before from) ps) = c.leaving_from-found.ensures.first ∙ same_leaving L M B l m c.args.before (drop n ps) (to_z-of_z w64 l c.ranges.least) (to_z-of_z w64 m c.ranges.most) (to_z-of_z w64 c.args.before c.ranges.before) ∙ ap (leaving l m c.args.before) cut in
    let some : is_some (leaving l m c.args.before (back (is_before from) ps)) ≡ true = ap is_some (sym found) ∙ sym c.is_some.ensures ∙ c.if-is_some.true in
    found ∙ sym (leaving_first l m c.args.before (back (is_before from) ps) (together (drop (suc i) bs)) some)
    ∙ ap (leaving l m c.args.before) (sym sums.whole)
    ∙ sym (first_is_leaving (together bs) from l m c.args.before c.self.invariant.points.rising whole_sum)
    ∙ ap (λ t. first_outside (together t) from l m) c.self.view_is

pub returns-then-is_some-clause-cost : goal.returns-then-is_some-clause-cost
returns-then-is_some-clause-cost g c =
    let bs = c.self.inside.blocks.items in
    let from = c.args.from in
    let i = c.past_near-place.result in
    let ps = c.index-block.result.now in
    let n = c.passed-count.result.0 in
    let pre = change_of (together (take i bs)) in
    let before : take i bs ≡ front (is_past from) bs = rw c.deref.ensures.value at c.past_near-place.ensures.before in
    let rest : drop i bs ≡ back (is_past from) bs = rw c.deref.ensures.value at c.past_near-place.ensures.rest in
    let lt : i < length bs = omega (arith, c.if-place-len.false, c.len.ensures, c.deref.ensures.len, ap length c.deref.ensures.value, c.past_near-place.ensures.bound) in
    let sums = sums_at bs i from ps c.self.invariant.points before rest lt c.index-block.ensures in
    let skipped : sum_below ps from ≡ c.passed-count.result.1 = ap (sum_below ps) (sym c.from.ensures) ∙ sym c.passed-count.ensures.sum in
    let whole_sum : c.args.before ≡ sum_below (together bs) from = c.requires ∙ ap (λ l. sum_below (together l) from) (sym c.self.view_is) in
    let sum : c.args.before ≡ pre +ℤ c.passed-count.result.1 = whole_sum ∙ sums.before ∙ ap (λ z. pre +ℤ z) skipped in
    let start = started c.args.before c.passed-count.result.1 pre sum sums.small (subst (λ z. IsSmall (pre +ℤ z)) skipped sums.small_before) in
    let l = c.args.least in
    let m = c.args.most in
    let L = to_z w64 (of_z w64 l) in
    let M = to_z w64 (of_z w64 m) in
    let B = to_z w64 (of_z w64 c.args.before) in
    let cut : drop n ps ≡ back (is_before from) ps = c.passed-count.ensures.rest ∙ ap (λ m. back (is_before m) ps) c.from.ensures in
    let rising : RiseFrom from (back (is_before from) ps) = rising_back 0 from ps sums.rising in
    let ahead = ahead_from c.args.self.now from L M B (back (is_before from) ps) c.leaving_from-found.result rising (c.leaving_from-found.ensures.first ∙ ap (leaving L M B) cut) in
    let few = (sized_at i bs ps c.self.invariant.sized lt c.index-block.ensures).1 in
    omega (arith, c.tick.ensures, c.past_near-place.ensures.cost, c.passed-count.ensures.cost, c.passed-count.ensures.bound, c.leaving_from-found.ensures.few, c.stand_at-2.ensures, few, ahead)

pub overflow_add-sum : goal.overflow_add-sum
overflow_add-sum g c =
    let bs = c.self.inside.blocks.items in
    let from = c.args.from in
    let i = c.past_near-place.result in
    let ps = c.index-block.result.now in
    let n = c.passed-count.result.0 in
    let pre = change_of (together (take i bs)) in
    let before : take i bs ≡ front (is_past from) bs = rw c.deref.ensures.value at c.past_near-place.ensures.before in
    let rest : drop i bs ≡ back (is_past from) bs = rw c.deref.ensures.value at c.past_near-place.ensures.rest in
    let lt : i < length bs = omega (arith, c.if-place-len.false, c.len.ensures, c.deref.ensures.len, ap length c.deref.ensures.value, c.past_near-place.ensures.bound) in
    let sums = sums_at bs i from ps c.self.invariant.points before rest lt c.index-block.ensures in
    let skipped : sum_below ps from ≡ c.passed-count.result.1 = ap (sum_below ps) (sym c.from.ensures) ∙ sym c.passed-count.ensures.sum in
    let whole_sum : c.args.before ≡ sum_below (together bs) from = c.requires ∙ ap (λ l. sum_below (together l) from) (sym c.self.view_is) in
    let sum : c.args.before ≡ pre +ℤ c.passed-count.result.1 = whole_sum ∙ sums.before ∙ ap (λ z. pre +ℤ z) skipped in
    let start = started c.args.before c.passed-count.result.1 pre sum sums.small (subst (λ z. IsSmall (pre +ℤ z)) skipped sums.small_before) in
    let added : c.sum.result ≡ change_of ps = c.sum.ensures in
    let end = ended (to_z w64 (of_z w64 (to_z w64 (of_z w64 c.args.before) -ℤ to_z w64 (of_z w64 c.passed-count.result.1)))) c.sum.result pre (change_of ps) start.1 added sums.small sums.small_behind in
    end.0

pub leaving_blocks-requires-clause-sized : goal.leaving_blocks-requires-clause-sized
leaving_blocks-requires-clause-sized g c =
    let all = c.deref-3.result.now in
    let j = c.past_near-place.result + 1 in
    subst AreSized (sym (take_rest all j)) (sized_drop j all (subst AreSized (sym c.deref-3.ensures.value) c.self.invariant.sized))

pub leaving_blocks-requires-clause-rising : goal.leaving_blocks-requires-clause-rising
leaving_blocks-requires-clause-rising g c =
    let all = c.deref-3.result.now in
    let j = c.past_near-place.result + 1 in
    subst (λ l. RiseFrom 0 (together l)) (sym (take_rest all j)) (rising_rest j all (subst (λ l. RiseFrom 0 (together l)) (sym c.deref-3.ensures.value) c.self.invariant.points.rising))

pub leaving_blocks-requires-clause-small : goal.leaving_blocks-requires-clause-small
leaving_blocks-requires-clause-small g c =
    let bs = c.self.inside.blocks.items in
    let from = c.args.from in
    let i = c.past_near-place.result in
    let ps = c.index-block.result.now in
    let n = c.passed-count.result.0 in
    let pre = change_of (together (take i bs)) in
    let before : take i bs ≡ front (is_past from) bs = rw c.deref.ensures.value at c.past_near-place.ensures.before in
    let rest : drop i bs ≡ back (is_past from) bs = rw c.deref.ensures.value at c.past_near-place.ensures.rest in
    let lt : i < length bs = omega (arith, c.if-place-len.false, c.len.ensures, c.deref.ensures.len, ap length c.deref.ensures.value, c.past_near-place.ensures.bound) in
    let sums = sums_at bs i from ps c.self.invariant.points before rest lt c.index-block.ensures in
    let skipped : sum_below ps from ≡ c.passed-count.result.1 = ap (sum_below ps) (sym c.from.ensures) ∙ sym c.passed-count.ensures.sum in
    let whole_sum : c.args.before ≡ sum_below (together bs) from = c.requires ∙ ap (λ l. sum_below (together l) from) (sym c.self.view_is) in
    let sum : c.args.before ≡ pre +ℤ c.passed-count.result.1 = whole_sum ∙ sums.before ∙ ap (λ z. pre +ℤ z) skipped in
    let start = started c.args.before c.passed-count.result.1 pre sum sums.small (subst (λ z. IsSmall (pre +ℤ z)) skipped sums.small_before) in
    let added : c.sum.result ≡ change_of ps = c.sum.ensures in
    let end = ended (to_z w64 (of_z w64 (to_z w64 (of_z w64 c.args.before) -ℤ to_z w64 (of_z w64 c.passed-count.result.1)))) c.sum.result pre (change_of ps) start.1 added sums.small sums.small_behind in
    let all = c.deref-3.result.now in
    let cut : take (length all - (i + 1)) (drop (i + 1) all) ≡ drop (suc i) bs = take_rest all (i + 1) ∙ ap (drop (i + 1)) c.deref-3.ensures.value ∙ from_next i bs in
    rw end.1 (subst (λ l. SmallFrom (pre +ℤ change_of ps) (together l)) (sym cut) sums.rest)

pub returns-clause-first : goal.returns-clause-first
returns-clause-first g c =
    let bs = c.self.inside.blocks.items in
    let from = c.args.from in
    let i = c.past_near-place.result in
    let ps = c.index-block.result.now in
    let n = c.passed-count.result.0 in
    let pre = change_of (together (take i bs)) in
    let before : take i bs ≡ front (is_past from) bs = rw c.deref.ensures.value at c.past_near-place.ensures.before in
    let rest : drop i bs ≡ back (is_past from) bs = rw c.deref.ensures.value at c.past_near-place.ensures.rest in
    let lt : i < length bs = omega (arith, c.if-place-len.false, c.len.ensures, c.deref.ensures.len, ap length c.deref.ensures.value, c.past_near-place.ensures.bound) in
    let sums = sums_at bs i from ps c.self.invariant.points before rest lt c.index-block.ensures in
    let skipped : sum_below ps from ≡ c.passed-count.result.1 = ap (sum_below ps) (sym c.from.ensures) ∙ sym c.passed-count.ensures.sum in
    let whole_sum : c.args.before ≡ sum_below (together bs) from = c.requires ∙ ap (λ l. sum_below (together l) from) (sym c.self.view_is) in
    let sum : c.args.before ≡ pre +ℤ c.passed-count.result.1 = whole_sum ∙ sums.before ∙ ap (λ z. pre +ℤ z) skipped in
    let start = started c.args.before c.passed-count.result.1 pre sum sums.small (subst (λ z. IsSmall (pre +ℤ z)) skipped sums.small_before) in
    let l = c.args.least in
    let m = c.args.most in
    let L = to_z w64 (of_z w64 l) in
    let M = to_z w64 (of_z w64 m) in
    let B = to_z w64 (of_z w64 c.args.before) in
    let S = to_z w64 (of_z w64 (to_z w64 (of_z w64 (to_z w64 (of_z w64 c.args.before) -ℤ to_z w64 (of_z w64 c.passed-count.result.1))) +ℤ to_z w64 (of_z w64 c.sum.result))) in
    let added : c.sum.result ≡ change_of ps = c.sum.ensures in
    let end = ended (to_z w64 (of_z w64 (to_z w64 (of_z w64 c.args.before) -ℤ to_z w64 (of_z w64 c.passed-count.result.1)))) c.sum.result pre (change_of ps) start.1 added sums.small sums.small_behind in
    let cut : drop n ps ≡ back (is_before from) ps = c.passed-count.ensures.rest ∙ ap (λ m. back (is_before m) ps) c.from.ensures in
    let found : c.leaving_from-found.result ≡ leaving l m c.args.before (back (is_before from) ps) = c.leaving_from-found.ensures.first ∙ same_leaving L M B l m c.args.before (drop n ps) (to_z-of_z w64 l c.ranges.least) (to_z-of_z w64 m c.ranges.most) (to_z-of_z w64 c.args.before c.ranges.before) ∙ ap (leaving l m c.args.before) cut in
    let all = c.deref-3.result.now in
    let ys = take (length all - (i + 1)) (drop (i + 1) all) in
    let cut_rest : ys ≡ drop (suc i) bs = take_rest all (i + 1) ∙ ap (drop (i + 1)) c.deref-3.ensures.value ∙ from_next i bs in
    let none : is_some (leaving l m c.args.before (back (is_before from) ps)) ≡ false = ap is_some (sym found) ∙ sym c.is_some.ensures ∙ c.if-is_some.false in
    let ends : c.args.before +ℤ change_of (back (is_before from) ps) ≡ pre +ℤ change_of ps = omega (arith, ints, sum, skipped, sums.change) in
    c.leaving_blocks.ensures.first ∙ same_leaving L M S l m (pre +ℤ change_of ps) (together ys) (to_z-of_z w64 l c.ranges.least) (to_z-of_z w64 m c.ranges.most) end.1
    ∙ ap (λ t. leaving l m (pre +ℤ change_of ps) (together t)) cut_rest ∙ ap (λ z. leaving l m z (together (drop (suc i) bs))) (sym ends)
    ∙ sym (leaving_later l m c.args.before (back (is_before from) ps) (together (drop (suc i) bs)) none)
    ∙ ap (leaving l m c.args.before) (sym sums.whole)
    ∙ sym (first_is_leaving (together bs) from l m c.args.before c.self.invariant.points.rising whole_sum)
    ∙ ap (λ t. first_outside (together t) from l m) c.self.view_is

pub returns-clause-cost : goal.returns-clause-cost
returns-clause-cost g c =
    let bs = c.self.inside.blocks.items in
    let from = c.args.from in
    let i = c.past_near-place.result in
    let ps = c.index-block.result.now in
    let all = c.deref-3.result.now in
    let L = to_z w64 (of_z w64 c.args.least) in
    let M = to_z w64 (of_z w64 c.args.most) in
    let S = to_z w64 (of_z w64 (to_z w64 (of_z w64 (to_z w64 (of_z w64 c.args.before) -ℤ to_z w64 (of_z w64 c.passed-count.result.1))) +ℤ to_z w64 (of_z w64 c.sum.result))) in
    let ys = take (length all - (i + 1)) (drop (i + 1) all) in
    let rest : drop i bs ≡ back (is_past from) bs = rw c.deref.ensures.value at c.past_near-place.ensures.rest in
    let lt : i < length bs = omega (arith, c.if-place-len.false, c.len.ensures, c.deref.ensures.len, ap length c.deref.ensures.value, c.past_near-place.ensures.bound) in
    let cut_rest : ys ≡ drop (i + 1) bs = take_rest all (i + 1) ∙ ap (drop (i + 1)) c.deref-3.ensures.value in
    let result_is : c.leaving_blocks.result ≡ leaving L M S (together (drop (i + 1) bs)) = c.leaving_blocks.ensures.first ∙ ap (λ t. leaving L M S (together t)) cut_rest in
    let ahead = ahead_behind bs (i + 1) L M S c.leaving_blocks.result c.self.invariant.points.rising result_is in
    let ahead_ys = ap (λ t. ahead_of (blocks_from t) c.leaving_blocks.result) cut_rest in
    let ahead_self = ap (λ t. ahead_of (blocks_from t) c.leaving_blocks.result) c.self.view_is in
    let from_self = ap (λ t. blocks_from t from) c.self.view_is in
    let few = (sized_at i bs ps c.self.invariant.sized lt c.index-block.ensures).1 in
    omega (
      arith,
      c.tick.ensures,
      c.past_near-place.ensures.cost,
      c.passed-count.ensures.cost,
      c.passed-count.ensures.bound,
      c.leaving_from-found.ensures.few,
      c.stand_at-2.ensures,
      few,
      c.leaving_blocks.ensures.cost,
      ahead,
      ahead_ys,
      ahead_self,
      from_self,
      ap length rest,
      length-drop i bs,
      ap length cut_rest,
      length-drop (i + 1) bs,
      lt,
    )
