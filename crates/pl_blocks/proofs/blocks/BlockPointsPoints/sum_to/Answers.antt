use Rattle.std.proofs.Common.{◌≡◌, ◌<◌, ◌+◌, arith, ap, sym, ◌∙◌, subst, length, take, drop, ◌+ℤ◌}
use mir.Val.{to_z, of_z}
use mir.Syntax.{w64}
use Rattle.std.proofs.lemmas.List.{length-drop}
use Rattle.pl_lists.specs.Lists.{front, back}
use Rattle.pl_points.specs.Sums.{IsSmall}
use Rattle.pl_points.specs.Points.{sum_to, sum_below}
use Rattle.pl_blocks.specs.Blocks.{together, is_past, blocks_from, change_of}
use Rattle.pl_blocks.proofs.Rows.{blocks_fall, parts_most, sized_at}
use Rattle.pl_blocks.proofs.RowSums.{sum_there, sum_nowhere, small_before, small_is}
use Rattle.pl_blocks.proofs.Searches.{ended}
use Rattle.pl_blocks.proofs.blocks.BlockPointsPoints.sum_to.Goals as goal

pub returns-then-place-len-clause-sum : goal.returns-then-place-len-clause-sum
returns-then-place-len-clause-sum g c =
    let bs = c.self.inside.blocks.items in
    let at = c.args.at in
    let i = c.past_near-place.result in
    let before : take i bs ≡ front (is_past at) bs = rw c.deref.ensures.value at c.past_near-place.ensures.before in
    let rest : drop i bs ≡ back (is_past at) bs = rw c.deref.ensures.value at c.past_near-place.ensures.rest in
    let so_far : c.sum_before-before.result ≡ change_of (together (take i bs)) = c.sum_before-before.ensures.sum ∙ ap (λ l. change_of (together (take i l))) c.deref-2.ensures.value in
    let raw = ap (λ z. to_z w64 (of_z w64 z)) so_far ∙ small_is (change_of (together (take i bs))) (small_before i bs c.self.invariant.points) in
    raw ∙ sym (sum_nowhere at i bs before (omega (arith, c.if-place-len.true, c.len.ensures, c.deref.ensures.len, ap length c.deref.ensures.value))) ∙ ap (λ l. sum_to (together l) at) c.self.view_is

pub overflow_add-result : goal.overflow_add-result
overflow_add-result g c =
    let bs = c.self.inside.blocks.items in
    let at = c.args.at in
    let i = c.past_near-place.result in
    let before : take i bs ≡ front (is_past at) bs = rw c.deref.ensures.value at c.past_near-place.ensures.before in
    let rest : drop i bs ≡ back (is_past at) bs = rw c.deref.ensures.value at c.past_near-place.ensures.rest in
    let so_far : c.sum_before-before.result ≡ change_of (together (take i bs)) = c.sum_before-before.ensures.sum ∙ ap (λ l. change_of (together (take i l))) c.deref-2.ensures.value in
    let lt : i < length bs = omega (arith, c.if-place-len.false, c.len.ensures, c.deref.ensures.len, ap length c.deref.ensures.value, c.past_near-place.ensures.bound) in
    let b = c.index.result.now in
    let sum : sum_to (together bs) at ≡ change_of (together (take i bs)) +ℤ sum_below b (at + 1) = sum_there at i bs b c.self.invariant.points.rising before rest lt c.index.ensures in
    let here : c.passed.result.1 ≡ sum_below b (at + 1) = c.passed.ensures.sum ∙ ap (λ n. sum_below b (n + 1)) c.from.ensures in
    let small = small_before i bs c.self.invariant.points in
    let value = ended (to_z w64 (of_z w64 c.sum_before-before.result)) c.passed.result.1 (change_of (together (take i bs))) (sum_below b (at + 1)) (ap (λ z. to_z w64 (of_z w64 z)) so_far ∙ small_is (change_of (together (take i bs))) small) here small (subst (λ z. IsSmall z) sum (c.self.invariant.points.small at)) in
    value.0

pub returns-clause-sum : goal.returns-clause-sum
returns-clause-sum g c =
    let bs = c.self.inside.blocks.items in
    let at = c.args.at in
    let i = c.past_near-place.result in
    let before : take i bs ≡ front (is_past at) bs = rw c.deref.ensures.value at c.past_near-place.ensures.before in
    let rest : drop i bs ≡ back (is_past at) bs = rw c.deref.ensures.value at c.past_near-place.ensures.rest in
    let so_far : c.sum_before-before.result ≡ change_of (together (take i bs)) = c.sum_before-before.ensures.sum ∙ ap (λ l. change_of (together (take i l))) c.deref-2.ensures.value in
    let lt : i < length bs = omega (arith, c.if-place-len.false, c.len.ensures, c.deref.ensures.len, ap length c.deref.ensures.value, c.past_near-place.ensures.bound) in
    let b = c.index.result.now in
    let sum : sum_to (together bs) at ≡ change_of (together (take i bs)) +ℤ sum_below b (at + 1) = sum_there at i bs b c.self.invariant.points.rising before rest lt c.index.ensures in
    let here : c.passed.result.1 ≡ sum_below b (at + 1) = c.passed.ensures.sum ∙ ap (λ n. sum_below b (n + 1)) c.from.ensures in
    let small = small_before i bs c.self.invariant.points in
    let value = ended (to_z w64 (of_z w64 c.sum_before-before.result)) c.passed.result.1 (change_of (together (take i bs))) (sum_below b (at + 1)) (ap (λ z. to_z w64 (of_z w64 z)) so_far ∙ small_is (change_of (together (take i bs))) small) here small (subst (λ z. IsSmall z) sum (c.self.invariant.points.small at)) in
    value.1 ∙ sym sum ∙ ap (λ l. sum_to (together l) at) c.self.view_is

pub returns-clause-cost : goal.returns-clause-cost
returns-clause-cost g c =
    let bs = c.self.inside.blocks.items in
    let at = c.args.at in
    let i = c.past_near-place.result in
    let before : take i bs ≡ front (is_past at) bs = rw c.deref.ensures.value at c.past_near-place.ensures.before in
    let rest : drop i bs ≡ back (is_past at) bs = rw c.deref.ensures.value at c.past_near-place.ensures.rest in
    let so_far : c.sum_before-before.result ≡ change_of (together (take i bs)) = c.sum_before-before.ensures.sum ∙ ap (λ l. change_of (together (take i l))) c.deref-2.ensures.value in
    let lt : i < length bs = omega (arith, c.if-place-len.false, c.len.ensures, c.deref.ensures.len, ap length c.deref.ensures.value, c.past_near-place.ensures.bound) in
    let b = c.index.result.now in
    let parts = parts_most bs c.self.invariant.full in
    let self = c.self.view_is in
    let few = (sized_at i bs b c.self.invariant.sized lt c.index.ensures).1 in
    omega (arith, c.tick.ensures, c.past_near-place.ensures.cost, c.stand_at.ensures, c.sum_before-before.ensures.cost, c.passed.ensures.few, few, lt, ap length rest, length-drop i bs, ap length c.deref-2.ensures.value, parts, ap (λ l. blocks_from l at) self, ap (λ l. length (together l)) self)

pub returns-then-place-len-clause-falls : goal.returns-then-place-len-clause-falls
returns-then-place-len-clause-falls g c = λ a b le. blocks_fall c.args.self.now a b le

pub returns-clause-falls : goal.returns-clause-falls
returns-clause-falls g c = λ a b le. blocks_fall c.args.self.now a b le
