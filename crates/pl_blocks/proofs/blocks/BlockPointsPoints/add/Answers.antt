use Rattle.std.proofs.Common.{rules, ◌≡◌, ◌-◌, min, [], arith, ap, sym, ◌∙◌, subst, length, take, drop, ◌+ℤ◌}
use mir.Val.{to_z, of_z}
use mir.Syntax.{w64}
use Rattle.std.proofs.lemmas.Int.{ints, to_z-of_z}
use Rattle.std.proofs.lemmas.List.{nil_from_length}
use Rattle.pl_lists.specs.Lists.{front, back}
use Rattle.pl_points.specs.Sums.{IsSmall}
use Rattle.pl_points.specs.Points.{put, merged, AreSmall, IsNear}
use Rattle.pl_points.proofs.PointLists.{merged_small, sum_is}
use Rattle.pl_blocks.specs.Blocks.{together, is_past, change_of}
use Rattle.pl_blocks.proofs.Rows.{parts_most}
use Rattle.pl_blocks.proofs.RowSums.{change_put, change_merged, small_total, small_is}
use Rattle.pl_blocks.proofs.Searches.{fits_at, mended_blocks, begun_blocks}
use Rattle.pl_blocks.proofs.blocks.BlockPointsPoints.add.Goals as goal

pub begin-requires-clause-near : goal.begin-requires-clause-near
begin-requires-clause-near g c =
    let bs = c.self.inside.blocks.items in
    let is : to_z w64 (of_z w64 c.args.delta) ≡ c.args.delta = to_z-of_z w64 c.args.delta c.ranges.delta in
    let new : AreSmall (merged c.args.at c.args.delta (together bs)) = subst (λ l. AreSmall (merged c.args.at c.args.delta (together l))) (sym c.self.view_is) c.requires in
    subst (λ z. IsNear z) (sym is) (merged_small c.args.at c.args.delta (together bs) c.self.invariant.points.small new)

pub merge_at-requires-clause-delta : goal.merge_at-requires-clause-delta
merge_at-requires-clause-delta g c =
    let bs = c.self.inside.blocks.items in
    let is : to_z w64 (of_z w64 c.args.delta) ≡ c.args.delta = to_z-of_z w64 c.args.delta c.ranges.delta in
    let new : AreSmall (merged c.args.at c.args.delta (together bs)) = subst (λ l. AreSmall (merged c.args.at c.args.delta (together l))) (sym c.self.view_is) c.requires in
    subst (λ z. IsNear z) (sym is) (merged_small c.args.at c.args.delta (together bs) c.self.invariant.points.small new)

pub merge_at-requires-clause-fit : goal.merge_at-requires-clause-fit
merge_at-requires-clause-fit g c =
    let bs = c.self.inside.blocks.items in
    let at = c.args.at in
    let k = c.past_near.result in
    let is : to_z w64 (of_z w64 c.args.delta) ≡ c.args.delta = to_z-of_z w64 c.args.delta c.ranges.delta in
    let new : AreSmall (merged at c.args.delta (together bs)) = subst (λ l. AreSmall (merged at c.args.delta (together l))) (sym c.self.view_is) c.requires in
    let before : take k bs ≡ front (is_past at) bs = rw c.deref.ensures.value at c.past_near.ensures.before in
    let rest : drop k bs ≡ back (is_past at) bs = rw c.deref.ensures.value at c.past_near.ensures.rest in
    let count : length bs ≡ c.len-count.result = omega (arith, c.len-count.ensures, c.deref.ensures.len, ap length c.deref.ensures.value) in
    (fits_at bs k c.min-place.result at c.args.delta _ c.self.invariant new (omega (arith, c.past_near.ensures.bound, ap length c.deref.ensures.value)) before rest
    (c.min-place.ensures ∙ ap (λ n. min k (n - 1)) (sym count)) (omega (arith, count, c.if-count-eq0.false)) is).0

pub invariant_of-self-then-count-eq0 : goal.invariant_of-self-then-count-eq0
invariant_of-self-then-count-eq0 g c =
    let bs = c.self.inside.blocks.items in
    let d = to_z w64 (of_z w64 c.args.delta) in
    let is : d ≡ c.args.delta = to_z-of_z w64 c.args.delta c.ranges.delta in
    let none : bs ≡ [] = nil_from_length bs (search (rules, c.if-count-eq0.true, c.len-count.ensures)) in
    let new : AreSmall (merged c.args.at c.args.delta []) = subst (λ l. AreSmall (merged c.args.at c.args.delta (together l))) (sym c.self.view_is ∙ none) c.requires in
    let small : AreSmall (merged c.args.at d []) = subst (λ z. AreSmall (merged c.args.at z [])) (sym is) new in
    let all : d ≡ change_of (put c.args.at d []) = omega (arith, ints, change_put c.args.at d []) in
    begun_blocks c.begin.new.blocks.items d c.args.at d c.in_ok-begin.ensures.ok c.in_ok-begin.ensures.sized c.in_ok-begin.ensures.one small all

pub returns-in_err-merge_at-clause-cost : goal.returns-in_err-merge_at-clause-cost
returns-in_err-merge_at-clause-cost g c =
    let bs = c.self.inside.blocks.items in
    let parts = parts_most bs c.self.invariant.full in
    omega (arith, c.tick.ensures, c.past_near.ensures.cost, c.merge_at.ensures.cost, parts, ap (λ l. length (together l)) c.self.view_is)

pub overflow_add-self : goal.overflow_add-self
overflow_add-self g c =
    let bs = c.self.inside.blocks.items in
    let at = c.args.at in
    let new : AreSmall (merged at c.args.delta (together bs)) = subst (λ l. AreSmall (merged at c.args.delta (together l))) (sym c.self.view_is) c.requires in
    let near : IsNear c.args.delta = merged_small at c.args.delta (together bs) c.self.invariant.points.small new in
    let old : IsSmall c.self.inside.total = subst (λ z. IsSmall z) (sym c.self.invariant.adds_up) (small_total (together bs) c.self.invariant.points) in
    let same : to_z w64 (of_z w64 c.self.inside.total) ≡ c.self.inside.total = small_is c.self.inside.total old in
    let is : to_z w64 (of_z w64 c.args.delta) ≡ c.args.delta = to_z-of_z w64 c.args.delta c.ranges.delta in
    omega (arith, ints, same, is, near.0, near.1, old.0, old.1)

pub invariant_of-self-2 : goal.invariant_of-self-2
invariant_of-self-2 g c =
    let bs = c.self.inside.blocks.items in
    let at = c.args.at in
    let k = c.past_near.result in
    let is : to_z w64 (of_z w64 c.args.delta) ≡ c.args.delta = to_z-of_z w64 c.args.delta c.ranges.delta in
    let new : AreSmall (merged at c.args.delta (together bs)) = subst (λ l. AreSmall (merged at c.args.delta (together l))) (sym c.self.view_is) c.requires in
    let before : take k bs ≡ front (is_past at) bs = rw c.deref.ensures.value at c.past_near.ensures.before in
    let rest : drop k bs ≡ back (is_past at) bs = rw c.deref.ensures.value at c.past_near.ensures.rest in
    let count : length bs ≡ c.len-count.result = omega (arith, c.len-count.ensures, c.deref.ensures.len, ap length c.deref.ensures.value) in
    let fit = fits_at bs k c.min-place.result at c.args.delta _ c.self.invariant new (omega (arith, c.past_near.ensures.bound, ap length c.deref.ensures.value)) before rest
    (c.min-place.ensures ∙ ap (λ n. min k (n - 1)) (sym count)) (omega (arith, count, c.if-count-eq0.false)) is in
    let near : IsNear c.args.delta = merged_small at c.args.delta (together bs) c.self.invariant.points.small new in
    let old : IsSmall c.self.inside.total = subst (λ z. IsSmall z) (sym c.self.invariant.adds_up) (small_total (together bs) c.self.invariant.points) in
    let wide : IsNear c.self.inside.total = (omega (arith, ints, old.0), omega (arith, ints, old.1)) in
    mended_blocks bs c.merge_at.new.blocks.items _ c.min-place.result _ fit.0.points (omega (arith, count, c.if-count-ge-MOST_BLOCKS.false)) c.in_ok-merge_at.ensures.ok
    (sum_is c.self.inside.total c.args.delta wide near ∙ ap (λ z. z +ℤ c.args.delta) c.self.invariant.adds_up ∙ sym (change_merged at c.args.delta (together bs)) ∙ ap change_of fit.1)

pub returns-clause-ok : goal.returns-clause-ok
returns-clause-ok g c =
    let bs = c.self.inside.blocks.items in
    let at = c.args.at in
    let k = c.past_near.result in
    let is : to_z w64 (of_z w64 c.args.delta) ≡ c.args.delta = to_z-of_z w64 c.args.delta c.ranges.delta in
    let new : AreSmall (merged at c.args.delta (together bs)) = subst (λ l. AreSmall (merged at c.args.delta (together l))) (sym c.self.view_is) c.requires in
    let before : take k bs ≡ front (is_past at) bs = rw c.deref.ensures.value at c.past_near.ensures.before in
    let rest : drop k bs ≡ back (is_past at) bs = rw c.deref.ensures.value at c.past_near.ensures.rest in
    let count : length bs ≡ c.len-count.result = omega (arith, c.len-count.ensures, c.deref.ensures.len, ap length c.deref.ensures.value) in
    let fit = fits_at bs k c.min-place.result at c.args.delta _ c.self.invariant new (omega (arith, c.past_near.ensures.bound, ap length c.deref.ensures.value)) before rest
    (c.min-place.ensures ∙ ap (λ n. min k (n - 1)) (sym count)) (omega (arith, count, c.if-count-eq0.false)) is in
    c.in_ok-merge_at.ensures.ok.whole ∙ sym fit.1 ∙ ap (λ l. merged at c.args.delta (together l)) c.self.view_is

pub returns-clause-cost : goal.returns-clause-cost
returns-clause-cost g c =
    let bs = c.self.inside.blocks.items in
    let parts = parts_most bs c.self.invariant.full in
    omega (arith, c.tick.ensures, c.past_near.ensures.cost, c.merge_at.ensures.cost, parts, ap (λ l. length (together l)) c.self.view_is)
