use Rattle.std.proofs.Common.{◌≡◌, ◌-◌, ◌+ℤ◌, List, length, take, drop, ap, sym, ◌∙◌, subst, arith, pos}
use mir.Val.{to_z, of_z}
use mir.Syntax.{w64}
use Rattle.std.proofs.lemmas.Int.{ints, to_z-of_z}
use Rattle.std.proofs.lemmas.List.{take_rest}
use Rattle.pl_lists.specs.Lists.{back}
use Rattle.pl_points.specs.Points.{Point, is_before, sum_below, first_outside, RiseFrom, SmallFrom, ahead_of, points_from}
use Rattle.pl_points.proofs.PointLists.{small_along, rising_later}
use Rattle.pl_points.proofs.Outside.{rising_back, small_back, first_left, outside_passes}
use Rattle.pl_points.proofs.plain.PlainPointsPoints.first_outside.Goals as goal

pub leaving-requires-clause-rising : goal.leaving-requires-clause-rising
leaving-requires-clause-rising g c =
    let ps = c.self.inside.points.items in
    let from = c.args.from in
    let rest : drop c.place_near-place.result ps ≡ back (is_before from) ps = rw c.deref.ensures.value at c.place_near-place.ensures.rest in
    let is : take (length c.deref-2.result.now - c.place_near-place.result) (drop c.place_near-place.result c.deref-2.result.now) ≡ back (is_before from) ps = take_rest c.deref-2.result.now c.place_near-place.result ∙ ap (drop c.place_near-place.result) c.deref-2.ensures.value ∙ rest in
    subst (λ l. RiseFrom 0 l) (sym is) (rising_later 0 from (back (is_before from) ps) (omega arith) (rising_back 0 from ps c.self.invariant.0.rising))

pub leaving-requires-clause-small : goal.leaving-requires-clause-small
leaving-requires-clause-small g c =
    let ps = c.self.inside.points.items in
    let from = c.args.from in
    let rest : drop c.place_near-place.result ps ≡ back (is_before from) ps = rw c.deref.ensures.value at c.place_near-place.ensures.rest in
    let is : take (length c.deref-2.result.now - c.place_near-place.result) (drop c.place_near-place.result c.deref-2.result.now) ≡ back (is_before from) ps = take_rest c.deref-2.result.now c.place_near-place.result ∙ ap (drop c.place_near-place.result) c.deref-2.ensures.value ∙ rest in
    let raw : to_z w64 (of_z w64 c.args.before) ≡ c.args.before = to_z-of_z w64 c.args.before c.ranges.before in
    let sum : c.args.before ≡ sum_below ps from = c.requires ∙ ap (λ l. sum_below l from) (sym c.self.view_is) in
    let same : pos 0 +ℤ sum_below ps from ≡ to_z w64 (of_z w64 c.args.before) = omega (arith, ints, raw, sum) in
    subst (λ l. SmallFrom (to_z w64 (of_z w64 c.args.before)) l) (sym is) (subst (λ z. SmallFrom z (back (is_before from) ps)) same (small_back (pos 0) 0 from ps c.self.invariant.0.rising (small_along ps c.self.invariant.0)))

pub returns-clause-first : goal.returns-clause-first
returns-clause-first g c =
    let ps = c.self.inside.points.items in
    let from = c.args.from in
    let xs = take (length c.deref-2.result.now - c.place_near-place.result) (drop c.place_near-place.result c.deref-2.result.now) in
    let rest : drop c.place_near-place.result ps ≡ back (is_before from) ps = rw c.deref.ensures.value at c.place_near-place.ensures.rest in
    let is : xs ≡ back (is_before from) ps = take_rest c.deref-2.result.now c.place_near-place.result ∙ ap (drop c.place_near-place.result) c.deref-2.ensures.value ∙ rest in
    let sum : c.args.before ≡ sum_below ps from = c.requires ∙ ap (λ l. sum_below l from) (sym c.self.view_is) in
    first_left ps xs from (to_z w64 (of_z w64 c.args.least)) (to_z w64 (of_z w64 c.args.most)) (to_z w64 (of_z w64 c.args.before)) c.args.least c.args.most c.args.before c.leaving.result c.self.invariant.0.rising is
    (to_z-of_z w64 c.args.least c.ranges.least) (to_z-of_z w64 c.args.most c.ranges.most) (to_z-of_z w64 c.args.before c.ranges.before) sum c.leaving.ensures.first
    ∙ ap (λ l. first_outside l from c.args.least c.args.most) c.self.view_is

pub returns-clause-cost : goal.returns-clause-cost
returns-clause-cost g c =
    let ps = c.self.inside.points.items in
    let from = c.args.from in
    let xs = take (length c.deref-2.result.now - c.place_near-place.result) (drop c.place_near-place.result c.deref-2.result.now) in
    let rest : drop c.place_near-place.result ps ≡ back (is_before from) ps = rw c.deref.ensures.value at c.place_near-place.ensures.rest in
    let is : xs ≡ back (is_before from) ps = take_rest c.deref-2.result.now c.place_near-place.result ∙ ap (drop c.place_near-place.result) c.deref-2.ensures.value ∙ rest in
    let passes = outside_passes ps xs from (to_z w64 (of_z w64 c.args.least)) (to_z w64 (of_z w64 c.args.most)) (to_z w64 (of_z w64 c.args.before)) c.leaving.result c.self.invariant.0.rising is c.leaving.ensures.first in
    let ahead = ap (λ (l : List Point). ahead_of (points_from l) c.leaving.result) c.self.view_is in
    let all = ap (λ (l : List Point). points_from l from) c.self.view_is in
    omega (arith, c.tick.ensures, c.stand_at.ensures, c.leaving.ensures.cost, passes.0, passes.1, ahead, all)
