use Rattle.std.proofs.Common.{rules, ◌≡◌, ◌<◌, ◌≤◌, length, drop, ap, sym, ◌∙◌, subst, arith}
use Rattle.pl_points.specs.Points.{first_from, points_from}
use Rattle.pl_points.proofs.Outside.{look_passes}
use Rattle.pl_points.proofs.PointLists.{head_some, head_none}
use Rattle.pl_points.proofs.plain.PlainPointsPoints.first_from.Goals as goal

pub returns-then-place-len-clause-first : goal.returns-then-place-len-clause-first
returns-then-place-len-clause-first g c =
    let ps = c.self.inside.points.items in
    let i = c.place_near-place.result in
    let lt : i < length ps = search (rules, c.if-place-len.true, c.len.ensures) in
    let rest : drop i ps ≡ _ = rw c.deref.ensures.value at c.place_near-place.ensures.rest in
    sym (ap (λ l. first_from l c.args.at) (sym c.self.view_is) ∙ head_some c.args.at ps i c.index.result.now rest lt c.index.ensures)

pub returns-else-place-len-clause-first : goal.returns-else-place-len-clause-first
returns-else-place-len-clause-first g c =
    let ps = c.self.inside.points.items in
    let i = c.place_near-place.result in
    let le : length ps ≤ i = search (rules, c.if-place-len.false, c.len.ensures) in
    let rest : drop i ps ≡ _ = rw c.deref.ensures.value at c.place_near-place.ensures.rest in
    sym (ap (λ l. first_from l c.args.at) (sym c.self.view_is) ∙ head_none c.args.at ps i rest le)

pub returns-then-place-len-clause-cost : goal.returns-then-place-len-clause-cost
returns-then-place-len-clause-cost g c =
    let ps = c.self.inside.points.items in
    let i = c.place_near-place.result in
    let at = c.args.at in
    let p = c.index.result.now in
    let lt : i < length ps = search (rules, c.if-place-len.true, c.len.ensures) in
    let rest : drop i ps ≡ _ = rw c.deref.ensures.value at c.place_near-place.ensures.rest in
    let passes : points_from c.args.self.now p.0 ≤ points_from c.args.self.now at = subst (λ l. points_from l p.0 ≤ points_from l at) c.self.view_is (look_passes ps i at p c.self.invariant.0.rising lt c.index.ensures rest) in
    omega (arith, c.tick.ensures, c.stand_at.ensures, passes)
