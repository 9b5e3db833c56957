use Rattle.std.proofs.Common.{rules, ◌≡◌, arith, ap, sym, ◌∙◌, subst, pos, ◌+ℤ◌}
use mir.Val.{to_z, of_z}
use mir.Syntax.{w64}
use Rattle.std.proofs.lemmas.Int.{ints, to_z-of_z}
use Rattle.pl_points.specs.Points.{merged, SmallFrom, AreSmall, IsNear}
use Rattle.pl_points.proofs.PointLists.{either, Kept, kept_merged, small_near, small_along, merged_small}
use Rattle.pl_points.proofs.plain.PlainPointsPoints.add.Goals as goal

pub invariant_of-self : goal.invariant_of-self
invariant_of-self g c =
    let ps = c.self.inside.points.items in
    let is : to_z w64 (of_z w64 c.args.delta) ≡ c.args.delta = to_z-of_z w64 c.args.delta c.ranges.delta in
    either c.merge.result c.merge.ensures.ok c.merge.ensures.err
    (λ e. subst (λ l. Kept l) (sym (e ∙ ap (λ d. merged c.args.at d ps) is)) (kept_merged c.args.at c.args.delta ps c.self.invariant (omega (arith, c.if-len.false, c.len.ensures)) (search (rules, c.requires))))
    (λ e. subst (λ l. Kept l) (sym e) c.self.invariant)

pub merge-requires-clause-near : goal.merge-requires-clause-near
merge-requires-clause-near g c =
    let ps = c.self.inside.points.items in
    let same : pos 0 ≡ pos 0 +ℤ pos 0 = omega (arith, ints) in
    small_near (pos 0) (pos 0) ps (omega (arith, ints), omega (arith, ints)) (subst (λ z. SmallFrom z ps) same (small_along ps c.self.invariant.0))

pub merge-requires-clause-delta : goal.merge-requires-clause-delta
merge-requires-clause-delta g c =
    let ps = c.self.inside.points.items in
    let is : to_z w64 (of_z w64 c.args.delta) ≡ c.args.delta = to_z-of_z w64 c.args.delta c.ranges.delta in
    let new : AreSmall (merged c.args.at c.args.delta ps) = subst (λ l. AreSmall (merged c.args.at c.args.delta l)) (sym c.self.view_is) c.requires in
    subst (λ z. IsNear z) (sym is) (merged_small c.args.at c.args.delta ps c.self.invariant.0.small new)
