use Rattle.std.proofs.Common.{◌≤◌, ◌+◌, neg_ℤ, arith, subst}
use mir.Val.{to_z, of_z}
use mir.Syntax.{w64}
use Rattle.std.proofs.lemmas.Int.{to_z-of_z}
use Rattle.pl_points.specs.Points.{merged}
use Rattle.pl_points.specs.Standing.{without}
use Rattle.pl_level.specs.Effects.{points_of, low_count, high_count, effect_of, same_effect}
use Rattle.pl_level.specs.Bounds.{outside_before, bound}
use Rattle.pl_level.proofs.bounded.remove_bounded.Goals as goal

pub returns-clause-cost : goal.returns-clause-cost
returns-clause-cost g c = λ e.
    let s = c.args.timeline.now in
    let at = c.args.at in
    let raw = to_z w64 (of_z w64 c.args.delta) in
    let effects = without same_effect (effect_of at raw) s.effects in
    let ps = merged at (neg_ℤ raw) (points_of s.effects) in
    let law = c.laws_of_steps.ensures.double_walks at (neg_ℤ raw) (points_of s.effects) (low_count s effects ps) (high_count s effects ps) (outside_before s) in
    let cost : c.remove.new.steps ≤ c.args.steps.now + bound s (without same_effect (effect_of at raw) s.effects) at (neg_ℤ raw) = omega (arith, c.remove.ensures.cost e, law) in
    subst (λ z. c.remove.new.steps ≤ c.args.steps.now + bound s (without same_effect (effect_of at z) s.effects) at (neg_ℤ z)) (to_z-of_z w64 c.args.delta c.ranges.delta) cost
