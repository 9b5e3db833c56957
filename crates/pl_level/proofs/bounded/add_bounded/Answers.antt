use Rattle.std.proofs.Common.{◌≤◌, ◌+◌, [], ◌∷◌, ◌++◌, arith, subst}
use mir.Val.{to_z, of_z}
use mir.Syntax.{w64}
use Rattle.std.proofs.lemmas.Int.{to_z-of_z}
use Rattle.pl_points.specs.Points.{merged}
use Rattle.pl_level.specs.Effects.{points_of, low_count, high_count, effect_of}
use Rattle.pl_level.specs.Bounds.{outside_before, bound}
use Rattle.pl_level.proofs.bounded.add_bounded.Goals as goal

pub returns-clause-cost : goal.returns-clause-cost
returns-clause-cost g c = λ e.
    let s = c.args.timeline.now in
    let at = c.args.at in
    let raw = to_z w64 (of_z w64 c.args.delta) in
    let effects = s.effects ++ effect_of at raw ∷ [] in
    let ps = merged at raw (points_of s.effects) in
    let law = c.laws_of_steps.ensures.double_walks at raw (points_of s.effects) (low_count s effects ps) (high_count s effects ps) (outside_before s) in
    let cost : c.add.new.steps ≤ c.args.steps.now + bound s (s.effects ++ effect_of at raw ∷ []) at raw = omega (arith, c.add.ensures.cost e, law) in
    subst (λ z. c.add.new.steps ≤ c.args.steps.now + bound s (s.effects ++ effect_of at z ∷ []) at z) (to_z-of_z w64 c.args.delta c.ranges.delta) cost
