use Rattle.std.proofs.Common.{◌≤◌, ◌+◌, neg_ℤ, arith, subst}
use mir.Val.{to_z, of_z}
use mir.Syntax.{w64}
use Rattle.std.proofs.lemmas.Int.{to_z-of_z}
use Rattle.pl_points.specs.declared.limit.Limit.TheVariants.{Above}
use Rattle.pl_capacity.specs.Uses.{points_of, use_of}
use Rattle.pl_capacity.specs.Bounds.{points_with_use, bound}
use Rattle.pl_capacity.proofs.bounded.add_bounded.Goals as goal

pub returns-clause-cost : goal.returns-clause-cost
returns-clause-cost g c = λ e.
    let old = c.args.timeline.now in
    let from = c.args.from in
    let to = c.args.to in
    let raw = to_z w64 (of_z w64 c.args.amount) in
    let law = c.laws_of_steps.ensures.shifts (Above old.most) from to raw (neg_ℤ raw) (points_of old.uses) in
    let cost : c.add.new.steps ≤ c.args.steps.now + bound old.most (points_of old.uses) (points_with_use (use_of from to raw) old.uses) = omega (arith, c.add.ensures.cost e, law) in
    subst (λ z. c.add.new.steps ≤ c.args.steps.now + bound old.most (points_of old.uses) (points_with_use (use_of from to z) old.uses)) (to_z-of_z w64 c.args.amount c.ranges.amount) cost
