use Rattle.std.proofs.Common.{◌≡◌, ◌+◌, ◌≤◌, List, ap, ◌∙◌, subst, arith, length}
use mir.Val.{to_z, of_z}
use mir.Syntax.{w64}
use Rattle.std.proofs.lemmas.Int.{to_z-of_z}
use Rattle.pl_points.specs.declared.limit.Limit.TheVariants.{Above}
use Rattle.pl_points.specs.Points.{Point, merged}
use Rattle.pl_points.specs.Counting.{walk_steps, points_after, goes_outside, outside_count}
use Rattle.pl_points.proofs.Strolls.{walk_less, after_all}
use Rattle.pl_capacity.proofs.shifting.shift.Goals as goal

pub returns-clause-cost : goal.returns-clause-cost
returns-clause-cost g c =
    let parts = g.P.Points.parts in
    let change = g.P.Points.change_steps in
    let look = g.P.Points.look_steps in
    let search_for = g.P.Points.search_steps in
    let most = c.args.most in
    let ps = g.P.Points.points c.args.points.now in
    let ps1 = g.P.Points.points c.add.new.self in
    let ps2 = g.P.Points.points c.add-2.new.self in
    let one : ps1 ≡ merged c.args.from c.args.delta ps = c.in_ok-add.ensures.ok ∙ ap (λ d. merged c.args.from d ps) (to_z-of_z w64 c.args.delta c.ranges.delta) in
    let two : ps2 ≡ merged c.args.to c.args.back ps1 = c.in_ok-add-2.ensures.ok ∙ ap (λ d. merged c.args.to d ps1) (to_z-of_z w64 c.args.back c.ranges.back) in
    let raw = ap (λ z. points_after (goes_outside (Above z) ps2) c.part_of-part.result.from ps2) (to_z-of_z w64 most c.ranges.most) in
    let less = walk_less parts look search_for (length ps2) (points_after (goes_outside (Above (to_z w64 (of_z w64 most))) ps2) c.part_of-part.result.from ps2) (outside_count (Above most) ps2)
    (omega (arith, raw, after_all (goes_outside (Above most) ps2) c.part_of-part.result.from ps2)) in
    let h : c.mend.new.steps ≤ c.args.steps.now + ((parts (length ps) + change) + ((parts (length ps1) + change) + walk_steps parts look search_for (length ps2) (outside_count (Above most) ps2))) = omega (arith, c.add.ensures.cost, c.add-2.ensures.cost, c.mend.ensures.cost, less) in
    let k = subst (λ (l : List Point). c.mend.new.steps ≤ c.args.steps.now + ((parts (length ps) + change) + ((parts (length ps1) + change) + walk_steps parts look search_for (length l) (outside_count (Above most) l)))) two h in
    subst (λ (l : List Point). c.mend.new.steps ≤ c.args.steps.now + ((parts (length ps) + change) + ((parts (length l) + change) + walk_steps parts look search_for (length (merged c.args.to c.args.back l)) (outside_count (Above most) (merged c.args.to c.args.back l))))) one k
