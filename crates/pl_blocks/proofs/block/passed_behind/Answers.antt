use Rattle.std.proofs.Common.{◌≡◌, ◌<◌, ◌≤◌, ◌+◌, ◌-◌, arith, ◌∙◌, length, get_or, pos}
use mir.Val.{to_z}
use mir.Syntax.{w64}
use Rattle.std.proofs.lemmas.Bool.{le-ltb}
use Rattle.std.proofs.lemmas.List.{get_or_default}
use Rattle.pl_points.specs.Points.{is_before}
use Rattle.pl_points.proofs.PointLists.{parted_points}
use Rattle.pl_blocks.proofs.Searches.{above_one}
use Rattle.pl_blocks.proofs.RowSums.{step_back, ends_behind, past_middle}
use Rattle.pl_blocks.proofs.block.passed_behind.Goals as goal

pub behind-preserved : goal.behind-preserved
behind-preserved g c =
    let ps = c.args.points.now in
    let inv = c.behind.invariant in
    let n = c.behind.count in
    let m = n - 1 in
    let p = get_or ps m (0, pos 0) in
    let lt : m < length ps = omega (arith, inv.some, inv.bound) in
    let next : n ≡ m + 1 = omega (arith, inv.some) in
    let is : p ≡ get_or ps m p = get_or_default ps m (0, pos 0) p lt in
    let reaches : c.args.at ≤ p.0 = omega (arith, c.behind-test.true, c.from.ensures) in
    let step = step_back ps n m (to_z w64 c.behind.sum-bits) p c.requires.near lt next is inv.sum in
    record {
      some = past_middle ps m c.args.middle c.args.at (omega (arith, inv.some)) c.requires.passes reaches;
      bound = omega (arith, inv.bound);
      sum = step.1;
      rest = above_one (is_before c.args.at) ps m (0, pos 0) p (parted_points c.args.at 0 ps c.requires.rising) lt is (le-ltb p.0 c.args.at reaches);
      more = omega (arith, c.tick-in-behind.ensures, inv.more);
      few = omega (arith, c.tick-in-behind.ensures, inv.few, inv.some);
    }

pub overflow_sub-sum-in-behind : goal.overflow_sub-sum-in-behind
overflow_sub-sum-in-behind g c =
    let ps = c.args.points.now in
    let inv = c.behind.invariant in
    let n = c.behind.count in
    let m = n - 1 in
    let p = get_or ps m (0, pos 0) in
    let lt : m < length ps = omega (arith, inv.some, inv.bound) in
    (step_back ps n m (to_z w64 c.behind.sum-bits) p c.requires.near lt (omega (arith, inv.some)) (get_or_default ps m (0, pos 0) p lt) inv.sum).0

pub returns-clause-before : goal.returns-clause-before
returns-clause-before g c =
    let ps = c.args.points.now in
    let inv = c.behind.invariant in
    let n = c.behind.count in
    let p = get_or ps (n - 1) (0, pos 0) in
    (ends_behind ps n (n - 1) c.args.at p c.requires.rising inv.bound (omega (arith, inv.some)) (get_or_default ps (n - 1) (0, pos 0) p (omega (arith, inv.some, inv.bound))) (omega (arith, c.behind-test.false, c.from.ensures)) inv.rest).0

pub returns-clause-rest : goal.returns-clause-rest
returns-clause-rest g c =
    let ps = c.args.points.now in
    let inv = c.behind.invariant in
    let n = c.behind.count in
    let p = get_or ps (n - 1) (0, pos 0) in
    (ends_behind ps n (n - 1) c.args.at p c.requires.rising inv.bound (omega (arith, inv.some)) (get_or_default ps (n - 1) (0, pos 0) p (omega (arith, inv.some, inv.bound))) (omega (arith, c.behind-test.false, c.from.ensures)) inv.rest).1.0

pub returns-clause-sum : goal.returns-clause-sum
returns-clause-sum g c =
    let ps = c.args.points.now in
    let inv = c.behind.invariant in
    let n = c.behind.count in
    let p = get_or ps (n - 1) (0, pos 0) in
    inv.sum ∙ (ends_behind ps n (n - 1) c.args.at p c.requires.rising inv.bound (omega (arith, inv.some)) (get_or_default ps (n - 1) (0, pos 0) p (omega (arith, inv.some, inv.bound))) (omega (arith, c.behind-test.false, c.from.ensures)) inv.rest).1.1
