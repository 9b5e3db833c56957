use Rattle.std.proofs.Common.{◌≡◌, get_or, arith, subst, false, pos}
use Rattle.std.proofs.lemmas.Bool.{leb-true, lt-ltb, le-ltb}
use Rattle.std.proofs.Math.Numerals.{add-one}
use Rattle.pl_points.specs.Points.{Point, is_before}
use Rattle.pl_points.proofs.Parting.{last_passing}
use Rattle.pl_points.proofs.PointLists.{parted_points}
use Rattle.pl_points.proofs.plain.is_last_before.Goals as goal

abbrev none : Point
none = (0, pos 0)

pub returns-then-place-points-2-clause-before : goal.returns-then-place-points-2-clause-before
returns-then-place-points-2-clause-before c =
    λ _. (last_passing (is_before c.args.at) c.args.place none c.args.points.now (parted_points c.args.at 0 c.args.points.now c.requires) (omega (arith, c.if-place-points.false)) (lt-ltb _ c.args.at (omega (arith, c.if-points-place.false))) (λ h. absurd (omega (arith, h, c.if-place-points-2.true)))).0

pub returns-then-place-points-2-clause-rest : goal.returns-then-place-points-2-clause-rest
returns-then-place-points-2-clause-rest c =
    λ _. (last_passing (is_before c.args.at) c.args.place none c.args.points.now (parted_points c.args.at 0 c.args.points.now c.requires) (omega (arith, c.if-place-points.false)) (lt-ltb _ c.args.at (omega (arith, c.if-points-place.false))) (λ h. absurd (omega (arith, h, c.if-place-points-2.true)))).1

pub returns-clause-before : goal.returns-clause-before
returns-clause-before c =
    λ e. (last_passing (is_before c.args.at) c.args.place none c.args.points.now (parted_points c.args.at 0 c.args.points.now c.requires) (omega (arith, c.if-place-points.false)) (lt-ltb _ c.args.at (omega (arith, c.if-points-place.false))) (λ _. subst (λ n. is_before c.args.at (get_or c.args.points.now n none) ≡ false) (add-one c.args.place) (le-ltb _ c.args.at (leb-true c.args.at _ e)))).0

pub returns-clause-rest : goal.returns-clause-rest
returns-clause-rest c =
    λ e. (last_passing (is_before c.args.at) c.args.place none c.args.points.now (parted_points c.args.at 0 c.args.points.now c.requires) (omega (arith, c.if-place-points.false)) (lt-ltb _ c.args.at (omega (arith, c.if-points-place.false))) (λ _. subst (λ n. is_before c.args.at (get_or c.args.points.now n none) ≡ false) (add-one c.args.place) (le-ltb _ c.args.at (leb-true c.args.at _ e)))).1
