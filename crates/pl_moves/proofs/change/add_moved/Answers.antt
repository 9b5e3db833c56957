use Rattle.std.proofs.Common.{sym, arith}
use Rattle.pl_plan.specs.Fitting.{FitsAlone}
use Rattle.pl_plan.proofs.Climbs.{all_at}
use Rattle.pl_moves.proofs.change.add_moved.Goals as goal

-- it starts before the horizon
pub moved-requires : goal.moved-requires
moved-requires c =
    let s = c.args.s.now in
    let fits : FitsAlone s.model c.in-Some.a.now = (all_at (FitsAlone s.model) s.plan.activities c.args.id c.in-Some.a.now c.requires.whole.fits.each (sym c.in-Some.ensures.value)).0 in
    omega (arith, fits.start.1, c.requires.whole.checked.horizon.1)
