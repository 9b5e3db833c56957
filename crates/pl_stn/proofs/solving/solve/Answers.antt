use Rattle.std.proofs.Common.{◌≡◌, replicate, pos, rules}
use Rattle.pl_stn.proofs.Passes.{rising_first}
use Rattle.pl_stn.proofs.Exclusion.{none_from_cycle}
use Rattle.pl_stn.proofs.solving.solve.Goals as goal

pub passes-init : goal.passes-init
passes-init c =
    let zero : c.in_ok-times.times.items ≡ replicate c.args.net.now.points (pos 0) = search rules in
    rw zero (rising_first _ c.requires _ c.in_ok-causes.ensures)

pub returns-in-Closed-clause-none : goal.returns-in-Closed-clause-none
returns-in-Closed-clause-none c = none_from_cycle _ c.in-Closed.cycle.items (rw c.in-Closed.is at c.in_ok-tighten_all.ensures)
