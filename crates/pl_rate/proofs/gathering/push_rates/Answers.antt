use Rattle.std.proofs.Common.{get_or, pos, None}
use Rattle.pl_rate.specs.declared.rate.Rate.{Rate}
use Rattle.pl_rate.proofs.Gained.{cons_by, leaves_more}
use Rattle.pl_rate.proofs.gathering.push_rates.Goals as goal

abbrev first : Rate
first = record { kind = None; level = 0; change = pos 0 }

pub loop-rate-preserved : goal.loop-rate-preserved
loop-rate-preserved c =
    leaves_more _ _ _ _ _ _ _ (get_or c.args.rates.now c.loop-rate.rate-index first) (cons_by c.args.rates.now c.loop-rate.rate-index first c.loop-rate-test.true) c.loop-rate.invariant c.in_ok-push_rate.ensures
