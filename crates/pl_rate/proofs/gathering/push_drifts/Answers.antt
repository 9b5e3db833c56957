use Rattle.std.proofs.Common.{◌≤◌, length, get_or, arith, pos, None}
use Rattle.std.proofs.lemmas.List.{drop_all}
use Rattle.pl_rate.specs.declared.rate.Rate.{Rate}
use Rattle.pl_rate.proofs.Gained.{cons_by, leaves_more, leaves_none}
use Rattle.pl_rate.proofs.gathering.push_drifts.Goals as goal

abbrev first : Rate
first = record { kind = None; level = 0; change = pos 0 }

pub loop-rate-preserved : goal.loop-rate-preserved
loop-rate-preserved c =
    leaves_more _ _ _ _ _ _ _ (get_or c.args.rates.now c.loop-rate.rate-index first) (cons_by c.args.rates.now c.loop-rate.rate-index first c.loop-rate-test.true) c.loop-rate.invariant c.in_ok-push_drift.ensures

pub returns : goal.returns
returns c =
    let past : length c.args.rates.now ≤ c.loop-rate.rate-index = omega arith in
    leaves_none _ _ _ _ _ (drop_all c.loop-rate.rate-index c.args.rates.now past) c.loop-rate.invariant
