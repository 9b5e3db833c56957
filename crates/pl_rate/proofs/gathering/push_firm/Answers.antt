use Rattle.pl_rate.specs.Hinges.{seen}
use Rattle.pl_rate.proofs.Fores.{ready, firm_gains}
use Rattle.pl_rate.proofs.gathering.push_firm.Goals as goal

pub push_effects-requires-clause-given : goal.push_effects-requires-clause-given
push_effects-requires-clause-given c =
    (ready (seen c.args.model.now c.args.plan.now c.args.bases.now 0) c.requires.checked c.requires.bases c.args.activity.now c.args.end c.requires.live c.requires.end c.args.amounts.now c.requires.amounts c.reservations_in.result.now c.reservations_in.ensures).given

pub push_effects-requires-clause-based : goal.push_effects-requires-clause-based
push_effects-requires-clause-based c =
    (ready (seen c.args.model.now c.args.plan.now c.args.bases.now 0) c.requires.checked c.requires.bases c.args.activity.now c.args.end c.requires.live c.requires.end c.args.amounts.now c.requires.amounts c.reservations_in.result.now c.reservations_in.ensures).based

pub returns : goal.returns
returns c =
    firm_gains (seen c.args.model.now c.args.plan.now c.args.bases.now 0) c.requires.checked c.requires.bases c.args.activity.now c.args.end c.requires.live c.requires.end c.args.amounts.now c.requires.amounts c.args.rates.now c.reservations_in.result.now c.reservations_in.ensures _ _ _
    (c.in_ok-push_effects.ensures c.args.activity.now.id) c.in_ok-push_rates.ensures
