use Rattle.std.proofs.Common.{sym, ◌∙◌}
use Rattle.pl_rate.specs.Hinges.{seen}
use Rattle.pl_rate.proofs.Gained.{gains_none}
use Rattle.pl_rate.proofs.Fores.{idle_gain}
use Rattle.pl_rate.proofs.gathering.push_evaluated.Goals as goal

pub returns-in-None : goal.returns-in-None
returns-in-None c =
    gains_none _ _ (idle_gain (seen c.args.model.now c.args.plan.now c.args.bases.now 0) c.args.rates.now c.args.activity.now (sym c.requires.end ∙ c.in-None.is))
