use Rattle.pl_cand.proofs.Checks.{params_few, params_near}
use Rattle.pl_cand.proofs.reading.checked_params.Goals as goal

pub returns-clause-few : goal.returns-clause-few
returns-clause-few c = rw c.params_of.ensures (params_few c.args.state.now c.requires c.args.a.now)

pub returns-clause-near : goal.returns-clause-near
returns-clause-near c = rw c.params_of.ensures (params_near c.args.state.now c.requires c.args.a.now)
