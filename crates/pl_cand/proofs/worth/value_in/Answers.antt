use Rattle.std.proofs.Common.{◌≤◌, length, arith, sym}
use Rattle.pl_plan.specs.Fitting.{kind_of}
use Rattle.pl_model.specs.Checked.{params_of}
use Rattle.pl_cand.proofs.Playing.{no_value}
use Rattle.pl_cand.proofs.worth.value_in.Goals as goal

pub returns-else-number-params_of : goal.returns-else-number-params_of
returns-else-number-params_of c =
    let past : length (params_of (kind_of c.args.state.now.model c.args.a.now)) ≤ c.args.number = rw (← c.params_of.ensures) (omega arith) in
    sym (no_value c.args.state.now c.requires.whole c.args.a.now c.requires.live c.args.number past)
