use Rattle.pl_many.proofs.Acting.{closes_by}
use Rattle.pl_many.proofs.crew.Crew.close.Goals as goal

pub returns : goal.returns
returns c = closes_by c.args.self c.args.feeder c.close_signed-machine.result.0 c.close_signed-machine.result.1 c.into_vec.result.items c.requires.own c.requires.first c.close_signed-machine.ensures c.into_vec.ensures
