use Rattle.std.proofs.Common.{refl}
use Rattle.pl_many.proofs.Acting.{stopped}
use Rattle.pl_many.proofs.crew.Crew.stop.Goals as goal

pub returns-clause-own : goal.returns-clause-own
returns-clause-own g c = stopped c.args.self.now c.args.member.now _ c.requires c.stop_as.ensures.own c.stop_as.ensures.takes (refl, refl) c.stop_as.ensures.stops
