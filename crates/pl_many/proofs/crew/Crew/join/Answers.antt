use Rattle.std.proofs.Common.{refl}
use Rattle.pl_many.proofs.Acting.{joined}
use Rattle.pl_many.proofs.crew.Crew.join.Goals as goal

pub returns-clause-own : goal.returns-clause-own
returns-clause-own c =
    joined c.args.self.now c.args.feeder.now _ c.args.other c.requires.own c.requires.other c.join.ensures.own (refl, refl) c.requires.first c.join.ensures.crew c.join.ensures.begins.0 c.join.ensures.mine
