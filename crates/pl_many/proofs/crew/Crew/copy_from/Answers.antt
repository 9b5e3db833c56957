use Rattle.std.proofs.Common.{refl}
use Rattle.pl_many.proofs.Acting.{copied}
use Rattle.pl_many.proofs.crew.Crew.copy_from.Goals as goal

pub returns-clause-own : goal.returns-clause-own
returns-clause-own g c = copied c.args.self.now c.args.member.now _ c.requires.own c.copy_from.ensures.own c.copy_from.ensures.takes (refl, refl) c.copy_from.ensures.mine
