use Rattle.std.proofs.Common.{refl}
use Rattle.pl_many.proofs.Acting.{settled_by}
use Rattle.pl_many.proofs.crew.Crew.settle.Goals as goal

pub returns-clause-own : goal.returns-clause-own
returns-clause-own g c =
    settled_by c.args.self.now c.args.member.now _ c.requires.own c.settle_as.ensures.own c.settle_as.ensures.takes c.args.sight _
    (record { before = c.in-Some.role; behind = c.settle_as.new.role; was = c.in-Some.is; is = refl; author = refl; says = c.settle_as.ensures.settles })
