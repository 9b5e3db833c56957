use Rattle.std.proofs.Common.{refl}
use Rattle.pl_many.proofs.Acting.{acted_as}
use Rattle.pl_many.proofs.crew.Crew.act.Goals as goal

pub returns-clause-own : goal.returns-clause-own
returns-clause-own g c =
    acted_as c.args.self.now c.args.member.now _ c.requires.own c.act_as.ensures.own c.act_as.ensures.takes _
    (record { before = c.in-Some.role; behind = c.act_as.new.role; was = c.in-Some.is; is = refl; author = refl; says = c.act_as.ensures.acts })
