use Rattle.std.proofs.Common.{refl}
use Rattle.pl_many.proofs.Acting.{viewed_as}
use Rattle.pl_many.proofs.crew.Crew.view.Goals as goal

pub returns-clause-own : goal.returns-clause-own
returns-clause-own g c =
    viewed_as c.args.self.now c.args.member.now _ c.requires.own c.view_as.ensures.own c.view_as.ensures.takes _
    (record { before = c.in-Some.role; behind = c.view_as.new.role; was = c.in-Some.is; is = refl; author = refl; says = c.view_as.ensures.views })

pub returns-clause-rests : goal.returns-clause-rests
returns-clause-rests g c = record { before = c.in-Some.role; behind = c.view_as.new.role; was = c.in-Some.is; is = refl; author = refl; says = c.view_as.ensures.rests }
