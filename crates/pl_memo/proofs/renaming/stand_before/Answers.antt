use Rattle.std.proofs.Common.{sym}
use Rattle.std.proofs.lemmas.Bool.{ltb-true}
use Rattle.pl_memo.proofs.Joining.{joined}
use Rattle.pl_memo.proofs.renaming.stand_before.Goals as goal

pub returns-in-Some-Some : goal.returns-in-Some-Some
returns-in-Some-Some c less =
    joined 0 c.args.rest.now c.args.gone.now c.in-Some-Some.a.now c.in-Some-Some.b.now c.requires.rest c.requires.gone (sym c.in-Some-Some.ensures.value) (sym c.in-Some-Some.ensures'.value) (ltb-true _ _ less)
