use Rattle.std.proofs.Common.{sym}
use Rattle.std.proofs.lemmas.Bool.{ltb-true}
use Rattle.pl_update.proofs.AboutEvaluations.Places.{above_last, above_none}
use Rattle.pl_update.proofs.evaluations.searching.is_above_all.Goals as goal

pub returns-in-Some : goal.returns-in-Some
returns-in-Some c less = above_last c.args.entries.now c.requires.rising c.args.id c.in-Some.last.now (sym c.in-Some.ensures.value) (ltb-true _ _ less)

pub returns-in-None : goal.returns-in-None
returns-in-None c less = above_none c.args.entries.now c.requires.rising c.args.id (sym c.in-None.ensures.value)
