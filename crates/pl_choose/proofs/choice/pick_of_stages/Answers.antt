use Rattle.std.proofs.Common.{List, ◌∙◌, subst}
use Rattle.std.specs.Prelude.{All, ℕ}
use Rattle.pl_choose.specs.Stages.{TakesOut}
use Rattle.pl_choose.proofs.InTurn.{gone_first}
use Rattle.pl_choose.proofs.choice.pick_of_stages.Goals as goal

pub pick_if_below-requires-clause-same : goal.pick_if_below-requires-clause-same
pick_if_below-requires-clause-same c =
    let stages = c.args.stages.items in
    let is = c.deref.ensures.value ∙ gone_first stages c.index.result.now c.requires.some c.index.ensures in
    subst (λ (gone : List ℕ). All (TakesOut gone) stages) is (rw c.deref-2.ensures.value at (c.take_out.ensures c.if-take_out.true))
