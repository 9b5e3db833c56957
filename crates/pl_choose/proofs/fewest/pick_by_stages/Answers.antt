use Rattle.std.proofs.Common.{List, ◌∙◌, subst, arith}
use Rattle.std.specs.Prelude.{All, ℕ}
use Rattle.pl_choose.specs.Stages.{TakesOut}
use Rattle.pl_choose.proofs.InTurn.{gone_first, some_stage}
use Rattle.pl_choose.proofs.fewest.pick_by_stages.Goals as goal

pub index-requires : goal.index-requires
index-requires c = let some = some_stage c.args.stages.items _ _ c.requires.moves in omega (arith, some, c.args.stages.ok.0)

pub pick_in_turn-requires-clause-some : goal.pick_in_turn-requires-clause-some
pick_in_turn-requires-clause-some c = some_stage c.args.stages.items _ _ c.requires.moves

pub pick_in_turn-requires-clause-same : goal.pick_in_turn-requires-clause-same
pick_in_turn-requires-clause-same c =
    let stages = c.args.stages.items in
    let is = c.deref.ensures.value ∙ gone_first stages c.index.result.now (some_stage stages _ _ c.requires.moves) c.index.ensures in
    subst (λ (gone : List ℕ). All (TakesOut gone) stages) is (rw c.deref-2.ensures.value at (c.take_out.ensures c.if-take_out.true))

pub returns-then-take_out-clause-picked : goal.returns-then-take_out-clause-picked
returns-then-take_out-clause-picked c = rw c.requires.moves at c.pick_in_turn.ensures.picked
