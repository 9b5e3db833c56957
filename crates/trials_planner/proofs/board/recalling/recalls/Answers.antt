use Rattle.std.specs.Prelude.{◌≡◌, true}
use Rattle.std.proofs.lemmas.List.Elements.{All-weaker}
use Rattle.pl_plan.specs.declared.repair.RepairMove.{RepairMove}
use Rattle.pl_semantics.specs.Moves.{is_proper}
use Rattle.pl_moves.specs.Runs.{CanBeMade}
use Rattle.trials_planner.proofs.board.recalling.recalls.Goals as goal

pub recall-place-requires-clause-proper : goal.recall-place-requires-clause-proper
recall-place-requires-clause-proper c =
    let s = c.args.board.now.state in
    All-weaker (CanBeMade s) (λ m. is_proper s m ≡ true) (λ m can. can.proper) c.args.moves.now c.requires
