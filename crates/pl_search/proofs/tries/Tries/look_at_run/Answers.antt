use Rattle.std.proofs.Common.{None}
use Rattle.std.proofs.lemmas.List.Elements.{All-cons, All-drop, All-take}
use Rattle.std.specs.Prelude.{All}
use Rattle.pl_plan.specs.declared.repair.RepairMove.{RepairMove}
use Rattle.pl_plan.specs.declared.repair.RepairMove.TheVariants.{Add}
use Rattle.pl_moves.specs.Runs.{CanBeMade}
use Rattle.pl_search.proofs.tries.Tries.look_at_run.Goals as goal

pub trial_of-requires-clause-proper : goal.trial_of-requires-clause-proper
trial_of-requires-clause-proper c = rw c.state.ensures.value (c.requires.allowed 0 _ c.requires.some).can.proper

pub trial_of-requires-clause-allowed : goal.trial_of-requires-clause-allowed
trial_of-requires-clause-allowed c = rw c.state.ensures.value (c.requires.allowed 0 _ c.requires.some).can.allowed

pub trial_of-requires-clause-next : goal.trial_of-requires-clause-next
trial_of-requires-clause-next c = rw c.state.ensures.value (c.requires.allowed 0 (Add 0 0 None) c.requires.some).next

pub look_along-requires-clause-allowed : goal.look_along-requires-clause-allowed
look_along-requires-clause-allowed c =
    let P : RepairMove → Type 0 = CanBeMade c.args.board.now.state in
    let can : All P c.args.moves.now = λ k d lt. (c.requires.allowed k d lt).can in
    All-cons P _ _ (can 0 _ c.requires.some) (All-take P _ _ (All-take P _ _ (All-drop P 1 c.args.moves.now can)))

pub look_along-requires-clause-trial : goal.look_along-requires-clause-trial
look_along-requires-clause-trial c = rw c.state.ensures.value at c.in_ok-trial.ensures
