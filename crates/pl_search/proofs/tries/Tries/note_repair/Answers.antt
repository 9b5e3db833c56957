use Rattle.std.proofs.Common.{◌≡◌, List, sym, subst}
use Rattle.std.specs.Prelude.{All}
use Rattle.std.proofs.lemmas.List.Elements.{All-push}
use Rattle.pl_plan.specs.declared.repair.RepairMove.{RepairMove}
use Rattle.pl_search.specs.Undos.{MayBeMade}
use Rattle.pl_search.proofs.tries.Tries.note_repair.Goals as goal

pub trial_of-requires-clause-proper : goal.trial_of-requires-clause-proper
trial_of-requires-clause-proper c = rw c.state.ensures.value c.requires.made.can.proper

pub trial_of-requires-clause-allowed : goal.trial_of-requires-clause-allowed
trial_of-requires-clause-allowed c = rw c.state.ensures.value c.requires.made.can.allowed

pub trial_of-requires-clause-next : goal.trial_of-requires-clause-next
trial_of-requires-clause-next c = rw c.state.ensures.value c.requires.made.next

pub returns : goal.returns
returns c =
    subst (λ (ms : List RepairMove). All (MayBeMade c.args.board.now.state) ms) (sym c.in_ok-push.ensures.items)
    (All-push (MayBeMade c.args.board.now.state) c.args.fresh.now.items c.args.step.repair.mv c.requires.others c.requires.made)
