use Rattle.std.proofs.Common.{◌∙◌, ap}
use Rattle.pl_update.specs.Changes.Replaced.{with_plan}
use Rattle.pl_board.proofs.Once.{can_once, plan_once}
use Rattle.pl_board.proofs.watched.WatchedState.replace.Goals as goal

pub replace_once-requires-2-clause-can : goal.replace_once-requires-2-clause-can
replace_once-requires-2-clause-can g c = rw c.deref.ensures.value (can_once c.args.self.now.state c.args.gone.now c.in_ok-gone.gone.items c.args.placed.now c.requires.watched.whole c.in_ok-gone.ensures.same c.requires.can)

pub returns-clause-state : goal.returns-clause-state
returns-clause-state g c =
    c.in_ok-replace_once.ensures.state
    ∙ (ap (λ ids. with_plan ids c.args.placed.now c.args.self.now.state) c.deref.ensures.value
    ∙ plan_once c.args.self.now.state c.args.gone.now c.in_ok-gone.gone.items c.args.placed.now c.requires.watched.whole c.in_ok-gone.ensures.same)
