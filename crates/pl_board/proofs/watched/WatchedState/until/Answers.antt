use Rattle.std.proofs.Common.{◌∙◌, refl}
use Rattle.pl_board.proofs.MeasuredEnds.{can_end, end_is}
use Rattle.pl_board.proofs.watched.WatchedState.until.Goals as goal

pub replace-requires-clause-can : goal.replace-requires-clause-can
replace-requires-clause-can g c =
    can_end c.args.self.now.state c.args.id c.args.moment _ c.deref.result.now c.requires.watched.whole c.requires.can refl (λ a here. c.deref.ensures.value ∙ c.in_ok-placed.ensures a here)

pub returns-clause-state : goal.returns-clause-state
returns-clause-state g c =
    c.in_ok-replace.ensures.state
    ∙ end_is c.args.self.now.state c.args.id c.args.moment _ c.deref.result.now c.requires.watched.whole c.requires.can refl (λ a here. c.deref.ensures.value ∙ c.in_ok-placed.ensures a here)
