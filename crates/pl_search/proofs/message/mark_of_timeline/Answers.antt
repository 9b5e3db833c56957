use Rattle.std.proofs.Common.{ap, ◌∙◌, Some}
use Rattle.pl_search.proofs.Told.{level_told, state_told}
use Rattle.pl_search.proofs.message.mark_of_timeline.Goals as goal

pub get-requires : goal.get-requires
get-requires c = level_told c.args.s.now c.requires.whole c.args.line _ (c.requires.line ∙ ap Some c.in-Level.is) tt

pub get-requires-in-States : goal.get-requires-in-States
get-requires-in-States c = state_told c.args.s.now c.requires.whole c.args.line _ (c.requires.line ∙ ap Some c.in-States.is) tt
