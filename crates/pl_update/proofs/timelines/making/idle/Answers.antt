use Rattle.std.proofs.Common.{ap, ◌∙◌, Some}
use Rattle.pl_detect.proofs.Grounds.{raw_level, checked_line, level_limits, states_limits}
use Rattle.pl_update.proofs.timelines.making.idle.Goals as goal

pub idle_level-requires-clause-base : goal.idle_level-requires-clause-base
idle_level-requires-clause-base c = level_limits c.args.s.now c.requires.whole c.args.line _ (c.requires.line ∙ ap Some c.in-Level.is) tt

pub idle_level-requires-clause-least : goal.idle_level-requires-clause-least
idle_level-requires-clause-least c = raw_level c.in-Level.least (checked_line c.args.s.now c.requires.whole c.args.line _ (c.requires.line ∙ ap Some c.in-Level.is)).0

pub idle_level-requires-clause-most : goal.idle_level-requires-clause-most
idle_level-requires-clause-most c = raw_level c.in-Level.most (checked_line c.args.s.now c.requires.whole c.args.line _ (c.requires.line ∙ ap Some c.in-Level.is)).1

pub idle_states-requires-clause-base : goal.idle_states-requires-clause-base
idle_states-requires-clause-base c = states_limits c.args.s.now c.requires.whole c.args.line _ (c.requires.line ∙ ap Some c.in-States.is) tt
