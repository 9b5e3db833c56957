use Rattle.std.proofs.Common.{ap, ◌∙◌, Some}
use Rattle.pl_detect.proofs.Grounds.{raw_level, checked_line, level_limits, states_limits}
use Rattle.pl_detect.proofs.conflicts.line_conflicts.Goals as goal

pub add_levels-requires-clause-base : goal.add_levels-requires-clause-base
add_levels-requires-clause-base c = level_limits c.args.s.now c.requires.whole c.args.line _ (c.requires.line ∙ ap Some c.in-Level.is) tt

pub add_levels-requires-clause-least : goal.add_levels-requires-clause-least
add_levels-requires-clause-least c = raw_level c.in-Level.least (checked_line c.args.s.now c.requires.whole c.args.line _ (c.requires.line ∙ ap Some c.in-Level.is)).0

pub add_levels-requires-clause-most : goal.add_levels-requires-clause-most
add_levels-requires-clause-most c = raw_level c.in-Level.most (checked_line c.args.s.now c.requires.whole c.args.line _ (c.requires.line ∙ ap Some c.in-Level.is)).1

pub states_of-requires-clause-base : goal.states_of-requires-clause-base
states_of-requires-clause-base c = states_limits c.args.s.now c.requires.whole c.args.line _ (c.requires.line ∙ ap Some c.in-States.is) tt
