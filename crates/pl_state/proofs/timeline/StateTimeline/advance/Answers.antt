use Rattle.pl_state.proofs.timeline.StateTimeline.advance.Goals as goal

pub changed-requires : goal.changed-requires
changed-requires c = λ e. (c.requires.later e, c.requires.bound e)
