use Rattle.pl_update.proofs.AboutTimelines.StandingReadings.{capacity_at, used_at, level_readable, level_readable_in, level_read, state_readable, state_read, sets_read, musts_read, may_reach, can_have}
use Rattle.pl_update.proofs.timelines.laws.laws_of_readings.Goals as goal

pub returns-clause-may_use : goal.returns-clause-may_use
returns-clause-may_use c = λ s lines line t are of le lt. capacity_at s lines are line t of le lt

pub returns-clause-uses : goal.returns-clause-uses
returns-clause-uses c = λ s lines line t are of. used_at s lines are line t of

pub returns-clause-may_level : goal.returns-clause-may_level
returns-clause-may_level c = λ s lines line t are of le lt. level_readable s lines are line t of le lt

pub returns-clause-may_level_in : goal.returns-clause-may_level_in
returns-clause-may_level_in c = λ s lines line from to are of le order bound. level_readable_in s lines are line from to of le order bound

pub returns-clause-levels : goal.returns-clause-levels
returns-clause-levels c = λ s lines line t are of. level_read s lines are line t of

pub returns-clause-may_state : goal.returns-clause-may_state
returns-clause-may_state c = λ s lines line t are of le lt. state_readable s lines are line t of le lt

pub returns-clause-states : goal.returns-clause-states
returns-clause-states c = λ s lines line t whole are of. state_read s lines are line t whole.rising of

pub returns-clause-sets : goal.returns-clause-sets
returns-clause-sets c = λ s lines line whole are of. sets_read s lines are line 0 whole.rising of

pub returns-clause-musts : goal.returns-clause-musts
returns-clause-musts c = λ s lines line whole are of. musts_read s lines are line 0 whole.rising of

pub returns-clause-may_reach : goal.returns-clause-may_reach
returns-clause-may_reach c = λ s now lines are later bound. may_reach s now lines are.framed later bound

pub returns-clause-may_tell : goal.returns-clause-may_tell
returns-clause-may_tell c = λ s line value lines whole are can. can_have s line value lines whole are.framed can
