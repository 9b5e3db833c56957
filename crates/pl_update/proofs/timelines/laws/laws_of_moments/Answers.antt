use Rattle.pl_update.proofs.AboutTimelines.StandingLater.{lines_first, lines_moved, lines_rebased}
use Rattle.pl_update.proofs.timelines.laws.laws_of_moments.Goals as goal

pub returns-clause-first : goal.returns-clause-first
returns-clause-first c = λ s none. lines_first s none

pub returns-clause-moved : goal.returns-clause-moved
returns-clause-moved c = λ s now lines are. lines_moved s now lines are

pub returns-clause-told : goal.returns-clause-told
returns-clause-told c = λ s line value lines whole are can. lines_rebased s line value lines whole are can
