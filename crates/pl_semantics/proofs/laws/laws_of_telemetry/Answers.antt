use Rattle.pl_semantics.proofs.Telling.{later, level_told, state_told}
use Rattle.pl_semantics.proofs.laws.laws_of_telemetry.Goals as goal

pub returns-clause-later : goal.returns-clause-later
returns-clause-later c = later

pub returns-clause-level : goal.returns-clause-level
returns-clause-level c = level_told

pub returns-clause-state : goal.returns-clause-state
returns-clause-state c = state_told
