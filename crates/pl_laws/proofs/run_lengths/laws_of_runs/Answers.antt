use Rattle.pl_main.specs.Solo.{IsSoloEvent, IsAheadEvent}
use Rattle.pl_laws.proofs.Bounded.{rule_bounded, full_bounded}
use Rattle.pl_laws.proofs.Chosen.{solo_commits, ahead_commits}
use Rattle.pl_laws.proofs.Teaming.{team_bounded, team_full_bounded}
use Rattle.pl_laws.proofs.run_lengths.laws_of_runs.Goals as goal

pub returns-clause-length : goal.returns-clause-length
returns-clause-length c = rule_bounded IsSoloEvent solo_commits

pub returns-clause-ahead : goal.returns-clause-ahead
returns-clause-ahead c = rule_bounded IsAheadEvent ahead_commits

pub returns-clause-full : goal.returns-clause-full
returns-clause-full c = full_bounded IsSoloEvent solo_commits

pub returns-clause-ahead_full : goal.returns-clause-ahead_full
returns-clause-ahead_full c = full_bounded IsAheadEvent ahead_commits

pub returns-clause-team : goal.returns-clause-team
returns-clause-team c = team_bounded

pub returns-clause-team_full : goal.returns-clause-team_full
returns-clause-team_full c = team_full_bounded
