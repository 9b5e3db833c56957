use Rattle.pl_main.specs.Top.{line_limit}
use Rattle.pl_main.specs.RunKinds.{solo_run, look_run, run_of}
use Rattle.pl_main.proofs.Causes.{done_not_refused, done_not_past, done_not_full, refused_not_past, refused_not_full, past_not_full, found_not_refused, found_not_past, no_model_not_past, shown_not_full, run_within, head_within}
use Rattle.pl_main.proofs.Apart.{right_not_wrong, right_not_refused, right_not_past, wrong_not_refused, wrong_not_past, refusal_not_past, journal_within}
use Rattle.pl_main.proofs.laws.statuses_are_told_apart.Goals as goal

pub returns-clause-done_not_refused : goal.returns-clause-done_not_refused
returns-clause-done_not_refused c = λ turns. done_not_refused (solo_run turns)

pub returns-clause-done_not_past : goal.returns-clause-done_not_past
returns-clause-done_not_past c = λ turns. done_not_past (solo_run turns)

pub returns-clause-done_not_full : goal.returns-clause-done_not_full
returns-clause-done_not_full c = done_not_full

pub returns-clause-refused_not_past : goal.returns-clause-refused_not_past
returns-clause-refused_not_past c = λ turns. refused_not_past (solo_run turns)

pub returns-clause-refused_not_full : goal.returns-clause-refused_not_full
returns-clause-refused_not_full c = λ turns. refused_not_full (solo_run turns)

pub returns-clause-past_not_full : goal.returns-clause-past_not_full
returns-clause-past_not_full c = past_not_full

pub returns-clause-found_not_refused : goal.returns-clause-found_not_refused
returns-clause-found_not_refused c = found_not_refused

pub returns-clause-found_not_past : goal.returns-clause-found_not_past
returns-clause-found_not_past c = found_not_past

pub returns-clause-no_model_not_past : goal.returns-clause-no_model_not_past
returns-clause-no_model_not_past c = no_model_not_past line_limit

pub returns-clause-shown_not_full : goal.returns-clause-shown_not_full
returns-clause-shown_not_full c = shown_not_full

pub returns-clause-within : goal.returns-clause-within
returns-clause-within c = λ turns. run_within (solo_run turns)

pub returns-clause-head_within : goal.returns-clause-head_within
returns-clause-head_within c = head_within

pub returns-clause-right_not_wrong : goal.returns-clause-right_not_wrong
returns-clause-right_not_wrong c = right_not_wrong

pub returns-clause-right_not_refused : goal.returns-clause-right_not_refused
returns-clause-right_not_refused c = right_not_refused

pub returns-clause-right_not_past : goal.returns-clause-right_not_past
returns-clause-right_not_past c = right_not_past

pub returns-clause-wrong_not_refused : goal.returns-clause-wrong_not_refused
returns-clause-wrong_not_refused c = wrong_not_refused

pub returns-clause-wrong_not_past : goal.returns-clause-wrong_not_past
returns-clause-wrong_not_past c = wrong_not_past

pub returns-clause-no_journal_not_past : goal.returns-clause-no_journal_not_past
returns-clause-no_journal_not_past c = refusal_not_past

pub returns-clause-journal_within : goal.returns-clause-journal_within
returns-clause-journal_within c = journal_within

pub returns-clause-team_done_not_refused : goal.returns-clause-team_done_not_refused
returns-clause-team_done_not_refused c = λ team turns. done_not_refused (run_of team turns)

pub returns-clause-team_done_not_past : goal.returns-clause-team_done_not_past
returns-clause-team_done_not_past c = λ team turns. done_not_past (run_of team turns)

pub returns-clause-team_refused_not_past : goal.returns-clause-team_refused_not_past
returns-clause-team_refused_not_past c = λ team turns. refused_not_past (run_of team turns)

pub returns-clause-team_refused_not_full : goal.returns-clause-team_refused_not_full
returns-clause-team_refused_not_full c = λ team turns. refused_not_full (run_of team turns)

pub returns-clause-team_within : goal.returns-clause-team_within
returns-clause-team_within c = λ team turns. run_within (run_of team turns)

pub returns-clause-ahead_done_not_refused : goal.returns-clause-ahead_done_not_refused
returns-clause-ahead_done_not_refused c = λ turns. done_not_refused (look_run turns)

pub returns-clause-ahead_done_not_past : goal.returns-clause-ahead_done_not_past
returns-clause-ahead_done_not_past c = λ turns. done_not_past (look_run turns)

pub returns-clause-ahead_refused_not_past : goal.returns-clause-ahead_refused_not_past
returns-clause-ahead_refused_not_past c = λ turns. refused_not_past (look_run turns)

pub returns-clause-ahead_refused_not_full : goal.returns-clause-ahead_refused_not_full
returns-clause-ahead_refused_not_full c = λ turns. refused_not_full (look_run turns)

pub returns-clause-ahead_within : goal.returns-clause-ahead_within
returns-clause-ahead_within c = λ turns. run_within (look_run turns)
