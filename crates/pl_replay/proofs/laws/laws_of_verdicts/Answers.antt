use Rattle.std.proofs.Common.{sym, ◌∙◌}
use Rattle.pl_replay.proofs.Verdicts.{never_begins, one_log, one_verdict}
use Rattle.pl_replay.proofs.OneAnswer.{one_answer, faults_of_the_moment}
use Rattle.pl_replay.proofs.laws.laws_of_verdicts.Goals as goal

pub returns : goal.returns
returns c = record {
  journals_are_told_apart = λ m lines front more log v checked is wrong same. never_begins m log front more v checked is.legal wrong (sym is.shows ∙ same);
  one_log = one_log;
  one_verdict = one_verdict;
  one_answer = one_answer;
  faults_of_the_moment = faults_of_the_moment;
}
