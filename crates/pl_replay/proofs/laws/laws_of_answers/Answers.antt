use Rattle.pl_replay.proofs.OneAnswer.{legal_is_told, wrong_is_told, nothing_is_told}
use Rattle.pl_replay.proofs.laws.laws_of_answers.Goals as goal

pub returns : goal.returns
returns c = record { legal = legal_is_told; wrong = wrong_is_told; nothing = nothing_is_told }
