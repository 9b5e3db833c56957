use Rattle.pl_text.proofs.PieceLemmas.{made_of}
use Rattle.pl_text.proofs.laws.tokens_are_complete.Goals as goal

pub returns : goal.returns
returns c = λ pieces are. made_of pieces are
