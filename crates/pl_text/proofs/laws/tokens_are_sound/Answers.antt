use Rattle.std.proofs.Common.{length, arith}
use Rattle.pl_text.proofs.PieceLemmas.{lexes, ordered}
use Rattle.pl_text.proofs.laws.tokens_are_sound.Goals as goal

pub returns : goal.returns
returns c = record { pieces = λ text. lexes (length text) 0 text (omega arith); order = λ text tokens e. ordered text tokens e }
