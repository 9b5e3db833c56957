use Rattle.pl_syntax.proofs.ReadAgain.{reads_again}
use Rattle.pl_syntax.proofs.writing.write_model.Goals as goal

pub returns-clause-again : goal.returns-clause-again
returns-clause-again c = λ text h. rw (c.in_ok-text.ensures, c.as_slice.ensures, c.in_ok-tokens.ensures) (reads_again text c.args.ast.now h)
