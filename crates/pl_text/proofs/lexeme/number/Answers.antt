use Rattle.pl_text.proofs.Digits.{digits_pass}
use Rattle.pl_text.proofs.lexeme.number.Goals as goal

pub number_value-value-requires-clause-digits : goal.number_value-value-requires-clause-digits
number_value-value-requires-clause-digits c = rw c.digits_len-behind.ensures.value (digits_pass c.args.rest.now)
