use Rattle.std.proofs.Common.{◌≡◌, ◌+◌, ◌<◌, ◌^◌, drop}
use Rattle.pl_text.specs.Tokens.{read_on, number_value}
use Rattle.pl_text.proofs.lexeme.number_value.Given as goal

abbrev pub invariant-loop-digit : goal.invariant-loop-digit
invariant-loop-digit l = (read_on l.value (drop l.digit-index l.digits) ≡ number_value l.first l.digits) × (l.value < 10 ^ (l.digit-index + 1))
