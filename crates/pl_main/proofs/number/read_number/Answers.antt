use Rattle.std.proofs.Common.{arith}
use Rattle.pl_text.proofs.Digits.{power_below}
use Rattle.pl_main.proofs.number.read_number.Goals as goal

pub overflow_mul-value : goal.overflow_mul-value
overflow_mul-value c = omega (arith, c.loop-digit.invariant.small, power_below c.loop-digit.digit-index (omega arith))

pub overflow_add-value : goal.overflow_add-value
overflow_add-value c = omega (arith, c.loop-digit.invariant.small, c.from.ensures, power_below c.loop-digit.digit-index (omega arith))
