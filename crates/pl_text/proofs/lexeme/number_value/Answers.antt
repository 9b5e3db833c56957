use Rattle.std.proofs.Common.{◌+◌, ◌<◌, refl, arith, length, drop-cons, add-one}
use Rattle.pl_text.proofs.Digits.{digit_range, power_step, power_below}
use Rattle.pl_text.proofs.lexeme.number_value.Goals as goal

pub overflow_sub-first : goal.overflow_sub-first
overflow_sub-first c = (digit_range c.args.first c.requires.first).0

pub loop-digit-init : goal.loop-digit-init
loop-digit-init c = rw c.from-value.ensures (refl, omega (arith, digit_range c.args.first c.requires.first))

pub overflow_sub-digit : goal.overflow_sub-digit
overflow_sub-digit c = (digit_range _ (c.requires.digits c.loop-digit.digit-index 0 c.loop-digit-test.true)).0

pub overflow_mul-value : goal.overflow_mul-value
overflow_mul-value c = omega (arith, c.loop-digit.invariant.1, c.loop-digit-test.true, power_below (c.loop-digit.digit-index + 1) (omega (arith, c.loop-digit-test.true, c.requires.short)))

pub overflow_add-value : goal.overflow_add-value
overflow_add-value c = omega (arith, c.loop-digit.invariant.1, c.loop-digit-test.true, c.from.ensures, digit_range _ (c.requires.digits c.loop-digit.digit-index 0 c.loop-digit-test.true), power_below (c.loop-digit.digit-index + 1) (omega (arith, c.loop-digit-test.true, c.requires.short)))

pub loop-digit-preserved : goal.loop-digit-preserved
loop-digit-preserved c = (
  let below : c.loop-digit.digit-index < length c.args.digits.now = c.loop-digit-test.true in
      let step = rw (drop-cons c.args.digits.now c.loop-digit.digit-index 0) at c.loop-digit.invariant.0 in
      rw (add-one, c.from.ensures) step,
  omega (arith, c.loop-digit.invariant.1, c.from.ensures, digit_range _ (c.requires.digits c.loop-digit.digit-index 0 c.loop-digit-test.true), power_step (c.loop-digit.digit-index + 1)),
)
