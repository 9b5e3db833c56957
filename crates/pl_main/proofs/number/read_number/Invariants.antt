use Rattle.std.proofs.Common.{◌≡◌, ◌<◌, ◌^◌, drop}
use Rattle.pl_main.specs.Numbers.{digits_on}
use Rattle.pl_main.proofs.number.read_number.Given as goal

-- the digits that are left go on from the value so far
abbrev pub invariant-loop-digit : goal.invariant-loop-digit
invariant-loop-digit l = record { value : digits_on l.value (drop l.digit-index l.text) ≡ digits_on 0 l.text; small : l.value < 10 ^ l.digit-index }
