-- the numbers so far, and those to come
use Rattle.std.proofs.Common.{◌≡◌, ◌++◌, ◌-◌, []}
use Rattle.pl_log.specs.Numbers.{all_unpacked}
use Rattle.pl_log.proofs.numbers.Numbers.unpack.Given as goal

abbrev pub invariant-loop-number : goal.invariant-loop-number
invariant-loop-number l = l.numbers.items ++ all_unpacked (l._number-end - l._number) l.numbers.items l.rest ≡ all_unpacked l._number-end [] l.initial.rest
