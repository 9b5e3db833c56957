use Rattle.std.proofs.Common.{◌≡◌, take, map}
use Rattle.std.specs.Prelude.{pos}
use Rattle.pl_cand.proofs.numbers.from_zero.Given as goal

-- the numbers so far
abbrev pub invariant-loop-number : goal.invariant-loop-number
invariant-loop-number l = map pos l.all.items ≡ take l.number-index l.numbers
