-- the bytes tell the numbers so far
use Rattle.std.proofs.Common.{take}
use Rattle.pl_log.proofs.Bytes.{Tell}
use Rattle.pl_log.proofs.numbers.Numbers.pack.Given as goal

abbrev pub invariant-loop-place : goal.invariant-loop-place
invariant-loop-place l = Tell (take l.place l.numbers) l.bytes.items
