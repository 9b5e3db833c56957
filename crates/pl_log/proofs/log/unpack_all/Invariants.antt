-- the entries so far, and those to come; of the next pack some may be left out
use Rattle.std.proofs.Common.{◌≡◌, ◌<◌, ◌++◌, drop}
use Rattle.pl_log.specs.Logged.{joined}
use Rattle.pl_log.proofs.log.unpack_all.Given as goal

abbrev pub invariant-loop-pack : goal.invariant-loop-pack
invariant-loop-pack l = record {
  gives : l.into ++ drop l.left_out (joined (drop l.pack-index l.packs)) ≡ l.initial.into ++ drop l.from (joined l.packs);
  inside : l.left_out < 256;
}
