use Rattle.std.proofs.Common.{◌≡◌, ◌++◌, take, map}
use Rattle.pl_semantics.specs.Timelines.{unmet_must}
use Rattle.pl_detect.proofs.outside.add_musts.Given as goal

abbrev pub invariant-loop-must : goal.invariant-loop-must
invariant-loop-must l = l.out.items ≡ l.initial.out.items ++ map (unmet_must l.s) (take l.must-index l.musts)
