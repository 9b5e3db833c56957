use Rattle.std.proofs.Common.{◌≡◌, ◌++◌, take}
use Rattle.std.specs.List.{flat_map}
use Rattle.pl_detect.specs.Broken.{broken_conflict}
use Rattle.pl_detect.proofs.links.add_all_broken.Given as goal

abbrev pub invariant-loop-one : goal.invariant-loop-one
invariant-loop-one l = l.out.items ≡ l.initial.out.items ++ flat_map (broken_conflict l.s) (take l.one-index l.broken)
