-- the rest gives the whole
use Rattle.std.specs.Prelude.{◌≡◌, ◌++◌, map, drop}
use Rattle.pl_bounds.specs.Choosing.{kind_of_one}
use Rattle.pl_bounds.proofs.remainder.kinds_of.Given as goal

abbrev pub invariant-loop-a : goal.invariant-loop-a
invariant-loop-a l = l.kinds.items ++ map kind_of_one (drop l.a-index l.all) ≡ map kind_of_one l.all
