-- the rest gives the whole
use Rattle.std.specs.Prelude.{◌≡◌, ◌++◌, map, drop}
use Rattle.pl_plan.specs.Trees.{id_of}
use Rattle.pl_bounds.proofs.remainder.ids_of.Given as goal

abbrev pub invariant-loop-a : goal.invariant-loop-a
invariant-loop-a l = l.ids.items ++ map id_of (drop l.a-index l.all) ≡ map id_of l.all
