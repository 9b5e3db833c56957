use Rattle.std.proofs.Common.{arith, ap, length}
use Rattle.pl_capacity.specs.Uses.{Standing}
use Rattle.pl_detect.proofs.Bounded.{bounded_in, few_in}
use Rattle.pl_detect.proofs.capacities.capacity_of.Goals as goal

pub add_uses-requires-clause-bounded : goal.add_uses-requires-clause-bounded
add_uses-requires-clause-bounded c = bounded_in c.args.s.now c.requires.whole c.args.demands.now c.requires.demands

pub add_uses-requires-clause-few : goal.add_uses-requires-clause-few
add_uses-requires-clause-few c = omega (arith, few_in c.args.s.now c.requires.whole c.args.demands.now c.requires.demands, ap (λ (l : Standing). length l.uses) c.new-capacity.ensures)
