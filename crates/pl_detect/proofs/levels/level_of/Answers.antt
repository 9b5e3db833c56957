use Rattle.std.proofs.Common.{ℕ, arith, ap, length}
use Rattle.pl_level.specs.Effects.{Standing}
use Rattle.pl_detect.proofs.Bounded.{bounded_in, few_in}
use Rattle.pl_detect.proofs.levels.level_of.Goals as goal

pub add_effects-requires-clause-bounded : goal.add_effects-requires-clause-bounded
add_effects-requires-clause-bounded c = bounded_in c.args.s.now c.requires.whole c.args.demands.now c.requires.demands

pub add_effects-requires-clause-few : goal.add_effects-requires-clause-few
add_effects-requires-clause-few c =
    let few = few_in c.args.s.now c.requires.whole c.args.demands.now c.requires.demands in
    let count : Standing → ℕ = λ l. length l.effects in
    omega (arith, few, ap count c.in_ok-rebase.ensures.ok, ap count c.in_ok-advance.ensures.ok, ap count c.new-level.ensures)
