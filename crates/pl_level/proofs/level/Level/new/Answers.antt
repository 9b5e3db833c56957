use Rattle.std.proofs.Common.{rules, ap, sym, subst}
use mir.Val.{to_z, of_z}
use mir.Syntax.{w64}
use Rattle.pl_points.specs.Standing.{standing}
use Rattle.pl_level.specs.Effects.{IsValue, same_effect}
use Rattle.pl_level.proofs.Levels.{value_small, sound_new, raw}
use Rattle.pl_level.proofs.level.Level.new.Goals as goal

pub invariant_of-result : goal.invariant_of-result
invariant_of-result g c =
    λ e. sound_new c.args.horizon (to_z w64 (of_z w64 c.args.least)) (to_z w64 (of_z w64 c.args.most)) (to_z w64 (of_z w64 c.args.start)) (standing same_effect c.new-3.result.items) (g.P.Points.points c.args.points) c.new.result c.new-2.result c.requires.horizon (search rules)
    (subst (λ z. IsValue z) (sym (raw c.args.least (value_small c.args.least c.requires.least))) c.requires.least) (subst (λ z. IsValue z) (sym (raw c.args.most (value_small c.args.most c.requires.most))) c.requires.most)
    (subst (λ z. IsValue z) (sym (raw c.args.start (value_small c.args.start c.requires.start))) c.requires.start) (ap (standing same_effect) c.new-3.ensures) c.requires.points c.new.ensures c.new-2.ensures
