use Rattle.std.proofs.Common.{◌≡◌, ◌≤◌, ◌+◌, true, neg_ℤ, pos, ◌-ℤ◌, sym, subst, false}
use mir.Syntax.{w64}
use Rattle.std.proofs.lemmas.Int.{to_z-of_z}
use Rattle.pl_points.specs.Standing.{standing, stands, without}
use Rattle.pl_level.specs.Effects.{Standing, effect_of, same_effect, effect_steps}
use Rattle.pl_level.specs.Soundness.{IsShift}
use Rattle.pl_level.proofs.Levels.{neg_fits, raw_back}
use Rattle.pl_level.proofs.Shifting.{held, amount_went, went}
use Rattle.pl_level.proofs.level.Level.remove.Goals as goal

pub overflow_sub-delta : goal.overflow_sub-delta
overflow_sub-delta g c =
    let xs = standing same_effect c.self.inside.notes.items in
    let has : stands same_effect (effect_of c.args.at c.args.delta) xs ≡ true = subst (λ (v : Standing). v.spoiled ≡ false → stands same_effect (effect_of c.args.at c.args.delta) v.effects ≡ true) (sym c.self.view_is) c.requires c.if-self.false in
    neg_fits c.args.delta (amount_went xs c.args.at c.args.delta has (c.self.invariant c.if-self.false).tied.bounded)

pub changed-requires-clause-shift : goal.changed-requires-clause-shift
changed-requires-clause-shift g c =
    let xs = standing same_effect c.self.inside.notes.items in
    let has : stands same_effect (effect_of c.args.at c.args.delta) xs ≡ true = subst (λ (v : Standing). v.spoiled ≡ false → stands same_effect (effect_of c.args.at c.args.delta) v.effects ≡ true) (sym c.self.view_is) c.requires c.if-self.false in
    let tied = (c.self.invariant c.if-self.false).tied in
    subst (λ (v : Standing). IsShift c.args.at (held (pos 0 -ℤ held c.args.delta)) v.effects (without same_effect (effect_of c.args.at (held c.args.delta)) v.effects)) c.self.view_is
    (went xs c.args.at c.args.delta has tied.few tied.bounded)

pub returns-clause-cost : goal.returns-clause-cost
returns-clause-cost g c = λ _.
    let v = c.args.self.now in
    let xs = standing same_effect c.self.inside.notes.items in
    let has : stands same_effect (effect_of c.args.at c.args.delta) xs ≡ true = subst (λ (v : Standing). v.spoiled ≡ false → stands same_effect (effect_of c.args.at c.args.delta) v.effects ≡ true) (sym c.self.view_is) c.requires c.if-self.false in
    let back = raw_back c.args.delta (amount_went xs c.args.at c.args.delta has (c.self.invariant c.if-self.false).tied.bounded) in
    let steps = g.P.Points in
    subst (λ z. c.changed.new.steps ≤ c.args.steps.now + effect_steps steps.parts steps.change_steps steps.look_steps steps.search_steps v (without same_effect (effect_of c.args.at z) v.effects) c.args.at (neg_ℤ c.args.delta)) (to_z-of_z w64 c.args.delta c.ranges.delta)
    (subst (λ z. c.changed.new.steps ≤ c.args.steps.now + effect_steps steps.parts steps.change_steps steps.look_steps steps.search_steps v (without same_effect (effect_of c.args.at (held c.args.delta)) v.effects) c.args.at z) back c.changed.ensures.cost)
