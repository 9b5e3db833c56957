use Rattle.std.proofs.Common.{◌≡◌, ◌≤◌, ◌+◌, [], ◌∷◌, ◌++◌, length, sym, subst, false}
use mir.Syntax.{w64}
use Rattle.std.proofs.lemmas.Int.{to_z-of_z}
use Rattle.pl_points.specs.Standing.{standing}
use Rattle.pl_level.specs.Effects.{Standing, effect_of, same_effect, effect_steps}
use Rattle.pl_level.specs.Soundness.{IsShift}
use Rattle.pl_level.proofs.Shifting.{held, came}
use Rattle.pl_level.proofs.level.Level.add.Goals as goal

pub changed-requires-clause-shift : goal.changed-requires-clause-shift
changed-requires-clause-shift g c =
    let few = subst (λ (v : Standing). v.spoiled ≡ false → length v.effects ≤ 319999) (sym c.self.view_is) c.requires.few c.if-self.false in
    subst (λ (v : Standing). IsShift c.args.at (held c.args.delta) v.effects (v.effects ++ effect_of c.args.at (held c.args.delta) ∷ [])) c.self.view_is
    (came (standing same_effect c.self.inside.notes.items) c.args.at c.args.delta c.requires.is_effect few (c.self.invariant c.if-self.false).tied.bounded)

pub returns-clause-cost : goal.returns-clause-cost
returns-clause-cost g c = λ _.
    let v = c.args.self.now in
    subst (λ z. c.changed.new.steps ≤ c.args.steps.now + effect_steps g.P.Points.parts g.P.Points.change_steps g.P.Points.look_steps g.P.Points.search_steps v (v.effects ++ effect_of c.args.at z ∷ []) c.args.at z) (to_z-of_z w64 c.args.delta c.ranges.delta) c.changed.ensures.cost
