use Rattle.std.proofs.Common.{◌≡◌, ◌≤◌, ◌+◌, [], ◌∷◌, ◌++◌, neg_ℤ, length, sym, subst, false}
use mir.Syntax.{w64}
use Rattle.std.proofs.lemmas.Int.{to_z-of_z}
use Rattle.pl_points.specs.Standing.{standing}
use Rattle.pl_capacity.specs.Uses.{Standing, use_of, same_use, use_steps}
use Rattle.pl_capacity.specs.Soundness.{IsShift}
use Rattle.pl_capacity.proofs.Shifts.{held, came}
use Rattle.pl_capacity.proofs.capacity.Capacity.add.Goals as goal

pub changed-requires-clause-shift : goal.changed-requires-clause-shift
changed-requires-clause-shift g c =
    let few = subst (λ (v : Standing). v.spoiled ≡ false → length v.uses ≤ 319999) (sym c.self.view_is) c.requires.few c.if-self.false in
    subst (λ (v : Standing). IsShift c.args.from c.args.to (held c.args.amount) v.uses (v.uses ++ use_of c.args.from c.args.to (held c.args.amount) ∷ [])) c.self.view_is
    (came (standing same_use c.self.inside.notes.items) c.args.from c.args.to c.args.amount c.requires.is_use few (c.self.invariant c.if-self.false).bounded)

pub returns-clause-cost : goal.returns-clause-cost
returns-clause-cost g c = λ _.
    let points = g.P.Points in
    subst (λ z. c.changed.new.steps ≤ c.args.steps.now + use_steps points.parts points.change_steps points.look_steps points.search_steps c.args.self.now c.args.from c.args.to z (neg_ℤ z)) (to_z-of_z w64 c.args.amount c.ranges.amount) c.changed.ensures.cost
