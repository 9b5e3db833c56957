use Rattle.std.proofs.Common.{◌≡◌, ◌≤◌, ◌+◌, true, neg_ℤ, pos, ◌-ℤ◌, arith, sym, subst, false}
use Rattle.std.proofs.lemmas.Int.{ints}
use Rattle.pl_points.specs.Standing.{standing, stands, without}
use Rattle.pl_capacity.specs.Uses.{Standing, use_of, same_use, use_steps}
use Rattle.pl_capacity.specs.Soundness.{IsShift}
use Rattle.pl_capacity.proofs.Shifts.{held, neg_fits, raw_back, amount_went, went}
use Rattle.pl_capacity.proofs.capacity.Capacity.remove.Goals as goal

pub overflow_sub-amount : goal.overflow_sub-amount
overflow_sub-amount g c =
    let xs = standing same_use c.self.inside.notes.items in
    let u = use_of c.args.from c.args.to c.args.amount in
    let has : stands same_use u xs ≡ true = subst (λ (v : Standing). v.spoiled ≡ false → stands same_use u v.uses ≡ true) (sym c.self.view_is) c.requires c.if-self.false in
    neg_fits c.args.amount (amount_went xs c.args.from c.args.to c.args.amount has (c.self.invariant c.if-self.false).bounded)

pub changed-requires-clause-shift : goal.changed-requires-clause-shift
changed-requires-clause-shift g c =
    let xs = standing same_use c.self.inside.notes.items in
    let u = use_of c.args.from c.args.to c.args.amount in
    let has : stands same_use u xs ≡ true = subst (λ (v : Standing). v.spoiled ≡ false → stands same_use u v.uses ≡ true) (sym c.self.view_is) c.requires c.if-self.false in
    let sound = c.self.invariant c.if-self.false in
    subst (λ (v : Standing). IsShift c.args.from c.args.to (held (pos 0 -ℤ held c.args.amount)) v.uses (without same_use (use_of c.args.from c.args.to (held c.args.amount)) v.uses)) c.self.view_is
    (went xs c.args.from c.args.to c.args.amount has sound.few sound.bounded)

pub returns-clause-cost : goal.returns-clause-cost
returns-clause-cost g c = λ _.
    let xs = standing same_use c.self.inside.notes.items in
    let u = use_of c.args.from c.args.to c.args.amount in
    let has : stands same_use u xs ≡ true = subst (λ (v : Standing). v.spoiled ≡ false → stands same_use u v.uses ≡ true) (sym c.self.view_is) c.requires c.if-self.false in
    let back = raw_back c.args.amount (amount_went xs c.args.from c.args.to c.args.amount has (c.self.invariant c.if-self.false).bounded) in
    let again : neg_ℤ (neg_ℤ c.args.amount) ≡ c.args.amount = omega (arith, ints) in
    let points = g.P.Points in
    subst (λ z. c.changed.new.steps ≤ c.args.steps.now + use_steps points.parts points.change_steps points.look_steps points.search_steps c.args.self.now c.args.from c.args.to (neg_ℤ c.args.amount) z) again
    (subst (λ z. c.changed.new.steps ≤ c.args.steps.now + use_steps points.parts points.change_steps points.look_steps points.search_steps c.args.self.now c.args.from c.args.to z (neg_ℤ z)) back c.changed.ensures.cost)
