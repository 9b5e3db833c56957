use Rattle.std.proofs.Common.{◌≡◌, ℕ, ◌≤◌, ◌<◌, arith, sym, ◌∙◌, subst, true, false}
use Rattle.pl_points.specs.Points.{sum_to, is_out}
use Rattle.pl_points.specs.Standing.{standing}
use Rattle.pl_level.specs.Effects.{Standing, same_effect, level}
use Rattle.pl_level.proofs.Levels.{make, before_small}
use Rattle.pl_level.proofs.Shifting.{held_small, out_held}
use Rattle.pl_level.proofs.level.Level.within_until.Goals as goal

pub sums_for-sums-requires-clause-before : goal.sums_for-sums-requires-clause-before
sums_for-sums-requires-clause-before g c =
    let i = c.self.inside in
    let s : Standing = make i.spoiled i.horizon i.least i.most i.moment i.base i.value (standing same_effect i.notes.items) in
    held_small i.before (before_small s i.before (g.P.Points.points i.points) (c.self.invariant c.if-self.false).tied)

pub returns-clause-within : goal.returns-clause-within
returns-clause-within g c =
    let i = c.self.inside in
    let ps = g.P.Points.points i.points in
    let s : Standing = make i.spoiled i.horizon i.least i.most i.moment i.base i.value (standing same_effect i.notes.items) in
    let tied = (c.self.invariant c.if-self.false).tied in
    let later : i.moment ≤ c.args.window.from = subst (λ (v : Standing). v.spoiled ≡ false → v.moment ≤ c.args.window.from) (sym c.self.view_is) c.requires.now c.if-self.false in
    let same : (t : ℕ) → c.args.window.from ≤ t → is_out c.sums_for-sums.result.least c.sums_for-sums.result.most (sum_to ps t) ≡ is_out c.args.least c.args.most (level s t) =
    λ t from. out_held s i.before ps c.args.least c.args.most c.sums_for-sums.result.least c.sums_for-sums.result.most t tied c.requires.least c.requires.most (omega (arith, tied.based, later, from)) c.sums_for-sums.ensures.least c.sums_for-sums.ensures.most in
    λ _. subst (λ (v : Standing). (t : ℕ) → c.args.window.from ≤ t → t < c.first_out.result → is_out c.args.least c.args.most (level v t) ≡ false) c.self.view_is
    (λ t from lt. sym (same t from) ∙ c.first_out.ensures.within t from lt)

pub returns-clause-leaves : goal.returns-clause-leaves
returns-clause-leaves g c =
    let i = c.self.inside in
    let ps = g.P.Points.points i.points in
    let s : Standing = make i.spoiled i.horizon i.least i.most i.moment i.base i.value (standing same_effect i.notes.items) in
    let tied = (c.self.invariant c.if-self.false).tied in
    let t : ℕ = c.first_out.result in
    let later : i.moment ≤ c.args.window.from = subst (λ (v : Standing). v.spoiled ≡ false → v.moment ≤ c.args.window.from) (sym c.self.view_is) c.requires.now c.if-self.false in
    let same : is_out c.sums_for-sums.result.least c.sums_for-sums.result.most (sum_to ps t) ≡ is_out c.args.least c.args.most (level s t) =
    out_held s i.before ps c.args.least c.args.most c.sums_for-sums.result.least c.sums_for-sums.result.most t tied c.requires.least c.requires.most (omega (arith, tied.based, later, c.first_out.ensures.low)) c.sums_for-sums.ensures.least c.sums_for-sums.ensures.most in
    λ _. subst (λ (v : Standing). t < c.args.window.to → is_out c.args.least c.args.most (level v t) ≡ true) c.self.view_is
    (λ lt. sym same ∙ c.first_out.ensures.leaves lt)
