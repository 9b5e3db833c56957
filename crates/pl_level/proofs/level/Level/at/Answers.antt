use Rattle.std.proofs.Common.{rules, ◌≡◌, ◌≤◌, arith, ap, sym, ◌∙◌, subst, ◌+ℤ◌, ◌-ℤ◌, false}
use mir.Val.{to_z, of_z, SFits}
use mir.Syntax.{w64}
use Rattle.std.proofs.lemmas.Int.{to_z-of_z}
use Rattle.pl_points.specs.Sums.{IsSmall}
use Rattle.pl_points.specs.Points.{sum_to}
use Rattle.pl_points.specs.Standing.{standing}
use Rattle.pl_level.specs.Effects.{Standing, same_effect, level}
use Rattle.pl_level.specs.Soundness.{IsSound}
use Rattle.pl_level.proofs.Levels.{make, value_small, before_small, sum_small, level_is, raw}
use Rattle.pl_level.proofs.level.Level.at.Goals as goal

pub returns : goal.returns
returns g c =
    let i = c.self.inside in
    let ps = g.P.Points.points i.points in
    let b = i.before in
    let value = i.value in
    let s : Standing = make i.spoiled i.horizon i.least i.most i.moment i.base value (standing same_effect i.notes.items) in
    let sound : IsSound s b ps i.low i.high = c.self.invariant c.if-self.false in
    let tied = sound.tied in
    let t = c.args.t in
    let vr = c.value_for.result in
    let sr = c.sum_to-sum.result in
    let vfits : SFits w64 vr = search rules in
    let later : i.moment ≤ t = subst (λ (v : Standing). v.spoiled ≡ false → v.moment ≤ t) (sym c.self.view_is) c.requires.now c.if-self.false in
    let small : IsSmall sr = subst (λ z. IsSmall z) (sym c.sum_to-sum.ensures.sum) (sum_small s b ps t tied) in
    let is : (to_z w64 (of_z w64 vr)) ≡ level s t = to_z-of_z w64 vr vfits ∙ (c.value_for.ensures ∙ (ap (λ z. z +ℤ ((to_z w64 (of_z w64 sr)) -ℤ (to_z w64 (of_z w64 b)))) (raw value (value_small value tied.value)) ∙ (ap (λ z. value +ℤ (z -ℤ (to_z w64 (of_z w64 b)))) (raw sr small ∙ c.sum_to-sum.ensures.sum)
    ∙ (ap (λ z. value +ℤ (sum_to ps t -ℤ z)) (raw b (before_small s b ps tied)) ∙ sym (level_is s b ps t tied (omega (arith, tied.based, later))))))) in
    λ e. subst (λ (v : Standing). (to_z w64 (of_z w64 vr)) ≡ level v t) c.self.view_is is
