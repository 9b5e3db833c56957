use Rattle.std.proofs.Common.{◌≡◌, ◌≤◌, sym, subst, false}
use Rattle.pl_points.specs.Standing.{standing}
use Rattle.pl_level.specs.Effects.{Standing, same_effect, low_now, high_now}
use Rattle.pl_level.specs.Soundness.{IsSound, AreChanges}
use Rattle.pl_level.proofs.Levels.{make, sound_later, apart_low, apart_high, sound_changes}
use Rattle.pl_level.proofs.level.Level.advance.Goals as goal

pub forget_both-requires-clause-low : goal.forget_both-requires-clause-low
forget_both-requires-clause-low g c = apart_low _ _ _ _ _ (c.self.invariant c.if-self.false)

pub forget_both-requires-clause-high : goal.forget_both-requires-clause-high
forget_both-requires-clause-high g c = apart_high _ _ _ _ _ (c.self.invariant c.if-self.false)

pub invariant_of-self-2 : goal.invariant_of-self-2
invariant_of-self-2 g c =
    let i = c.self.inside in
    let s : Standing = make i.spoiled i.horizon i.least i.most i.moment i.base i.value (standing same_effect i.notes.items) in
    let sound = c.self.invariant c.if-self.false in
    let later : i.moment ≤ c.args.now = subst (λ (v : Standing). v.spoiled ≡ false → v.moment ≤ c.args.now) (sym c.self.view_is) c.requires.later c.if-self.false in
    let bound : c.args.now ≤ i.horizon = subst (λ (v : Standing). v.spoiled ≡ false → c.args.now ≤ v.horizon) (sym c.self.view_is) c.requires.bound c.if-self.false in
    let s2 : Standing = make false i.horizon i.least i.most c.args.now i.base i.value s.effects in
    let sound2 : IsSound s2 i.before (g.P.Points.points i.points) c.forget_both.new.low c.forget_both.new.high =
    sound_later i.spoiled i.horizon i.least i.most i.moment i.base i.value s.effects i.before (g.P.Points.points i.points) c.args.now i.low c.forget_both.new.low i.high c.forget_both.new.high
    sound later bound c.in_ok-change.ensures.low_apart c.in_ok-change.ensures.high_apart c.in_ok-change.ensures.low_covers c.in_ok-change.ensures.high_covers in
    λ e. sound2

pub returns-clause-change : goal.returns-clause-change
returns-clause-change g c =
    let i = c.self.inside in
    let s : Standing = make i.spoiled i.horizon i.least i.most i.moment i.base i.value (standing same_effect i.notes.items) in
    let sound = c.self.invariant c.if-self.false in
    let later : i.moment ≤ c.args.now = subst (λ (v : Standing). v.spoiled ≡ false → v.moment ≤ c.args.now) (sym c.self.view_is) c.requires.later c.if-self.false in
    let bound : c.args.now ≤ i.horizon = subst (λ (v : Standing). v.spoiled ≡ false → c.args.now ≤ v.horizon) (sym c.self.view_is) c.requires.bound c.if-self.false in
    let s2 : Standing = make false i.horizon i.least i.most c.args.now i.base i.value s.effects in
    let sound2 : IsSound s2 i.before (g.P.Points.points i.points) c.forget_both.new.low c.forget_both.new.high =
    sound_later i.spoiled i.horizon i.least i.most i.moment i.base i.value s.effects i.before (g.P.Points.points i.points) c.args.now i.low c.forget_both.new.low i.high c.forget_both.new.high
    sound later bound c.in_ok-change.ensures.low_apart c.in_ok-change.ensures.high_apart c.in_ok-change.ensures.low_covers c.in_ok-change.ensures.high_covers in
    subst (λ (v : Standing). AreChanges (low_now v) (low_now s2) (high_now v) (high_now s2) c.in_ok-change.change) c.self.view_is (sound_changes s s2 _ _ _ _ _ _ _ _ c.in_ok-change.change sound sound2 c.in_ok-change.ensures.changes)
