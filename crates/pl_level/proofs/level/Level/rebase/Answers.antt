use Rattle.std.proofs.Common.{◌≡◌, ap, refl, sym, ◌∙◌, subst, false}
use Rattle.pl_points.specs.Sums.{IsSmall}
use Rattle.pl_points.specs.Standing.{standing}
use Rattle.pl_level.specs.Effects.{Standing, IsValue, same_effect, low_now, high_now}
use Rattle.pl_level.specs.Soundness.{IsSound, AreChanges}
use Rattle.pl_level.proofs.Levels.{make, value_small, sum_small, sound_rebased, apart_low, apart_high, sound_changes, raw}
use Rattle.pl_level.proofs.Shifting.{held, held_small, limit_is}
use Rattle.pl_level.proofs.level.Level.rebase.Goals as goal

pub sums_for-sums-requires-clause-most : goal.sums_for-sums-requires-clause-most
sums_for-sums-requires-clause-most g c =
    let i = c.self.inside in
    let sound = c.self.invariant c.if-self.false in
    held_small i.most (value_small i.most sound.tied.most)

pub sums_for-sums-requires-clause-before : goal.sums_for-sums-requires-clause-before
sums_for-sums-requires-clause-before g c =
    let i = c.self.inside in
    let sound = c.self.invariant c.if-self.false in
    let s : Standing = make i.spoiled i.horizon i.least i.most i.moment i.base i.value (standing same_effect i.notes.items) in
    let sum = c.sum_to-self-inside.result in
    let small : IsSmall sum = subst (λ z. IsSmall z) (sym c.sum_to-self-inside.ensures.sum) (sum_small s i.before (g.P.Points.points i.points) i.moment sound.tied) in
    held_small (held sum) (held_small sum small)

pub mend_both-requires-clause-low : goal.mend_both-requires-clause-low
mend_both-requires-clause-low g c =
    apart_low _ _ _ _ _ (c.self.invariant c.if-self.false)

pub mend_both-requires-clause-high : goal.mend_both-requires-clause-high
mend_both-requires-clause-high g c =
    apart_high _ _ _ _ _ (c.self.invariant c.if-self.false)

pub invariant_of-self-2 : goal.invariant_of-self-2
invariant_of-self-2 g c =
    let i = c.self.inside in
    let sound = c.self.invariant c.if-self.false in
    let s : Standing = make i.spoiled i.horizon i.least i.most i.moment i.base i.value (standing same_effect i.notes.items) in
    let sum = c.sum_to-self-inside.result in
    let small : IsSmall sum = subst (λ z. IsSmall z) (sym c.sum_to-self-inside.ensures.sum) (sum_small s i.before (g.P.Points.points i.points) i.moment sound.tied) in
    let v = held c.args.value in
    let valued : IsValue v = subst (λ z. IsValue z) (sym (raw c.args.value (value_small c.args.value c.requires))) c.requires in
    let exact : held sum ≡ sum = raw sum small in
    let s2 : Standing = make false i.horizon i.least i.most i.moment i.moment v s.effects in
    let sound2 : IsSound s2 (held sum) (g.P.Points.points i.points) c.mend_both.new.low c.mend_both.new.high =
    sound_rebased i.spoiled i.horizon i.least i.most i.moment i.base i.value s.effects i.before (g.P.Points.points i.points) v (held sum) c.sums_for-sums.result.least c.sums_for-sums.result.most i.low c.mend_both.new.low i.high c.mend_both.new.high
    sound valued (exact ∙ c.sum_to-self-inside.ensures.sum)
    (limit_is i.least c.sums_for-sums.result.least v v (held sum) (value_small i.least sound.tied.least) refl (ap held exact) c.sums_for-sums.ensures.least)
    (limit_is i.most c.sums_for-sums.result.most v v (held sum) (value_small i.most sound.tied.most) refl (ap held exact) c.sums_for-sums.ensures.most)
    c.in_ok-change.ensures.low_apart c.in_ok-change.ensures.high_apart c.in_ok-change.ensures.low_covers c.in_ok-change.ensures.high_covers in
    λ e. sound2

pub returns-clause-change : goal.returns-clause-change
returns-clause-change g c =
    let i = c.self.inside in
    let sound = c.self.invariant c.if-self.false in
    let s : Standing = make i.spoiled i.horizon i.least i.most i.moment i.base i.value (standing same_effect i.notes.items) in
    let sum = c.sum_to-self-inside.result in
    let small : IsSmall sum = subst (λ z. IsSmall z) (sym c.sum_to-self-inside.ensures.sum) (sum_small s i.before (g.P.Points.points i.points) i.moment sound.tied) in
    let v = held c.args.value in
    let valued : IsValue v = subst (λ z. IsValue z) (sym (raw c.args.value (value_small c.args.value c.requires))) c.requires in
    let exact : held sum ≡ sum = raw sum small in
    let s2 : Standing = make false i.horizon i.least i.most i.moment i.moment v s.effects in
    let sound2 : IsSound s2 (held sum) (g.P.Points.points i.points) c.mend_both.new.low c.mend_both.new.high =
    sound_rebased i.spoiled i.horizon i.least i.most i.moment i.base i.value s.effects i.before (g.P.Points.points i.points) v (held sum) c.sums_for-sums.result.least c.sums_for-sums.result.most i.low c.mend_both.new.low i.high c.mend_both.new.high
    sound valued (exact ∙ c.sum_to-self-inside.ensures.sum)
    (limit_is i.least c.sums_for-sums.result.least v v (held sum) (value_small i.least sound.tied.least) refl (ap held exact) c.sums_for-sums.ensures.least)
    (limit_is i.most c.sums_for-sums.result.most v v (held sum) (value_small i.most sound.tied.most) refl (ap held exact) c.sums_for-sums.ensures.most)
    c.in_ok-change.ensures.low_apart c.in_ok-change.ensures.high_apart c.in_ok-change.ensures.low_covers c.in_ok-change.ensures.high_covers in
    subst (λ (w : Standing). AreChanges (low_now w) (low_now s2) (high_now w) (high_now s2) c.in_ok-change.change) c.self.view_is (sound_changes s s2 _ _ _ _ _ _ _ _ c.in_ok-change.change sound sound2 c.in_ok-change.ensures.changes)
