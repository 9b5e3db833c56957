use Rattle.std.proofs.Common.{◌≡◌, sym, subst, false}
use Rattle.pl_points.specs.Standing.{noted, standing}
use Rattle.pl_level.specs.Effects.{Standing, same_effect, low_now, high_now}
use Rattle.pl_level.specs.Soundness.{IsSound, AreChanges}
use Rattle.pl_level.proofs.Levels.{make, apart_low, apart_high, sound_changes, same_state}
use Rattle.pl_level.proofs.Shifting.{ready, held, small_added, small_amount, small_before, small_least, small_most, small_value, small_next, sound_after, cost_after, cost_early, window_rises, noted_is}
use Rattle.pl_level.proofs.level.Level.changed.Goals as goal

pub add-requires : goal.add-requires
add-requires g c =
    let is = ready c.args.self.now c.args.at c.args.added c.args.note c.self.view_is c.self.invariant c.requires.unspoiled c.requires.shift in
    small_added is

pub sum_before-self-inside-requires-clause-before : goal.sum_before-self-inside-requires-clause-before
sum_before-self-inside-requires-clause-before g c =
    let is = ready c.args.self.now c.args.at c.args.added c.args.note c.self.view_is c.self.invariant c.requires.unspoiled c.requires.shift in
    small_before is

pub sum_before-self-inside-requires-clause-delta : goal.sum_before-self-inside-requires-clause-delta
sum_before-self-inside-requires-clause-delta g c =
    let is = ready c.args.self.now c.args.at c.args.added c.args.note c.self.view_is c.self.invariant c.requires.unspoiled c.requires.shift in
    small_amount is

pub sums_for-sums-requires-clause-least : goal.sums_for-sums-requires-clause-least
sums_for-sums-requires-clause-least g c =
    let is = ready c.args.self.now c.args.at c.args.added c.args.note c.self.view_is c.self.invariant c.requires.unspoiled c.requires.shift in
    small_least is

pub sums_for-sums-requires-clause-most : goal.sums_for-sums-requires-clause-most
sums_for-sums-requires-clause-most g c =
    let is = ready c.args.self.now c.args.at c.args.added c.args.note c.self.view_is c.self.invariant c.requires.unspoiled c.requires.shift in
    small_most is

pub sums_for-sums-requires-clause-value : goal.sums_for-sums-requires-clause-value
sums_for-sums-requires-clause-value g c =
    let is = ready c.args.self.now c.args.at c.args.added c.args.note c.self.view_is c.self.invariant c.requires.unspoiled c.requires.shift in
    small_value is

pub sums_for-sums-requires-clause-before : goal.sums_for-sums-requires-clause-before
sums_for-sums-requires-clause-before g c =
    let is = ready c.args.self.now c.args.at c.args.added c.args.note c.self.view_is c.self.invariant c.requires.unspoiled c.requires.shift in
    small_next is c.sum_before-self-inside.result c.sum_before-self-inside.ensures

pub mend_both-requires-clause-window : goal.mend_both-requires-clause-window
mend_both-requires-clause-window g c =
    let i = c.self.inside in
    window_rises i.horizon i.moment i.base c.args.at c.window_of-near.result c.window_of-near.ensures.from c.window_of-near.ensures.to

pub mend_both-requires-clause-low : goal.mend_both-requires-clause-low
mend_both-requires-clause-low g c =
    let is = ready c.args.self.now c.args.at c.args.added c.args.note c.self.view_is c.self.invariant c.requires.unspoiled c.requires.shift in
    apart_low _ _ _ _ _ is.sound

pub mend_both-requires-clause-high : goal.mend_both-requires-clause-high
mend_both-requires-clause-high g c =
    let is = ready c.args.self.now c.args.at c.args.added c.args.note c.self.view_is c.self.invariant c.requires.unspoiled c.requires.shift in
    apart_high _ _ _ _ _ is.sound

pub invariant_of-self-2 : goal.invariant_of-self-2
invariant_of-self-2 g c =
    let i = c.self.inside in
    let said = noted_is i.notes.items c.with-self-inside.result.items c.args.note c.with-self-inside.ensures in
    let is = ready c.args.self.now c.args.at c.args.added c.args.note c.self.view_is c.self.invariant c.requires.unspoiled c.requires.shift in
    let sound2 : IsSound (make false i.horizon i.least i.most i.moment i.base i.value (standing same_effect c.with-self-inside.result.items)) (held c.sum_before-self-inside.result) (g.P.Points.points c.add.new.self) c.mend_both.new.low c.mend_both.new.high =
    subst (λ l. IsSound (make false i.horizon i.least i.most i.moment i.base i.value l) (held c.sum_before-self-inside.result) (g.P.Points.points c.add.new.self) c.mend_both.new.low c.mend_both.new.high) (sym said)
    (sound_after is c.sum_before-self-inside.result c.sum_before-self-inside.ensures c.sums_for-sums.result.least c.sums_for-sums.result.most c.sums_for-sums.ensures.least c.sums_for-sums.ensures.most
    c.window_of-near.result c.window_of-near.ensures.from c.window_of-near.ensures.to (g.P.Points.points c.add.new.self) c.in_ok-add.ensures.ok c.mend_both.new.low c.mend_both.new.high
    c.in_ok-change.ensures.low_apart c.in_ok-change.ensures.high_apart c.in_ok-change.ensures.low_covers c.in_ok-change.ensures.high_covers) in
    λ e. sound2

pub returns-clause-ok : goal.returns-clause-ok
returns-clause-ok g c =
    let i = c.self.inside in
    let said = noted_is i.notes.items c.with-self-inside.result.items c.args.note c.with-self-inside.ensures in
    let is = ready c.args.self.now c.args.at c.args.added c.args.note c.self.view_is c.self.invariant c.requires.unspoiled c.requires.shift in
    subst (λ (v : Standing). make false i.horizon i.least i.most i.moment i.base i.value (standing same_effect c.with-self-inside.result.items) ≡ make v.spoiled v.horizon v.least v.most v.moment v.base v.value (noted same_effect v.effects c.args.note)) c.self.view_is
    (same_state i.spoiled i.horizon i.least i.most i.moment i.base i.value (standing same_effect c.with-self-inside.result.items) (noted same_effect (standing same_effect i.notes.items) c.args.note) is.unspoiled said)

pub returns-clause-change : goal.returns-clause-change
returns-clause-change g c =
    let i = c.self.inside in
    let said = noted_is i.notes.items c.with-self-inside.result.items c.args.note c.with-self-inside.ensures in
    let is = ready c.args.self.now c.args.at c.args.added c.args.note c.self.view_is c.self.invariant c.requires.unspoiled c.requires.shift in
    let sound2 : IsSound (make false i.horizon i.least i.most i.moment i.base i.value (standing same_effect c.with-self-inside.result.items)) (held c.sum_before-self-inside.result) (g.P.Points.points c.add.new.self) c.mend_both.new.low c.mend_both.new.high =
    subst (λ l. IsSound (make false i.horizon i.least i.most i.moment i.base i.value l) (held c.sum_before-self-inside.result) (g.P.Points.points c.add.new.self) c.mend_both.new.low c.mend_both.new.high) (sym said)
    (sound_after is c.sum_before-self-inside.result c.sum_before-self-inside.ensures c.sums_for-sums.result.least c.sums_for-sums.result.most c.sums_for-sums.ensures.least c.sums_for-sums.ensures.most
    c.window_of-near.result c.window_of-near.ensures.from c.window_of-near.ensures.to (g.P.Points.points c.add.new.self) c.in_ok-add.ensures.ok c.mend_both.new.low c.mend_both.new.high
    c.in_ok-change.ensures.low_apart c.in_ok-change.ensures.high_apart c.in_ok-change.ensures.low_covers c.in_ok-change.ensures.high_covers) in
    let s2 = make false i.horizon i.least i.most i.moment i.base i.value (standing same_effect c.with-self-inside.result.items) in
    subst (λ (v : Standing). AreChanges (low_now v) (low_now s2) (high_now v) (high_now s2) c.in_ok-change.change) c.self.view_is (sound_changes _ s2 _ _ _ _ _ _ _ _ c.in_ok-change.change is.sound sound2 c.in_ok-change.ensures.changes)

pub returns-clause-cost : goal.returns-clause-cost
returns-clause-cost g c =
    let is = ready c.args.self.now c.args.at c.args.added c.args.note c.self.view_is c.self.invariant c.requires.unspoiled c.requires.shift in
    cost_after is c.sum_before-self-inside.result c.sum_before-self-inside.ensures c.sums_for-sums.result.least c.sums_for-sums.result.most c.sums_for-sums.ensures.least c.sums_for-sums.ensures.most
    c.window_of-near.result c.window_of-near.ensures.from c.window_of-near.ensures.to (g.P.Points.points c.add.new.self) c.in_ok-add.ensures.ok
    g.P.Points.parts g.P.Points.change_steps g.P.Points.look_steps g.P.Points.search_steps c.args.steps.now c.add.new.steps c.mend_both.new.steps c.args.self.now c.self.view_is c.add.ensures.cost c.mend_both.ensures.cost

pub returns-in_err-change-clause-cost : goal.returns-in_err-change-clause-cost
returns-in_err-change-clause-cost g c =
    let is = ready c.args.self.now c.args.at c.args.added c.args.note c.self.view_is c.self.invariant c.requires.unspoiled c.requires.shift in
    cost_after is c.sum_before-self-inside.result c.sum_before-self-inside.ensures c.sums_for-sums.result.least c.sums_for-sums.result.most c.sums_for-sums.ensures.least c.sums_for-sums.ensures.most
    c.window_of-near.result c.window_of-near.ensures.from c.window_of-near.ensures.to (g.P.Points.points c.add.new.self) c.in_ok-add.ensures.ok
    g.P.Points.parts g.P.Points.change_steps g.P.Points.look_steps g.P.Points.search_steps c.args.steps.now c.add.new.steps c.mend_both.new.steps c.args.self.now c.self.view_is c.add.ensures.cost c.mend_both.ensures.cost

pub returns-in_err-add-clause-cost : goal.returns-in_err-add-clause-cost
returns-in_err-add-clause-cost g c =
    let is = ready c.args.self.now c.args.at c.args.added c.args.note c.self.view_is c.self.invariant c.requires.unspoiled c.requires.shift in
    cost_early is g.P.Points.parts g.P.Points.change_steps g.P.Points.look_steps g.P.Points.search_steps c.args.steps.now c.add.new.steps c.args.self.now c.self.view_is c.add.ensures.cost
