use Rattle.std.proofs.Common.{rules, ◌≡◌, sym, subst, false}
use mir.Val.{to_z, of_z, SFits}
use mir.Syntax.{w64}
use Rattle.std.proofs.lemmas.Int.{to_z-of_z}
use Rattle.pl_points.specs.Changes.{IsChange}
use Rattle.pl_points.specs.Standing.{noted, standing}
use Rattle.pl_capacity.specs.Uses.{Standing, same_use, spans_now}
use Rattle.pl_capacity.specs.Soundness.{IsSound}
use Rattle.pl_capacity.proofs.Shifts.{ready, make, same_state, sound_apart, sound_change, fits_back, is_back, small_from, small_to, sound_after, cost_after, noted_is}
use Rattle.pl_capacity.proofs.capacity.Capacity.changed.Goals as goal

pub overflow_sub-added : goal.overflow_sub-added
overflow_sub-added g c =
    let is = ready c.args.self.now c.args.from c.args.to c.args.added c.args.note c.self.view_is c.self.invariant c.requires.unspoiled c.requires.shift in
    fits_back is

pub shift-requires-clause-back : goal.shift-requires-clause-back
shift-requires-clause-back g c =
    let is = ready c.args.self.now c.args.from c.args.to c.args.added c.args.note c.self.view_is c.self.invariant c.requires.unspoiled c.requires.shift in
    is_back is

pub shift-requires-clause-one : goal.shift-requires-clause-one
shift-requires-clause-one g c =
    let is = ready c.args.self.now c.args.from c.args.to c.args.added c.args.note c.self.view_is c.self.invariant c.requires.unspoiled c.requires.shift in
    small_from is

pub shift-requires-clause-both : goal.shift-requires-clause-both
shift-requires-clause-both g c =
    let is = ready c.args.self.now c.args.from c.args.to c.args.added c.args.note c.self.view_is c.self.invariant c.requires.unspoiled c.requires.shift in
    small_to is

pub shift-requires-clause-apart : goal.shift-requires-clause-apart
shift-requires-clause-apart g c =
    let is = ready c.args.self.now c.args.from c.args.to c.args.added c.args.note c.self.view_is c.self.invariant c.requires.unspoiled c.requires.shift in
    sound_apart _ _ _ is.sound

pub invariant_of-self-2 : goal.invariant_of-self-2
invariant_of-self-2 g c =
    let i = c.self.inside in
    let fits : SFits w64 i.most = search rules in
    let most : to_z w64 (of_z w64 i.most) ≡ i.most = to_z-of_z w64 i.most fits in
    let is = ready c.args.self.now c.args.from c.args.to c.args.added c.args.note c.self.view_is c.self.invariant c.requires.unspoiled c.requires.shift in
    let uses = standing same_use c.with-self-inside.result.items in
    let said = noted_is i.notes.items c.with-self-inside.result.items c.args.note c.with-self-inside.ensures in
    let points = g.P.Points.points c.shift.new.points in
    let sound : IsSound (make false i.horizon i.most i.moment uses) points c.shift.new.spans.items =
    subst (λ l. IsSound (make false i.horizon i.most i.moment l) points c.shift.new.spans.items) (sym said)
    (sound_after is (to_z w64 (of_z w64 i.most)) points c.shift.new.spans.items most c.in_ok-change.ensures.points c.in_ok-change.ensures.apart c.in_ok-change.ensures.covers) in
    λ e. sound

pub returns-clause-ok : goal.returns-clause-ok
returns-clause-ok g c =
    let i = c.self.inside in
    let is = ready c.args.self.now c.args.from c.args.to c.args.added c.args.note c.self.view_is c.self.invariant c.requires.unspoiled c.requires.shift in
    let uses = standing same_use c.with-self-inside.result.items in
    let said = noted_is i.notes.items c.with-self-inside.result.items c.args.note c.with-self-inside.ensures in
    subst (λ (v : Standing). make false i.horizon i.most i.moment uses ≡ make v.spoiled v.horizon v.most v.moment (noted same_use v.uses c.args.note)) c.self.view_is
    (same_state i.spoiled i.horizon i.most i.moment uses (noted same_use (standing same_use i.notes.items) c.args.note) is.unspoiled said)

pub returns-clause-change : goal.returns-clause-change
returns-clause-change g c =
    let i = c.self.inside in
    let fits : SFits w64 i.most = search rules in
    let most : to_z w64 (of_z w64 i.most) ≡ i.most = to_z-of_z w64 i.most fits in
    let is = ready c.args.self.now c.args.from c.args.to c.args.added c.args.note c.self.view_is c.self.invariant c.requires.unspoiled c.requires.shift in
    let uses = standing same_use c.with-self-inside.result.items in
    let said = noted_is i.notes.items c.with-self-inside.result.items c.args.note c.with-self-inside.ensures in
    let points = g.P.Points.points c.shift.new.points in
    let sound : IsSound (make false i.horizon i.most i.moment uses) points c.shift.new.spans.items =
    subst (λ l. IsSound (make false i.horizon i.most i.moment l) points c.shift.new.spans.items) (sym said)
    (sound_after is (to_z w64 (of_z w64 i.most)) points c.shift.new.spans.items most c.in_ok-change.ensures.points c.in_ok-change.ensures.apart c.in_ok-change.ensures.covers) in
    let s2 : Standing = make false i.horizon i.most i.moment uses in
    subst (λ (v : Standing). IsChange (spans_now v) (spans_now s2) c.in_ok-change.change) c.self.view_is (sound_change _ s2 _ _ _ _ c.in_ok-change.change is.sound sound c.in_ok-change.ensures.change)

pub returns-clause-cost : goal.returns-clause-cost
returns-clause-cost g c =
    let i = c.self.inside in
    let fits : SFits w64 i.most = search rules in
    let most : to_z w64 (of_z w64 i.most) ≡ i.most = to_z-of_z w64 i.most fits in
    let is = ready c.args.self.now c.args.from c.args.to c.args.added c.args.note c.self.view_is c.self.invariant c.requires.unspoiled c.requires.shift in
    cost_after is g.P.Points.parts g.P.Points.change_steps g.P.Points.look_steps g.P.Points.search_steps c.args.steps.now c.shift.new.steps (to_z w64 (of_z w64 i.most)) c.args.self.now most c.self.view_is c.shift.ensures.cost

pub returns-in_err-change-clause-cost : goal.returns-in_err-change-clause-cost
returns-in_err-change-clause-cost g c =
    let i = c.self.inside in
    let fits : SFits w64 i.most = search rules in
    let most : to_z w64 (of_z w64 i.most) ≡ i.most = to_z-of_z w64 i.most fits in
    let is = ready c.args.self.now c.args.from c.args.to c.args.added c.args.note c.self.view_is c.self.invariant c.requires.unspoiled c.requires.shift in
    cost_after is g.P.Points.parts g.P.Points.change_steps g.P.Points.look_steps g.P.Points.search_steps c.args.steps.now c.shift.new.steps (to_z w64 (of_z w64 i.most)) c.args.self.now most c.self.view_is c.shift.ensures.cost
