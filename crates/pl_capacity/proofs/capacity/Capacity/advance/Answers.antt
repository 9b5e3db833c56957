use Rattle.std.proofs.Common.{◌≡◌, ◌≤◌, sym, refl, subst, false}
use Rattle.pl_capacity.specs.Uses.{Standing, state_of, spans_now}
use Rattle.pl_capacity.specs.Soundness.{IsSound}
use Rattle.pl_capacity.proofs.Shifts.{sound_apart, sound_change, sound_later}
use Rattle.pl_points.specs.Changes.{IsChange}
use Rattle.pl_capacity.proofs.capacity.Capacity.advance.Goals as goal

pub forget-requires : goal.forget-requires
forget-requires g c =
    let ps = g.P.Points.points c.self.inside.points in
    let spans = c.self.inside.spans.items in
    let s : Standing = state_of c.self.inside.spoiled c.self.inside.horizon c.self.inside.most c.self.inside.moment c.self.inside.notes.items in
    let sound : IsSound s ps spans = c.self.invariant c.if-self.false in
    sound_apart s ps spans sound

pub invariant_of-self-2 : goal.invariant_of-self-2
invariant_of-self-2 g c =
    let ps = g.P.Points.points c.self.inside.points in
    let spans = c.self.inside.spans.items in
    let s : Standing = state_of c.self.inside.spoiled c.self.inside.horizon c.self.inside.most c.self.inside.moment c.self.inside.notes.items in
    let sound : IsSound s ps spans = c.self.invariant c.if-self.false in
    let s2 : Standing = state_of false c.self.inside.horizon c.self.inside.most c.args.now c.self.inside.notes.items in
    let later : s.moment ≤ c.args.now = subst (λ (v : Standing). v.spoiled ≡ false → v.moment ≤ c.args.now) (sym c.self.view_is) c.requires.later c.if-self.false in
    let bound : c.args.now ≤ s.horizon = subst (λ (v : Standing). v.spoiled ≡ false → c.args.now ≤ v.horizon) (sym c.self.view_is) c.requires.bound c.if-self.false in
    let sound2 : IsSound s2 ps c.forget.new.kept.items = sound_later s s2 ps spans c.forget.new.kept.items sound refl refl refl later bound c.in_ok-change.ensures.apart c.in_ok-change.ensures.covers in
    λ e. sound2

pub returns-clause-change : goal.returns-clause-change
returns-clause-change g c =
    let ps = g.P.Points.points c.self.inside.points in
    let spans = c.self.inside.spans.items in
    let s : Standing = state_of c.self.inside.spoiled c.self.inside.horizon c.self.inside.most c.self.inside.moment c.self.inside.notes.items in
    let sound : IsSound s ps spans = c.self.invariant c.if-self.false in
    let s2 : Standing = state_of false c.self.inside.horizon c.self.inside.most c.args.now c.self.inside.notes.items in
    let later : s.moment ≤ c.args.now = subst (λ (v : Standing). v.spoiled ≡ false → v.moment ≤ c.args.now) (sym c.self.view_is) c.requires.later c.if-self.false in
    let bound : c.args.now ≤ s.horizon = subst (λ (v : Standing). v.spoiled ≡ false → c.args.now ≤ v.horizon) (sym c.self.view_is) c.requires.bound c.if-self.false in
    let sound2 : IsSound s2 ps c.forget.new.kept.items = sound_later s s2 ps spans c.forget.new.kept.items sound refl refl refl later bound c.in_ok-change.ensures.apart c.in_ok-change.ensures.covers in
    subst (λ (v : Standing). IsChange (spans_now v) (spans_now s2) c.in_ok-change.change) c.self.view_is (sound_change s s2 ps ps spans c.forget.new.kept.items c.in_ok-change.change sound sound2 c.in_ok-change.ensures.change)
