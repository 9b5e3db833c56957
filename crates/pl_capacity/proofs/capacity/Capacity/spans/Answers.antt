use Rattle.std.proofs.Common.{◌≡◌, ◌∙◌, subst, false}
use Rattle.pl_capacity.specs.Uses.{Standing, state_of, spans_now}
use Rattle.pl_capacity.proofs.Shifts.{sound_spans}
use Rattle.pl_capacity.proofs.capacity.Capacity.spans.Goals as goal

pub returns : goal.returns
returns g c =
    let s : Standing = state_of c.self.inside.spoiled c.self.inside.horizon c.self.inside.most c.self.inside.moment c.self.inside.notes.items in
    let told : s.spoiled ≡ false → c.deref.result.now ≡ spans_now s = λ e. c.deref.ensures.value ∙ sound_spans s (g.P.Points.points c.self.inside.points) c.self.inside.spans.items (c.self.invariant e) in
    subst (λ (v : Standing). v.spoiled ≡ false → c.deref.result.now ≡ spans_now v) c.self.view_is told
