use Rattle.std.proofs.Common.{◌≡◌, false, ap, sym, ◌∙◌, subst}
use Rattle.pl_state.specs.Timelines.{Standing, AreChanges, broken_now, bad_now}
use Rattle.pl_state.specs.Keeping.{state_of, IsTimely, after}
use Rattle.pl_state.proofs.timeline.StateTimeline.changed.Goals as goal

pub make-requires-clause-timely : goal.make-requires-clause-timely
make-requires-clause-timely c =
    let i = c.self.inside in
    let same : state_of false i.kept ≡ c.args.self.now = ap (λ b. state_of b i.kept) (sym c.if-self.false) ∙ c.self.view_is in
    subst (λ (v : Standing). IsTimely c.args.change v) (sym same) (c.requires (ap (λ (v : Standing). v.spoiled) (sym same)))

pub returns-clause-ok : goal.returns-clause-ok
returns-clause-ok c =
    let i = c.self.inside in
    let same : state_of false i.kept ≡ c.args.self.now = ap (λ b. state_of b i.kept) (sym c.if-self.false) ∙ c.self.view_is in
    c.in_ok-told.ensures.is ∙ ap (after c.args.change) same

pub returns-clause-change : goal.returns-clause-change
returns-clause-change c =
    let i = c.self.inside in
    let same : state_of false i.kept ≡ c.args.self.now = ap (λ b. state_of b i.kept) (sym c.if-self.false) ∙ c.self.view_is in
    let t : Standing = state_of false c.make.new.self in
    subst (λ (v : Standing). AreChanges (broken_now v) (broken_now t) (bad_now v) (bad_now t) c.in_ok-told.told) same c.in_ok-told.ensures.answers
