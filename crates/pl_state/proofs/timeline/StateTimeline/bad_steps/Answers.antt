use Rattle.std.proofs.Common.{◌≡◌, false, sym, ◌∙◌, subst}
use Rattle.pl_state.specs.Keys.{AreSorted}
use Rattle.pl_state.specs.Sorted.{bad_key}
use Rattle.pl_state.specs.Keeping.{state_of}
use Rattle.pl_state.specs.Timelines.{Standing, bad_now}
use Rattle.pl_state.proofs.timeline.StateTimeline.bad_steps.Goals as goal

pub returns-clause-told : goal.returns-clause-told
returns-clause-told c =
    let told : c.self.inside.spoiled ≡ false → c.deref.result.now ≡ bad_now (state_of c.self.inside.spoiled c.self.inside.kept) =
    λ e. c.deref.ensures.value ∙ (c.self.invariant e).sets in
    subst (λ (v : Standing). v.spoiled ≡ false → c.deref.result.now ≡ bad_now v) c.self.view_is told

pub returns-clause-sorted : goal.returns-clause-sorted
returns-clause-sorted c =
    let sorted : c.self.inside.spoiled ≡ false → AreSorted bad_key c.deref.result.now =
    λ e. subst (AreSorted bad_key) (sym c.deref.ensures.value) (c.self.invariant e).sorted in
    subst (λ (v : Standing). v.spoiled ≡ false → AreSorted bad_key c.deref.result.now) c.self.view_is sorted
