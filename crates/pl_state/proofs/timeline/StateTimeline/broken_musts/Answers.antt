use Rattle.std.proofs.Common.{◌≡◌, false, ◌∙◌, subst}
use Rattle.pl_state.specs.Keeping.{state_of}
use Rattle.pl_state.specs.Timelines.{Standing, broken_now}
use Rattle.pl_state.proofs.timeline.StateTimeline.broken_musts.Goals as goal

pub returns : goal.returns
returns c =
    let told : c.self.inside.spoiled ≡ false → c.deref.result.now ≡ broken_now (state_of c.self.inside.spoiled c.self.inside.kept) =
    λ e. c.deref.ensures.value ∙ (c.self.invariant e).musts in
    subst (λ (v : Standing). v.spoiled ≡ false → c.deref.result.now ≡ broken_now v) c.self.view_is told
