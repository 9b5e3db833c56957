use Rattle.std.proofs.Common.{◌≡◌, ◌∙◌, false, sym, ap}
use Rattle.pl_update.proofs.AboutTimelines.StandingReadings.{state_readable, state_read}
use Rattle.pl_semantics.specs.declared.plan_state.PlanState.{PlanState}
use Rattle.pl_semantics.specs.Demands as Demands
use Rattle.pl_board.proofs.board.Board.state_at.Goals as goal

pub state_at-requires : goal.state_at-requires
state_at-requires c =
    let w = c.watched.result.now in
    let unspoiled : c.args.self.now.spoiled ≡ false = sym c.spoiled.ensures ∙ c.if-spoiled.false in
    let kept = c.watched.ensures.watched unspoiled in
    state_readable w.state w.lines kept.timelines c.args.line c.args.t (rw c.watched.ensures.state (c.requires.states unspoiled)) (rw c.watched.ensures.state (c.requires.now unspoiled)) (rw c.watched.ensures.state (c.requires.before_horizon unspoiled))

pub returns : goal.returns
returns c = λ unspoiled.
    let w = c.watched.result.now in
    let kept = c.watched.ensures.watched unspoiled in
    let is : c.state_at.result ≡ Demands.state_at c.args.self.now.state c.args.line c.args.t =
    c.state_at.ensures ∙ state_read w.state w.lines kept.timelines c.args.line c.args.t kept.whole.rising (rw c.watched.ensures.state (c.requires.states unspoiled)) ∙ ap (λ (s : PlanState). Demands.state_at s c.args.line c.args.t) c.watched.ensures.state in
    is
