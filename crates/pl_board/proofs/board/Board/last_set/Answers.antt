use Rattle.std.proofs.Common.{◌≡◌, ◌∙◌, false, sym, ap}
use Rattle.std.specs.Prelude.{slice_get}
use Rattle.pl_state.specs.Sets.{last_by}
use Rattle.pl_update.proofs.AboutTimelines.StandingReadings.{state_readable, sets_read}
use Rattle.pl_update.specs.Timelines.Readings.{sets_standing}
use Rattle.pl_semantics.specs.declared.plan_state.PlanState.{PlanState}
use Rattle.pl_semantics.specs.Demands.{demands_of, sets_of}
use Rattle.pl_board.proofs.board.Board.last_set.Goals as goal

pub last_set-requires : goal.last_set-requires
last_set-requires c =
    let w = c.watched.result.now in
    let unspoiled : c.args.self.now.spoiled ≡ false = sym c.spoiled.ensures ∙ c.if-spoiled.false in
    let kept = c.watched.ensures.watched unspoiled in
    state_readable w.state w.lines kept.timelines c.args.line c.args.t (rw c.watched.ensures.state (c.requires.states unspoiled)) (rw c.watched.ensures.state (c.requires.now unspoiled)) (rw c.watched.ensures.state (c.requires.before_horizon unspoiled))

pub returns : goal.returns
returns c = λ unspoiled.
    let w = c.watched.result.now in
    let kept = c.watched.ensures.watched unspoiled in
    let is : sets_standing (slice_get w.lines c.args.line) ≡ sets_of c.args.line (demands_of c.args.self.now.state) =
    sets_read w.state w.lines kept.timelines c.args.line c.args.t kept.whole.rising (rw c.watched.ensures.state (c.requires.states unspoiled)) ∙ ap (λ (s : PlanState). sets_of c.args.line (demands_of s)) c.watched.ensures.state in
    c.last_set.ensures ∙ ap (last_by c.args.t) is
