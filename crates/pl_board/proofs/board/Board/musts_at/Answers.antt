use Rattle.std.proofs.Common.{◌≡◌, ◌∙◌, false, true, sym, ap, subst, List}
use Rattle.std.specs.Prelude.{◌↔◌, IfOk, slice_get}
use Rattle.pl_state.specs.declared.reservation.Must.{Must}
use Rattle.pl_state.specs.Keys.{Has}
use Rattle.pl_state.specs.Musts.{holds_at}
use Rattle.pl_update.proofs.AboutTimelines.StandingReadings.{state_readable, musts_read}
use Rattle.pl_update.specs.Timelines.Readings.{musts_standing}
use Rattle.pl_semantics.specs.declared.plan_state.PlanState.{PlanState}
use Rattle.pl_semantics.specs.Demands.{demands_of, musts_of}
use Rattle.pl_board.proofs.board.Board.musts_at.Goals as goal

pub musts_at-requires : goal.musts_at-requires
musts_at-requires c =
    let w = c.watched.result.now in
    let unspoiled : c.args.self.now.spoiled ≡ false = sym c.spoiled.ensures ∙ c.if-spoiled.false in
    let kept = c.watched.ensures.watched unspoiled in
    state_readable w.state w.lines kept.timelines c.args.line c.args.t (rw c.watched.ensures.state (c.requires.states unspoiled)) (rw c.watched.ensures.state (c.requires.now unspoiled)) (rw c.watched.ensures.state (c.requires.before_horizon unspoiled))

pub returns : goal.returns
returns c = λ unspoiled.
    let w = c.watched.result.now in
    let kept = c.watched.ensures.watched unspoiled in
    let is : musts_standing (slice_get w.lines c.args.line) ≡ musts_of c.args.line (demands_of c.args.self.now.state) =
    musts_read w.state w.lines kept.timelines c.args.line c.args.t kept.whole.rising (rw c.watched.ensures.state (c.requires.states unspoiled)) ∙ ap (λ (s : PlanState). musts_of c.args.line (demands_of s)) c.watched.ensures.state in
    subst (λ (l : List Must). IfOk c.musts_at.result (λ v. (m : Must) → Has m v.items ↔ (Has m l × (holds_at c.args.t m ≡ true)))) is c.musts_at.ensures
