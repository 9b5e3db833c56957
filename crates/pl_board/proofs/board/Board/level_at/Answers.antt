use Rattle.std.proofs.Common.{◌≡◌, ◌∙◌, false, sym, ap}
use Rattle.pl_update.proofs.AboutTimelines.StandingReadings.{level_readable, level_read}
use Rattle.std.proofs.Common.{rules}
use mir.Syntax.{w64}
use mir.Val.{SFits}
use Rattle.std.proofs.lemmas.Int.{to_z-of_z}
use Rattle.pl_semantics.specs.declared.plan_state.PlanState.{PlanState}
use Rattle.pl_semantics.specs.Demands as Demands
use Rattle.pl_board.proofs.board.Board.level_at.Goals as goal

pub level_at-requires : goal.level_at-requires
level_at-requires c =
    let w = c.watched.result.now in
    let unspoiled : c.args.self.now.spoiled ≡ false = sym c.spoiled.ensures ∙ c.if-spoiled.false in
    let kept = c.watched.ensures.watched unspoiled in
    level_readable w.state w.lines kept.timelines c.args.line c.args.t (rw c.watched.ensures.state (c.requires.level unspoiled)) (rw c.watched.ensures.state (c.requires.now unspoiled)) (rw c.watched.ensures.state (c.requires.before_horizon unspoiled))

pub returns : goal.returns
returns c = λ unspoiled.
    let w = c.watched.result.now in
    let kept = c.watched.ensures.watched unspoiled in
    let is : c.level_at.result ≡ Demands.level_at c.args.self.now.state c.args.line c.args.t =
    c.level_at.ensures ∙ level_read w.state w.lines kept.timelines c.args.line c.args.t (rw c.watched.ensures.state (c.requires.level unspoiled)) ∙ ap (λ (s : PlanState). Demands.level_at s c.args.line c.args.t) c.watched.ensures.state in
    let fits : SFits w64 c.level_at.result = search rules in
    to_z-of_z w64 c.level_at.result fits ∙ is
