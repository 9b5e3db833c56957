use Rattle.std.proofs.Common.{◌≡◌, ℕ, ◌∙◌, true, false, sym, ap}
use mir.Val.{to_z, of_z}
use mir.Syntax.{w64}
use Rattle.std.proofs.lemmas.Int.{to_z-of_z}
use Rattle.pl_points.specs.Points.{is_out}
use Rattle.pl_points.proofs.Strolls.{same_bounds}
use Rattle.pl_update.proofs.AboutTimelines.StandingReadings.{level_readable_in, level_read}
use Rattle.pl_update.specs.Timelines.Readings.{level_of}
use Rattle.pl_semantics.specs.declared.plan_state.PlanState.{PlanState}
use Rattle.pl_semantics.specs.Demands.{level_at}
use Rattle.std.specs.Prelude.{slice_get}
use Rattle.pl_board.proofs.board.Board.level_until.Goals as goal

pub level_until-requires-clause-window : goal.level_until-requires-clause-window
level_until-requires-clause-window c =
    let w = c.watched.result.now in
    let unspoiled : c.args.self.now.spoiled ≡ false = sym c.spoiled.ensures ∙ c.if-spoiled.false in
    let kept = c.watched.ensures.watched unspoiled in
    level_readable_in w.state w.lines kept.timelines c.args.line c.args.from c.args.to (rw c.watched.ensures.state (c.requires.level unspoiled)) (rw c.watched.ensures.state (c.requires.now unspoiled)) (c.requires.order unspoiled) (rw c.watched.ensures.state (c.requires.horizon unspoiled))

pub returns-clause-within : goal.returns-clause-within
returns-clause-within c = λ unspoiled t low lt.
    let w = c.watched.result.now in
    let kept = c.watched.ensures.watched unspoiled in
    let is : level_of t (slice_get w.lines c.args.line) ≡ level_at c.args.self.now.state c.args.line t =
    level_read w.state w.lines kept.timelines c.args.line t (rw c.watched.ensures.state (c.requires.level unspoiled)) ∙ ap (λ (s : PlanState). level_at s c.args.line t) c.watched.ensures.state in
    let least = to_z-of_z w64 c.args.least c.ranges.least in
    let most = to_z-of_z w64 c.args.most c.ranges.most in
    ap (is_out c.args.least c.args.most) (sym is) ∙ same_bounds c.args.least c.args.most (to_z w64 (of_z w64 c.args.least)) (to_z w64 (of_z w64 c.args.most)) (level_of t (slice_get w.lines c.args.line)) false (sym least) (sym most) (c.level_until.ensures.within t low lt)

pub returns-clause-leaves : goal.returns-clause-leaves
returns-clause-leaves c = λ unspoiled lt.
    let w = c.watched.result.now in
    let t : ℕ = c.level_until.result in
    let kept = c.watched.ensures.watched unspoiled in
    let is : level_of t (slice_get w.lines c.args.line) ≡ level_at c.args.self.now.state c.args.line t =
    level_read w.state w.lines kept.timelines c.args.line t (rw c.watched.ensures.state (c.requires.level unspoiled)) ∙ ap (λ (s : PlanState). level_at s c.args.line t) c.watched.ensures.state in
    let least = to_z-of_z w64 c.args.least c.ranges.least in
    let most = to_z-of_z w64 c.args.most c.ranges.most in
    ap (is_out c.args.least c.args.most) (sym is) ∙ same_bounds c.args.least c.args.most (to_z w64 (of_z w64 c.args.least)) (to_z w64 (of_z w64 c.args.most)) (level_of t (slice_get w.lines c.args.line)) true (sym least) (sym most) (c.level_until.ensures.leaves lt)
