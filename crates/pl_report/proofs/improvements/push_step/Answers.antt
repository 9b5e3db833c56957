use Rattle.std.proofs.Common.{ℤ, ◌++◌, refl, ap, ◌∙◌, rules}
use Rattle.std.proofs.lemmas.Int.{to_z-of_z}
use mir.Syntax.{w128}
use mir.Val.{SFits}
use Rattle.pl_report.specs.Improvements.{step_line}
use Rattle.pl_report.proofs.Improving.{told_score, one_more}
use Rattle.pl_report.proofs.improvements.push_step.Goals as goal

pub push_step_line-requires : goal.push_step_line-requires
push_step_line-requires g c =
    let stepped = rw c.in-Some.is at c.in_ok-change.ensures.stepped in
    record { state = c.args.scored.now.board.state; prefers = c.args.scored.now.prefers; best = stepped.best }

pub returns-in_ok-push_step_line-in-Some : goal.returns-in_ok-push_step_line-in-Some
returns-in_ok-push_step_line-in-Some g c =
    let stepped = rw c.in-Some.is at c.in_ok-change.ensures.stepped in
    let points = told_score _ _ c.requires c.score-before.ensures.value c.score-before.ensures.scored in
    one_more c.args.number c.in-Some.change _ _ _ _ points c.step.ensures.prefers stepped (λ model. c.in_ok-push_step_line-in-Some.ensures model ∙ ap (λ (z : ℤ). c.args.text.now.items ++ step_line model c.args.number c.in-Some.change z) (to_z-of_z w128 c.score.result (let fits : SFits w128 c.score.result = search rules in fits) ∙ c.score.ensures.value))

pub returns-in-None : goal.returns-in-None
returns-in-None g c =
    let stepped = rw c.in-None.is at c.in_ok-change.ensures.stepped in
    (stepped.best, stepped.same refl, refl)
