use Rattle.std.proofs.Common.{◌≡◌, List, [], ap, ◌∙◌, sym, subst, ℕ, ◌≤◌}
use Rattle.std.specs.Prelude.{All}
use Rattle.std.proofs.lemmas.Result.{IfOk-weaker}
use Rattle.pl_board.specs.Boards.{Standing}
use Rattle.pl_semantics.specs.Conflicts.{conflicts_of}
use Rattle.pl_semantics.specs.declared.plan_state.PlanState.{PlanState}
use Rattle.pl_prefs.specs.declared.prefer.Prefer.{Prefer}
use Rattle.pl_prefs.specs.Prefers.{IsPreferOf}
use Rattle.pl_prefs.specs.Scoreds.{Scoring, scoring_of}
use Rattle.pl_report.specs.Improvements.{IsBettered, IsImprovement}
use Rattle.pl_report.proofs.FewIds.{few_ids}
use Rattle.pl_report.proofs.OfModel.{items_fit}
use Rattle.pl_report.proofs.improvements.improvement_text.Goals as goal

pub new-requires-clause-next : goal.new-requires-clause-next
new-requires-clause-next c =
    let state : c.in_ok-board.board.state ≡ c.args.machine.now.world.state = ap (λ (b : Standing). b.state) (c.in_ok-board.ensures ∙ c.board.ensures) in
    subst (λ (s : PlanState). s.next_id ≤ 3999999000) (sym state)
    (few_ids c.args.machine.now.model c.args.machine.now.log c.args.machine.now.world c.model-model.ensures.checked (c.log-log.ensures.history c.requires.unspoiled))

pub new-requires-clause-fits : goal.new-requires-clause-fits
new-requires-clause-fits c =
    let state : c.in_ok-board.board.state ≡ c.args.machine.now.world.state = ap (λ (b : Standing). b.state) (c.in_ok-board.ensures ∙ c.board.ensures) in
    let fit : All (IsPreferOf c.args.machine.now.model) c.in_ok-prefers.prefers.items = subst (λ (ps : List Prefer). All (IsPreferOf c.args.machine.now.model) ps) (sym c.in_ok-prefers.ensures.items) c.requires.fits in
    items_fit IsPreferOf c.args.machine.now.model c.args.machine.now.log c.args.machine.now.world c.in_ok-board.board.state c.in_ok-prefers.prefers.items
    (c.log-log.ensures.history c.requires.unspoiled) state fit

pub returns-in-Ok : goal.returns-in-Ok
returns-in-Ok c =
    let s = c.args.machine.now.world.state in
    let state : c.in_ok-board.board.state ≡ s = ap (λ (b : Standing). b.state) (c.in_ok-board.ensures ∙ c.board.ensures) in
    let made : c.in-Ok.scored ≡ scoring_of c.in_ok-board.board c.in_ok-prefers.prefers.items = rw c.in-Ok.is at c.new.ensures.made in
    let none : conflicts_of c.in_ok-board.board.state ≡ [] = rw c.in-Ok.is at c.new.ensures.clear in
    let clear : conflicts_of s ≡ [] = ap conflicts_of (sym state) ∙ none in
    let same : c.in-Ok.scored.board.state ≡ s = ap (λ (x : Scoring). x.board.state) made ∙ state in
    let liked : c.in-Ok.scored.prefers ≡ c.args.prefers.now = ap (λ (x : Scoring). x.prefers) made ∙ c.in_ok-prefers.ensures.items in
    IfOk-weaker c.steps_text.result
    (λ text. IsBettered c.in-Ok.scored.board.state c.in-Ok.scored.prefers c.args.most text.items)
    (λ text. IsImprovement s c.args.prefers.now c.args.most text.items)
    (λ text better. record {
      conflicts = λ some. absurd (some clear);
      bettered = λ _. subst (λ (ps : List Prefer). IsBettered s ps c.args.most text.items) liked (subst (λ (t : PlanState). IsBettered t c.in-Ok.scored.prefers c.args.most text.items) same better);
    })
    c.steps_text.ensures
