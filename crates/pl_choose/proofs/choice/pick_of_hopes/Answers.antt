use Rattle.std.proofs.Common.{◌∷◌, List, subst}
use Rattle.std.specs.Prelude.{All}
use Rattle.std.proofs.lemmas.List.Elements.{All-tail}
use Rattle.pl_plan.specs.declared.repair.RepairMove.{RepairMove}
use Rattle.pl_moves.specs.Changes.{IsOfActivities}
use Rattle.pl_choose.specs.Found.{IsAllowed}
use Rattle.pl_choose.proofs.choice.pick_of_hopes.Goals as goal

pub stages_of-staged-requires-clause-rest : goal.stages_of-staged-requires-clause-rest
stages_of-staged-requires-clause-rest c =
    let s = c.args.board.now.state in
    let first : RepairMove = c.in-Some.first.now in
    let rest : List RepairMove = c.in-Some.rest.now in
    let all : All (IsAllowed s) (first ∷ rest) = subst (λ (ms : List RepairMove). All (IsAllowed s) ms) c.in-Some.ensures.cases.0 c.requires.allowed in
    rw c.state.ensures.value (All-tail (IsAllowed s) first rest all)

pub stages_of-staged-requires-clause-activities : goal.stages_of-staged-requires-clause-activities
stages_of-staged-requires-clause-activities c = subst (λ (ms : List RepairMove). All IsOfActivities ms) c.in-Some.ensures.cases.0 (c.are_choices.ensures c.if-not-are_choices.false)
