use Rattle.std.proofs.Common.{◌≡◌, ◌∙◌, sym, ap, subst, List}
use Rattle.std.specs.Arc.{arc_value}
use Rattle.pl_facts.specs.Bases.{first_bases}
use Rattle.pl_plan.specs.declared.activity.Activity.{Activity}
use Rattle.pl_semantics.specs.declared.plan_state.PlanState.{PlanState}
use Rattle.pl_semantics.specs.Whole.{IsWhole}
use Rattle.pl_update.specs.Changes.Changes.{first_state}
use Rattle.pl_update.proofs.AboutChanges.Keeping.{whole_first}
use Rattle.pl_board.proofs.board.Board.new.Goals as goal

pub new-requires-5-clause-whole : goal.new-requires-5-clause-whole
new-requires-5-clause-whole c =
    let model = arc_value c.args.model in
    let with_activities : List Activity → PlanState = λ xs. record (first_state model c.args.live) { plan = record { activities = xs } } in
    let start : IsWhole (with_activities c.new-3.result.activities) = subst (λ xs. IsWhole (with_activities xs)) (sym c.new-3.ensures) (whole_first model c.args.live c.requires.checked c.requires.live) in
    rw c.new-2.ensures (rw c.new-4.ensures (rw bases start))
  where
    bases : c.in_ok-bases.bases ≡ first_bases (arc_value c.args.model)
    bases = c.in_ok-bases.ensures.first ∙ ap first_bases c.deref.ensures
