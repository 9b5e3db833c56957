use Rattle.std.proofs.Common.{◌∙◌, ap, sym}
use Rattle.pl_semantics.proofs.Found.{found_live}
use Rattle.pl_plan.specs.Activities.{activity_of}
use Rattle.pl_plan.specs.State.{PlanValue}
use Rattle.pl_bounds.proofs.asking.add_asked_by.Goals as goal

pub add_asked-requires-clause-live : goal.add_asked-requires-clause-live
add_asked-requires-clause-live c = found_live c.args.id c.args.board.now.state.plan.activities c.in-Some.a.now (ap (λ (p : PlanValue). activity_of c.args.id p.activities) (sym c.plan.ensures) ∙ sym c.in-Some.ensures.value)
