use Rattle.std.proofs.Common.{◌∙◌, ap, sym}
use Rattle.std.specs.Option.{option_copied}
use Rattle.pl_plan.specs.Activities.{activity_of}
use Rattle.trials_planner.proofs.board.changes.can_measure.Goals as goal

pub returns-in-Some : goal.returns-in-Some
returns-in-Some c = λ can. record {
  a = c.in-Some.activity.now;
  here = ap (λ p. activity_of c.args.id p.activities) (sym c.plan.ensures) ∙ sym c.get.ensures.value ∙ ap option_copied c.in-Some.is;
  begun = c.can_end.ensures.begun can;
  committed = c.can_end.ensures.committed can;
  after = c.can_end.ensures.after can;
  within = c.can_end.ensures.within can;
}
