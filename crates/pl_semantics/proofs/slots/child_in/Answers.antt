use Rattle.std.proofs.Common.{◌∙◌}
use Rattle.pl_semantics.proofs.Children.{child_found}
use Rattle.pl_semantics.proofs.slots.child_in.Goals as goal

pub returns-clause-value : goal.returns-clause-value
returns-clause-value c =
    c.first_filling.ensures.value
    ∙ rw (c.as_slice.ensures.value, c.in_ok-children.ensures.ids) (child_found c.args.s.now.plan.activities c.requires.whole.rising c.args.parent.now.id c.args.slot)
