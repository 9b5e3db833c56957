use Rattle.std.proofs.Common.{◌∙◌, sym, ap}
use Rattle.pl_semantics.specs.Activities.{row_above}
use Rattle.pl_detect.proofs.Found.{parent_live}
use Rattle.pl_update.proofs.AboutEvaluations.Reading.{values_kept, kept_there}
use Rattle.pl_update.proofs.goals_and_activities.kept.row_above.Goals as goal

pub unreachable-requires : goal.unreachable-requires
unreachable-requires c =
    let s = c.args.s.now in
    kept_there s.model s.plan.activities c.in-Some.parent (parent_live s c.requires.whole c.args.a.now c.requires.live (c.in-Some.parent, c.in-Some.field-0-1) c.in-Some.is) (c.in-None-of.ensures.of_state s c.requires.kept)

pub returns-in-Some-of : goal.returns-in-Some-of
returns-in-Some-of c =
    let s = c.args.s.now in
    c.as_slice.ensures ∙ values_kept s.model s.plan.activities c.in-Some.parent c.in-Some-of.evaluated.now (c.in-Some-of.ensures.of_state s c.requires.kept) ∙ ap (row_above s) (sym c.in-Some.is)
