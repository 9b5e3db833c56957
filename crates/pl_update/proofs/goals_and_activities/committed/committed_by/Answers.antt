use Rattle.std.proofs.Common.{List, map, ap, ◌∙◌}
use Rattle.std.specs.Prelude.{filter}
use Rattle.pl_conflict.specs.declared.conflict.Conflict.{Conflict}
use Rattle.pl_update.specs.GoalsAndActivities.Passed.{subject_of}
use Rattle.pl_update.specs.GoalsAndActivities.Committed.{is_open_goal, is_of_activity, missed_goals, early_ids}
use Rattle.pl_update.proofs.AboutGoalsAndActivities.Walking.{front_is_early}
use Rattle.pl_update.proofs.goals_and_activities.committed.committed_by.Goals as goal

pub returns-clause-numbers : goal.returns-clause-numbers
unfolding missed_goals
returns-clause-numbers c =
    c.in_ok-numbers.ensures
    ∙ ap (λ (ks : List Conflict). map subject_of (filter is_open_goal ks))
    (c.as_slice.ensures.value ∙ c.in_ok-early.ensures.items ∙ front_is_early c.args.h c.args.set.now c.in_ok-early.ensures.ordered)

pub returns-clause-ids : goal.returns-clause-ids
unfolding early_ids
returns-clause-ids c =
    c.in_ok-ids.ensures
    ∙ ap (λ (ks : List Conflict). map subject_of (filter is_of_activity ks))
    (c.as_slice-2.ensures.value ∙ c.in_ok-early.ensures.items ∙ front_is_early c.args.h c.args.set.now c.in_ok-early.ensures.ordered)
