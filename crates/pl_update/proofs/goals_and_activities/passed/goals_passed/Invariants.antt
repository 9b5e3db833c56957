use Rattle.std.proofs.Common.{◌≡◌, ◌++◌, map}
use Rattle.std.specs.Prelude.{filter}
use Rattle.pl_conflict.specs.Sorting.{AreInOrder}
use Rattle.pl_update.specs.GoalsAndActivities.Passed.{is_open_by, subject_of}
use Rattle.pl_update.proofs.goals_and_activities.passed.goals_passed.Given as goal

-- the others are in order, and what they give with what was found is the whole
abbrev pub invariant-loop-conflict : goal.invariant-loop-conflict
invariant-loop-conflict l = record {
  ordered : AreInOrder l.conflict-iterator;
  rest : l.numbers.items ++ map subject_of (filter (is_open_by l.now) l.conflict-iterator) ≡ map subject_of (filter (is_open_by l.now) l.set);
}
