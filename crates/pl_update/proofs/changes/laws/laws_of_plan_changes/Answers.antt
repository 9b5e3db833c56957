use Rattle.pl_update.proofs.AboutChanges.Finding.{found-replaced}
use Rattle.pl_update.proofs.AboutChanges.Keeping.{whole_first, whole_with_goal, whole_without_goal, whole_moved_on, whole_told, whole_committed, whole_withdrawn, whole_with_next, whole_replaced}
use Rattle.pl_update.proofs.AboutChanges.Measuring.{measured_as, can_measure, whole_measured}
use Rattle.pl_update.proofs.AboutChanges.Putting.{puttable}
use Rattle.pl_update.proofs.changes.laws.laws_of_plan_changes.Goals as goal

pub returns-clause-first : goal.returns-clause-first
returns-clause-first c = whole_first

pub returns-clause-goal_comes : goal.returns-clause-goal_comes
returns-clause-goal_comes c = whole_with_goal

pub returns-clause-goal_goes : goal.returns-clause-goal_goes
returns-clause-goal_goes c = whole_without_goal

pub returns-clause-later : goal.returns-clause-later
returns-clause-later c = whole_moved_on

pub returns-clause-told : goal.returns-clause-told
returns-clause-told c = whole_told

pub returns-clause-committed : goal.returns-clause-committed
returns-clause-committed c = whole_committed

pub returns-clause-withdrawn : goal.returns-clause-withdrawn
returns-clause-withdrawn c = whole_withdrawn

pub returns-clause-measured : goal.returns-clause-measured
returns-clause-measured c = whole_measured

pub returns-clause-may_measure : goal.returns-clause-may_measure
returns-clause-may_measure c = λ s id moment a whole here can. can_measure s id moment whole a here can

pub returns-clause-measures : goal.returns-clause-measures
returns-clause-measures c = λ s id moment a whole here. measured_as s id moment whole a here

pub returns-clause-next : goal.returns-clause-next
returns-clause-next c = whole_with_next

pub returns-clause-replaced : goal.returns-clause-replaced
returns-clause-replaced c = whole_replaced

pub returns-clause-found : goal.returns-clause-found
returns-clause-found c = λ s gone more q whole can. found-replaced s.plan.activities gone more q whole.rising (puttable s.plan.activities gone more whole.rising can.once can.free)
