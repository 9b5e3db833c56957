use Rattle.std.proofs.Common.{sym, ◌∙◌}
use Rattle.pl_semantics.specs.PlanStates.{is_committed}
use Rattle.pl_moves.proofs.Foremost.{first_none, first_alone}
use Rattle.pl_moves.proofs.legality.first_locked.Goals as goal

pub returns-in-Add : goal.returns-in-Add
returns-in-Add c = rw c.in-Add.is (sym (first_none c.args.s.now.plan.activities))

pub returns-in-Drop : goal.returns-in-Drop
returns-in-Drop c = rw c.in-Drop.is (sym (first_none c.args.s.now.plan.activities))

pub returns-in-Detail : goal.returns-in-Detail
returns-in-Detail c = rw c.in-Detail.is (c.committed_one.ensures ∙ sym (first_alone (is_committed c.args.s.now) c.in-Detail.id 0 c.args.s.now.plan.activities c.requires.whole.rising))
