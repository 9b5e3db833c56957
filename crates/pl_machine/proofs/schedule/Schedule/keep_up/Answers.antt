use Rattle.std.proofs.Common.{◌<◌, subst}
use Rattle.pl_semantics.specs.declared.plan_state.PlanState.{PlanState}
use Rattle.pl_machine.proofs.Calm.{due_still}
use Rattle.pl_machine.proofs.Settled.{ahead_later}
use Rattle.pl_machine.proofs.schedule.Schedule.keep_up.Goals as goal

pub returns-then-state-self-clause-due : goal.returns-then-state-self-clause-due
returns-then-state-self-clause-due c =
    due_still c.args.board.now.state c.args.before c.args.self.now.ahead.next_start c.args.self.now.due.items c.requires.listed c.requires.later (subst (λ (s : PlanState). s.moment < c.args.self.now.ahead.next_start) c.state.ensures.value c.if-state-self.true) c.requires.ahead.calm

pub returns-then-state-self-clause-ahead : goal.returns-then-state-self-clause-ahead
returns-then-state-self-clause-ahead c = ahead_later c.args.board.now.state c.args.before c.args.self.now.ahead c.args.self.now.ranges.items c.requires.later c.requires.ahead
