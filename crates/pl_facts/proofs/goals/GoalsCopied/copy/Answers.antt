use Rattle.std.proofs.Common.{sym}
use Rattle.pl_facts.specs.Goals.{AreDistinct}
use Rattle.pl_facts.proofs.Numbered.{goal_of-before}
use Rattle.pl_facts.proofs.goals.GoalsCopied.copy.Goals as goal

pub push-requires : goal.push-requires
push-requires c =
    let distinct : AreDistinct c.deref-goal-items.result.now = rw c.deref-goal-items.ensures.value c.self.invariant.distinct in
    rw (c.in_ok-copy.ensures, c.loop-goal.invariant) (goal_of-before c.deref-goal-items.result.now c.loop-goal.goal-index c.goal-item.result distinct c.loop-goal-test.true (sym c.goal-item.is))
