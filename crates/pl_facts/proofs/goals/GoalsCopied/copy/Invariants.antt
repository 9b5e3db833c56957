use Rattle.std.proofs.Common.{◌≡◌, take}
use Rattle.pl_facts.proofs.goals.GoalsCopied.copy.Given as goal

-- the copy has the goals so far
abbrev pub invariant-loop-goal : goal.invariant-loop-goal
invariant-loop-goal l = l.all ≡ take l.goal-index l.goal-items
