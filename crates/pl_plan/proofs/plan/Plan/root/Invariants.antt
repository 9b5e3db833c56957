use Rattle.std.proofs.Common.{◌≡◌}
use Rattle.pl_plan.specs.Trees.{root_of}
use Rattle.pl_plan.proofs.plan.Plan.root.Given as goal

abbrev pub invariant-loop-parent : goal.invariant-loop-parent
invariant-loop-parent l = root_of l.top l.self.activities ≡ root_of l.id l.self.activities

abbrev pub decreases-loop-parent : goal.decreases-loop-parent
decreases-loop-parent l = l.top
