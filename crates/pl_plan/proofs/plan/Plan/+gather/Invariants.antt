use Rattle.std.proofs.Common.{◌≡◌, ℕ, ◌-◌, ◌||◌, take, eqb}
use Rattle.std.specs.Ordering.{nat_cmp}
use Rattle.std.specs.List.{list_any}
use Rattle.std.specs.BTreeSet.{contains}
use Rattle.pl_plan.specs.Trees.{descends}
use Rattle.pl_plan.proofs.plan.Plan.+gather.Given as goal

-- a child has a larger id
abbrev pub decreases-gather : goal.decreases-gather
decreases-gather l = 4294967296 - l.id

-- what descends from the children so far has come
abbrev pub invariant-loop-child : goal.invariant-loop-child
invariant-loop-child l = (q : ℕ) → contains nat_cmp l.found q ≡ (list_any (λ c. descends l.self.activities c q) (take l.child-index l.child-items) || (eqb l.id q || contains nat_cmp l.fn.found q))
