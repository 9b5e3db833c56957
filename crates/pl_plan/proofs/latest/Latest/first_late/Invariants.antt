-- no activity of the groups that were passed starts late
use Rattle.std.proofs.Common.{ℕ, ◌<◌, ◌≤◌, ◌-◌, length}
use Rattle.pl_plan.specs.Latest.{latest_in}
use Rattle.pl_plan.proofs.latest.Latest.first_late.Given as goal

abbrev pub invariant-groups : goal.invariant-groups
invariant-groups l = (l.from ≤ l.group) × ((n : ℕ) → l.from ≤ n → n < l.group → (n < l.self.limit) × (latest_in n l.self < l.moment))

abbrev pub decreases-groups : goal.decreases-groups
decreases-groups l = length l.self.starts - l.group
