use Rattle.std.proofs.Common.{◌≡◌, [], drop, ◌-◌}
use Rattle.pl_cand.specs.Tests.{users_with}
use Rattle.pl_cand.proofs.user_list.first_users.Given as goal

-- what is there and what comes of the other activities
abbrev pub invariant-parts : goal.invariant-parts
invariant-parts l = users_with l.state l.timeline l.role l.ids.items (drop l.place l.state.plan.activities) ≡ users_with l.state l.timeline l.role [] l.state.plan.activities

abbrev pub decreases-parts : goal.decreases-parts
decreases-parts l = l.count - l.place
