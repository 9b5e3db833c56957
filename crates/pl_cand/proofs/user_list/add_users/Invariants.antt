use Rattle.std.proofs.Common.{◌≡◌, drop}
use Rattle.pl_cand.specs.Tests.{users_with}
use Rattle.pl_cand.proofs.user_list.add_users.Given as goal

-- what is there and what comes of the other activities
abbrev pub invariant-loop-place : goal.invariant-loop-place
invariant-loop-place l = users_with l.state l.timeline l.role l.ids.items (drop l.place l.state.plan.activities) ≡ users_with l.state l.timeline l.role l.fn.ids.items (drop l.begin l.state.plan.activities)
