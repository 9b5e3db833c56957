-- the rest gives the whole
use Rattle.std.proofs.Common.{◌≡◌, ◌+◌, drop}
use Rattle.std.specs.Prelude.{nat_lt}
use Rattle.std.specs.List.{prefix_len}
use Rattle.pl_plan.specs.declared.activity.Activity.{Activity}
use Rattle.pl_memo.proofs.rows.smaller.Given as goal

abbrev pub invariant-loop-place : goal.invariant-loop-place
invariant-loop-place l = l.place + prefix_len (λ (a : Activity). nat_lt a.id l.id) (drop l.place l.activities) ≡ prefix_len (λ (a : Activity). nat_lt a.id l.id) l.activities
