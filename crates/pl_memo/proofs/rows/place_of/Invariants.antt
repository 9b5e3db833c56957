-- the rest gives the whole
use Rattle.std.proofs.Common.{◌≡◌, ◌+◌, drop}
use Rattle.std.specs.Prelude.{nat_eq}
use Rattle.std.specs.List.{position_or_len}
use Rattle.pl_plan.specs.declared.activity.Activity.{Activity}
use Rattle.pl_memo.proofs.rows.place_of.Given as goal

abbrev pub invariant-loop-place : goal.invariant-loop-place
invariant-loop-place l = l.place + position_or_len (λ (a : Activity). nat_eq a.id l.id) (drop l.place l.activities) ≡ position_or_len (λ (a : Activity). nat_eq a.id l.id) l.activities
