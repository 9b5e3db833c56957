use Rattle.std.proofs.Common.{◌≡◌, take, map}
use Rattle.pl_plan.specs.Trees.{id_of}
use Rattle.pl_update.proofs.changes.replacement.come_again.Given as goal

abbrev pub invariant-loop-place : goal.invariant-loop-place
invariant-loop-place l = map id_of (take l.place l.first) ≡ take l.place l.gone
