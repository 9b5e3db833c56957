use Rattle.std.proofs.Common.{◌≡◌, take, map}
use Rattle.pl_plan.specs.Trees.{id_of}
use Rattle.pl_update.proofs.evaluations.shifting.have_the_same_ids.Given as goal

abbrev pub invariant-loop-place : goal.invariant-loop-place
invariant-loop-place l = map id_of (take l.place l.placed) ≡ take l.place l.gone
