-- those before this place have lower ids
use Rattle.std.specs.Prelude.{All, ◌<◌, take}
use Rattle.pl_machine.proofs.counting.count_few_below.Given as goal

abbrev pub invariant-loop-place : goal.invariant-loop-place
invariant-loop-place l = All (λ a. a.id < l.id) (take l.place l.activities)
