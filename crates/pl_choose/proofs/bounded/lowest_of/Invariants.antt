-- no higher than the number and those so far
use Rattle.std.specs.Prelude.{◌≤◌, All, take}
use Rattle.pl_choose.proofs.bounded.lowest_of.Given as goal

abbrev pub invariant-loop-bound : goal.invariant-loop-bound
invariant-loop-bound l = record { most : l.lowest ≤ l.most; least : All (λ n. l.lowest ≤ n) (take l.bound-index l.bounds) }
