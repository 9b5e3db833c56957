use Rattle.std.proofs.Common.{◌≡◌, ◌≤◌, length, map, take, vec_len, vec_capacity}
use Rattle.std.specs.List.{All}
use Rattle.pl_pair.specs.Workers.{IsHand, duty_of}
use Rattle.pl_pair.specs.Joins.{IsFresh, Splits}
use Rattle.pl_pair.proofs.pairing.hire_all.Given as goal

abbrev pub invariant-loop-place : goal.invariant-loop-place
invariant-loop-place g l =
    (vec_len l.all ≡ l.place) × (length l.duties ≤ vec_capacity l.all) × All (IsHand l.plan) l.all.items × (map duty_of l.all.items ≡ take l.place l.duties)
    × IsFresh l.plan l.pass × Splits l.initial.pass l.place l.pass
