use Rattle.std.proofs.Common.{◌≡◌, map}
use Rattle.std.specs.List.{All}
use Rattle.pl_pair.specs.Workers.{IsHand, duty_of}
use Rattle.pl_pair.proofs.hands.Hands.act.Given as goal

abbrev pub invariant-loop-hand : goal.invariant-loop-hand
invariant-loop-hand g l = All (IsHand l.plan) l.hand-items × (map duty_of l.hand-items ≡ map duty_of l.initial.hand-items)
