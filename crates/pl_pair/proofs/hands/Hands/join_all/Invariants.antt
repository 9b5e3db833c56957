use Rattle.std.proofs.Common.{◌≡◌, true, map}
use Rattle.std.specs.List.{All}
use Rattle.std.specs.Vec.Iter.{into_iter_items}
use Rattle.pl_turn.specs.Passes.{leads}
use Rattle.pl_pair.specs.Workers.{IsHand, duty_of}
use Rattle.pl_pair.proofs.Handing.{JoinsSome}
use Rattle.pl_pair.proofs.hands.Hands.join_all.Given as goal

abbrev pub invariant-loop-hand : goal.invariant-loop-hand
invariant-loop-hand g l =
    All (IsHand l.plan) (into_iter_items l.hand-iterator)
    × JoinsSome l.plan (map duty_of (into_iter_items l.initial.hand-iterator)) (into_iter_items l.hand-iterator) l.initial.pass l.met l.pass
    × (leads l.pass ≡ true)
