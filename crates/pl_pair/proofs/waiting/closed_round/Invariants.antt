use Rattle.pl_locked.specs.Plans.{BelongsTo}
use Rattle.pl_pair.specs.Workers.{AreHands, SameDuties}
use Rattle.pl_pair.specs.Rounds.{LooksAtPlan}
use Rattle.pl_pair.proofs.waiting.closed_round.Given as goal

-- the round is not over yet
abbrev pub invariant-loop : goal.invariant-loop
invariant-loop g l = record {
  own : BelongsTo l.plan l.pass;
  hands : AreHands l.plan l.hands;
  duties : SameDuties l.initial.hands l.hands;
  looks : LooksAtPlan l.initial.pass l.pass;
}
