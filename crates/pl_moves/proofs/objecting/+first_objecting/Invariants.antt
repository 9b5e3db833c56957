use Rattle.std.proofs.Common.{◌-◌}
use Rattle.pl_moves.specs.Objections.{objects}
use Rattle.pl_moves.proofs.Foremost.{IsLeast, IsSoFar}
use Rattle.pl_moves.proofs.objecting.+first_objecting.Given as goal

-- a child has a larger id
abbrev pub decreases-first_objecting : goal.decreases-first_objecting
decreases-first_objecting l = l.s.now.next_id - l.top

-- the least one of those below the children so far
abbrev pub invariant-loop-child : goal.invariant-loop-child
invariant-loop-child l = IsLeast (IsSoFar l.s.plan.activities (objects l.s l.objection) l.top l.last) l.first

abbrev pub decreases-loop-child : goal.decreases-loop-child
decreases-loop-child l = l.s.next_id - l.last
