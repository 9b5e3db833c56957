-- what is not looked at yet holds before the change, and what was kept holds after it
use Rattle.std.proofs.Common.{All}
use Rattle.std.specs.Vec.Iter.{into_iter_items}
use Rattle.pl_semantics.specs.declared.plan_state.PlanState.{PlanState}
use Rattle.pl_memo.specs.Memories.{Holds, IsMadeFrom}
use Rattle.pl_memo.proofs.memory.all_kept.Given as goal

abbrev pub invariant-loop-answer : goal.invariant-loop-answer
invariant-loop-answer l = (s t : PlanState) → IsMadeFrom s t l.left l.more → All (Holds s) l.fn.answers → All (Holds s) (into_iter_items l.answer-iterator) × All (Holds t) l.all.items
