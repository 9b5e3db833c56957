use Rattle.std.proofs.Common.{◌≡◌, ℕ, List, false, ◌∙◌}
use Rattle.pl_plan.specs.declared.activity.Activity.{Activity}
use Rattle.pl_semantics.specs.declared.plan_state.PlanState.{PlanState}
use Rattle.pl_update.specs.Changes.Replaced.{CanReplace, with_plan}
use Rattle.pl_memo.specs.declared.memory.Memory.{Memory}
use Rattle.pl_memo.specs.Memories.{AreRemembered, IsMadeFrom, going}
use Rattle.pl_memo.proofs.Remembering.{none_remembered, remembered_after}
use Rattle.pl_board.proofs.Once.{once_rising}
use Rattle.pl_board.proofs.board.Board.memory_after.Goals.{in-Ok, in-Err}
use Rattle.pl_board.proofs.board.Board.memory_after.Goals as goal

pub returns-clause-remembered : goal.returns-clause-remembered
returns-clause-remembered c = λ unspoiled.
    let w = c.self.inside.watched in
    let s : PlanState = w.state in
    let gone : List ℕ = c.args.gone.now in
    let more : List Activity = c.args.placed.now in
    let result : Memory = c.match-going.result in
    let sound : c.self.inside.spoiled ≡ false = rw (← c.self.view_is) at unspoiled in
    let can : CanReplace s gone more = rw (← c.self.view_is) at (c.requires.can unspoiled) in
    let after : AreRemembered (with_plan gone more s) result = elim c.match-going.branch [
      | in-Ok b ↦
          let left : List Activity = b.deref.result.now in
          let is : left ≡ going s.plan.activities gone = b.deref.ensures.value ∙ b.in-Ok.ensures in
          let changed : (t u : PlanState) → IsMadeFrom t u (going s.plan.activities gone) more → AreRemembered t c.self.inside.memory → AreRemembered u result = λ t u made are.
          rw b.result-is (b.changed.ensures t u (rw is made) (rw c.replace-memory.ensures.value are)) in
          remembered_after s gone more c.self.inside.memory result (c.self.invariant.watched sound).whole
          (once_rising gone (c.are_rising.ensures c.if-not-are_rising.false)) can changed (c.self.invariant.remembered sound)
      | in-Err b ↦ none_remembered (with_plan gone more s) result (b.result-is ∙ b.new-in-Err.ensures)
    ] in
    rw (← c.self.view_is) after
