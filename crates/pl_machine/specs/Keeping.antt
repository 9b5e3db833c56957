-- What a change of the plan leaves as it was.
use Rattle.std.specs.Prelude.{◌≡◌, ℕ, ◌≤◌, ◌+◌, ◌++◌, true, List, All, Some, IfSome}
use Rattle.pl_model.specs.Checked.{IsAmount}
use Rattle.pl_plan.specs.declared.activity.Activity.{Activity}
use Rattle.pl_semantics.specs.declared.plan_state.PlanState.{PlanState}
use Rattle.pl_semantics.specs.PlanStates.{found, is_committed, row_of}
use Rattle.pl_machine.specs.World.{due_in}

-- the values of each committed activity are from 0 to 1,000,000,000 where they are there, as a command says them
abbrev pub AreSendable : PlanState → Type 0
AreSendable s = (id : ℕ) (a : Activity) → found s id ≡ Some a → is_committed s a ≡ true → All (λ v. IfSome v IsAmount) (row_of s a)

-- What each change keeps: the model, what was due, and commands that can be sent. It gives sixteen ids at most.
pub record KeepsStanding (old new : PlanState) : Type 0 where
  pub model : new.model ≡ old.model
  pub next_id : new.next_id ≤ old.next_id + 16
  pub due : (rest : List ℕ) × (due_in new ≡ due_in old ++ rest)
  pub sendable : AreSendable old → AreSendable new
