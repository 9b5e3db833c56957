-- What stands of the world after a legal log, and what a log that goes on leaves as it was.
use Rattle.std.specs.Prelude.{◌≡◌, ℕ, ◌<◌, ◌≤◌, List, [], ◌∷◌, ◌++◌, Option, Some}
use Rattle.pl_plan.specs.declared.activity.Activity.{Activity}
use Rattle.pl_plan.specs.Activities.{ended}
use Rattle.pl_msg.specs.declared.message.Message.{Message}
use Rattle.pl_semantics.specs.declared.plan_state.PlanState.{PlanState}
use Rattle.pl_semantics.specs.PlanStates.{found, row_of, end_at}
use Rattle.pl_machine.specs.World.{World, due_in}
use Rattle.pl_laws.specs.Accepted.{ends_told}

-- what was sent is a front of what is due
abbrev pub IsFrontOfDue : World → Type 0
IsFrontOfDue w = (rest : List ℕ) × (due_in w.state ≡ w.dispatched ++ rest)

-- The activity after its end was measured at each of these moments: the last one counts. Nothing else of it changes.
abbrev pub ended_at : List ℕ → Activity → Activity
ended_at [] a = a
ended_at (moment ∷ more) a = ended_at more (ended moment a)

-- the last of these moments, else the end that was there before
abbrev pub last_end : List ℕ → Option ℕ → Option ℕ
last_end [] before = before
last_end (moment ∷ more) before = last_end more (Some moment)

-- What these messages leave of the activities that start below a moment: each is committed then, and stands as it was, with its
-- values, but for its end. Its end is the one that the last of the messages tells for it; where none does, it is as it was.
pub record StaysBelow (h : ℕ) (messages : List Message) (old new : PlanState) : Type 0 where
  pub committed : h ≤ new.committed
  pub stands : (id : ℕ) (a : Activity) → found old id ≡ Some a → a.start < h → found new id ≡ Some (ended_at (ends_told id messages) a)
  pub values : (id : ℕ) (a : Activity) → found old id ≡ Some a → a.start < h → row_of new a ≡ row_of old a
  pub ends : (id : ℕ) (a : Activity) → found old id ≡ Some a → a.start < h → end_at new a ≡ last_end (ends_told id messages) (end_at old a)
