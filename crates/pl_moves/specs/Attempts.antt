-- What comes of trying a move.
use Rattle.std.specs.Prelude.{◌≡◌, ℕ, nat_le, nat_lt, Bool, true, false, ◌&&◌, Option, Some, None}
use Rattle.pl_plan.specs.declared.repair.RepairMove.{RepairMove}
use Rattle.pl_semantics.specs.declared.plan_state.PlanState.{PlanState}
use Rattle.pl_semantics.specs.Moves.{applied}
use Rattle.pl_semantics.specs.Legal.{left_after}
use Rattle.pl_board.specs.Boards.{Standing, after}
use Rattle.pl_moves.specs.Changes.{IsOfActivities}
use Rattle.pl_moves.specs.Runs.{IsTrialOf, counted}
use Rattle.pl_moves.specs.declared.attempts.Attempt.{Attempt}
use Rattle.pl_moves.specs.declared.attempts.Attempt.TheVariants.{Made, Undone}
use Rattle.pl_moves.specs.declared.trial.Trial.{Trial}

-- Whether no more conflicts are left than are enough. If no number is given none are, nor are they if there are more than the count
-- can say.
abbrev pub is_enough : Option ℕ → ℕ → Bool
is_enough None left = false
is_enough (Some most) left = nat_le left most && nat_lt left 4294967295

-- the trial is what the move changes of the plan state, and how that is undone
abbrev pub IsTrial : PlanState → RepairMove → Trial → Type 0
IsTrial s m t = IsTrialOf s m t.change.gone.items t.change.placed.items t.undo.gone.items t.undo.placed.items

-- Given a plan state and a move that is made in it, what is told of the move: what it changes and how that is undone. If nothing
-- is told, the move changes no activities.
abbrev pub IsToldOf : PlanState → RepairMove → Option Trial → Type 0
IsToldOf s m None = IsOfActivities m → ⊥
IsToldOf s m (Some t) = IsTrial s m t

-- it leaves no more than are enough, the board has the plan state that it makes, and it is told how it is undone
pub record IsKeptMade (m : RepairMove) (enough : Option ℕ) (told : Option Trial) (before now : Standing) : Type 0 where
  pub trial : IsToldOf before.state m told
  pub few : is_enough enough (left_after before.state m) ≡ true
  pub made : now ≡ after (applied before.state m)

-- it leaves more than are enough, the number is how many, and nothing changes
pub record IsTakenBack (m : RepairMove) (enough : Option ℕ) (left : ℕ) (before now : Standing) : Type 0 where
  pub many : is_enough enough (left_after before.state m) ≡ false
  pub count : left ≡ counted before.state m
  pub same : now ≡ before

-- given the move, how many conflicts are enough, the board before, what came of the move, and the board then
abbrev pub IsAttempted : RepairMove → Option ℕ → Standing → Attempt → Standing → Type 0
IsAttempted m enough before (Made told) now = IsKeptMade m enough told before now
IsAttempted m enough before (Undone left) now = IsTakenBack m enough left before now
