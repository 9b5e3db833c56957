-- A board whose plan is bettered: what it is seen as, what holds of it, and what a step does.
use Rattle.std.specs.Prelude.{◌≡◌, ◌≢◌, ◌≤◌, min, length, false, ℤ, ◌<ℤ◌, List, [], All, Option, Some, None, IfSome}
use Rattle.pl_plan.specs.declared.repair.RepairMove.{RepairMove}
use Rattle.pl_semantics.specs.declared.plan_state.PlanState.{PlanState}
use Rattle.pl_semantics.specs.Conflicts.{conflicts_of}
use Rattle.pl_semantics.specs.Moves.{applied}
use Rattle.pl_board.specs.Boards.{Standing, after}
use Rattle.pl_moves.specs.Keeping.{KeepsCommitted}
use Rattle.pl_prefs.specs.declared.prefer.Prefer.{Prefer}
use Rattle.pl_prefs.specs.declared.score_fault.ScoreFault.{ScoreFault}
use Rattle.pl_prefs.specs.declared.score_fault.ScoreFault.TheVariants.{Conflicts, Memory}
use Rattle.pl_prefs.specs.Prefers.{IsPreferOf}
use Rattle.pl_prefs.specs.Scores.{score}
use Rattle.pl_prefs.specs.Betters.{IsBest}

-- the board, what is preferred, and the score
pub record Scoring : Type 0 where
  pub board : Standing
  pub prefers : List Prefer
  pub score : ℤ

-- The score is that of the plan, no conflict stands, the preferences speak of the model and are few, and an id may still be given.
pub record IsScored (s : PlanState) (prefers : List Prefer) (points : ℤ) : Type 0 where
  pub score_is : points ≡ score s prefers
  pub clear : conflicts_of s ≡ []
  pub fits : All (IsPreferOf s.model) prefers
  pub few : length prefers ≤ 64
  pub next : s.next_id ≤ 3999999000

-- of a board and what is preferred
abbrev pub scoring_of : Standing → List Prefer → Scoring
scoring_of board prefers = record { board = board; prefers = prefers; score = score board.state prefers }

-- why there is none: conflicts stand, and so many; or memory was wanting
abbrev pub StandsFor : PlanState → ScoreFault → Type 0
StandsFor s (Conflicts n) = (n ≡ min (length (conflicts_of s)) 4294967295) × (conflicts_of s ≢ [])
StandsFor s Memory = Unit {0}

-- as long as the board is not spoiled
abbrev pub IsScoring : Standing → List Prefer → ℤ → Type 0
IsScoring board prefers points = board.spoiled ≡ false → IsScored board.state prefers points

-- what the move makes of the plan state; without one it stays
abbrev pub state_after : PlanState → Option RepairMove → PlanState
state_after s None = s
state_after s (Some m) = applied s m

-- The move that was made is the one that betters the plan the most, and the board stands for what it makes. No conflict is left, the
-- score has risen, and each activity that was committed stands as it was. Where there is no such move nothing changes.
pub record IsStepped (m : Option RepairMove) (before now : Scoring) : Type 0 where
  pub best : IsBest before.board.state before.prefers m
  pub made : now.board ≡ after (state_after before.board.state m)
  pub score_is : now.score ≡ score now.board.state now.prefers
  pub clear : conflicts_of now.board.state ≡ []
  pub risen : IfSome m (λ x. before.score <ℤ now.score)
  pub same : m ≡ None → now ≡ before
  pub committed : KeepsCommitted before.board.state now.board.state
