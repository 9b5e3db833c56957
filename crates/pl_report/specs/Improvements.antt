-- What is written of how a plan without conflicts is bettered step by step.
use Rattle.std.specs.Prelude.{◌≡◌, ◌≢◌, ℕ, suc, ◌<◌, ◌≤◌, min, ℤ, ◌<ℤ◌, Bool, true, false, List, [], ◌∷◌, ◌++◌, length, Some, None, codes, decimal, ⊤}
use Rattle.std.specs.Fmt.{signed_decimal}
use Rattle.pl_model.specs.declared.whole.Model.{Model}
use Rattle.pl_plan.specs.declared.repair.RepairMove.{RepairMove}
use Rattle.pl_journal.specs.Rendering.Lines.{move_words}
use Rattle.pl_semantics.specs.declared.plan_state.PlanState.{PlanState}
use Rattle.pl_semantics.specs.Conflicts.{conflicts_of}
use Rattle.pl_semantics.specs.Moves.{applied}
use Rattle.pl_board.specs.Boards.{after}
use Rattle.pl_moves.specs.Keeping.{KeepsCommitted}
use Rattle.pl_prefs.specs.declared.prefer.Prefer.{Prefer}
use Rattle.pl_prefs.specs.Scores.{score}
use Rattle.pl_prefs.specs.Betters.{score_after, IsBest}
use Rattle.pl_prefs.specs.Scoreds.{Scoring}
use Rattle.pl_report.specs.Lines.{line_with}

-- ---- steps

-- The move betters the plan the most, the first among equals. It leaves no conflict, the score rises by it, and each activity that
-- is committed stands as it was.
pub record IsStep (s : PlanState) (prefers : List Prefer) (m : RepairMove) : Type 0 where
  pub best : IsBest s prefers (Some m)
  pub clear : conflicts_of (applied s m) ≡ []
  pub risen : score s prefers <ℤ score_after s prefers m
  pub committed : KeepsCommitted s (applied s m)

-- each is a step of what those before it made
abbrev pub AreSteps : PlanState → List Prefer → List RepairMove → Type 0
AreSteps s prefers [] = ⊤
AreSteps s prefers (m ∷ ms) = IsStep s prefers m × AreSteps (applied s m) prefers ms

-- what they make, one after the other
abbrev pub state_behind : PlanState → List RepairMove → PlanState
state_behind s [] = s
state_behind s (m ∷ ms) = state_behind (applied s m) ms

-- a move that betters some plan the most
pub record IsSomeBest (m : RepairMove) : Type 0 where
  pub state : PlanState
  pub prefers : List Prefer
  pub best : IsBest state prefers (Some m)

-- ---- lines

-- score SCORE
abbrev pub score_words : ℤ → List (List ℕ)
score_words points = codes "score" ∷ signed_decimal points ∷ []

-- improve score SCORE
abbrev pub first_line : ℤ → List ℕ
first_line points = line_with (codes "improve") (score_words points)

-- step NUMBER MOVE score SCORE
abbrev pub step_line : Model → ℕ → RepairMove → ℤ → List ℕ
step_line model number m points = line_with (codes "step") (decimal number ∷ (move_words model m ++ score_words points))

-- the lines of moves behind so many others, each with the score after it
abbrev pub step_lines : PlanState → List Prefer → ℕ → List RepairMove → List ℕ
step_lines s prefers before [] = []
step_lines s prefers before (m ∷ ms) = step_line s.model (suc before) m (score_after s prefers m) ++ step_lines (applied s m) prefers (suc before) ms

-- improve steps NUMBER score SCORE
abbrev pub last_line : ℕ → ℤ → List ℕ
last_line count points = line_with (codes "improve steps") (decimal count ∷ score_words points)

-- improve: conflicts NUMBER
abbrev pub conflicts_line : ℕ → List ℕ
conflicts_line count = line_with (codes "improve: conflicts") (decimal count ∷ [])

-- ---- the text

-- the score, a line for each of these steps, and the score at their end
abbrev pub steps_text : PlanState → List Prefer → List RepairMove → List ℕ
steps_text s prefers ms = first_line (score s prefers) ++ (step_lines s prefers 0 ms ++ last_line (length ms) (score (state_behind s ms) prefers))

-- Up to so many steps are written. They are fewer only where no move betters the plan any more at their end.
pub record IsBettered (s : PlanState) (prefers : List Prefer) (most : ℕ) (text : List ℕ) : Type 0 where
  pub moves : List RepairMove
  pub steps : AreSteps s prefers moves
  pub within : length moves ≤ most
  pub fewer : length moves < most → IsBest (state_behind s moves) prefers None
  pub says : text ≡ steps_text s prefers moves

-- Where conflicts stand their number is written, which is 4,294,967,295 at most; and else up to so many steps.
pub record IsImprovement (s : PlanState) (prefers : List Prefer) (most : ℕ) (text : List ℕ) : Type 0 where
  pub conflicts : conflicts_of s ≢ [] → text ≡ conflicts_line (min (length (conflicts_of s)) 4294967295)
  pub bettered : conflicts_of s ≡ [] → IsBettered s prefers most text

-- ---- on the way

-- One step more was made, with its line behind what was written.
pub record IsOneMore (number : ℕ) (old : Scoring) (out : List ℕ) (new : Scoring) (text : List ℕ) : Type 0 where
  pub move : RepairMove
  pub step : IsStep old.board.state old.prefers move
  pub made : new.board ≡ after (applied old.board.state move)
  pub prefers : new.prefers ≡ old.prefers
  pub points : new.score ≡ score_after old.board.state old.prefers move
  pub says : text ≡ out ++ step_line old.board.state.model number move (score_after old.board.state old.prefers move)

-- or no move betters the plan, and nothing changes
abbrev pub IsTry : Bool → ℕ → Scoring → List ℕ → Scoring → List ℕ → Type 0
IsTry true number old out new text = IsOneMore number old out new text
IsTry false number old out new text = IsBest old.board.state old.prefers None × (new ≡ old) × (text ≡ out)

-- So many steps were made, with their lines behind what was written.
pub record AreMade (old : Scoring) (out : List ℕ) (count : ℕ) (new : Scoring) (text : List ℕ) : Type 0 where
  pub moves : List RepairMove
  pub steps : AreSteps old.board.state old.prefers moves
  pub number : length moves ≡ count
  pub made : new.board ≡ after (state_behind old.board.state moves)
  pub prefers : new.prefers ≡ old.prefers
  pub points : new.score ≡ score (state_behind old.board.state moves) old.prefers
  pub says : text ≡ out ++ step_lines old.board.state old.prefers 0 moves

-- up to so many, and fewer only where no move betters the plan any more
pub record AreAllMade (most : ℕ) (old : Scoring) (out : List ℕ) (count : ℕ) (new : Scoring) (text : List ℕ) : Type 0 where
  pub so_far : AreMade old out count new text
  pub within : count ≤ most
  pub fewer : count < most → IsBest new.board.state new.prefers None
