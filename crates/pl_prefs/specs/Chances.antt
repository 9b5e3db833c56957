-- What some moves gain, and the choice among them.
use Rattle.std.specs.Prelude.{◌≡◌, ℕ, ◌<◌, ◌≤◌, true, ℤ, pos, ◌<ℤ◌, ◌≤ℤ◌, List, [], length, filter, slice_get, slice_index_or, Option, Some, None}
use Rattle.pl_plan.specs.declared.repair.RepairMove.{RepairMove}
use Rattle.pl_semantics.specs.declared.plan_state.PlanState.{PlanState}
use Rattle.pl_semantics.specs.Moves.{applied}
use Rattle.pl_board.specs.Boards.{Standing, after}
use Rattle.pl_prefs.specs.declared.prefer.Prefer.{Prefer}
use Rattle.pl_prefs.specs.declared.choice.Choice.{Choice}
use Rattle.pl_prefs.specs.Betters.{is_clear, is_better, score_after, IsFirstBest}
use Rattle.pl_prefs.specs.Worths.{gain_of}

-- ---- what each gains

-- a number at each place, counted from 0
abbrev pub number_at : List ℤ → ℕ → ℤ
number_at gains place = slice_index_or gains place (pos 0)

-- Each of the moves has a number, and that of a clear one is what it gains.
pub record AreGains (s : PlanState) (prefers : List Prefer) (moves : List RepairMove) (gains : List ℤ) : Type 0 where
  pub each : (place : ℕ) (m : RepairMove) → slice_get moves place ≡ Some m → is_clear s m ≡ true → number_at gains place ≡ gain_of s prefers m
  pub all : length gains ≡ length moves

-- ---- the greatest

-- Of so many of the numbers none is above the one at this place, and each one before it is less.
pub record IsMostAt (gains : List ℤ) (n place : ℕ) : Type 0 where
  pub reached : place ≤ n
  pub inside : 0 < n → place < n
  pub no_more : (k : ℕ) → k < n → number_at gains k ≤ℤ number_at gains place
  pub less : (k : ℕ) → k < place → number_at gains k <ℤ number_at gains place

-- This one is above 0, each one before it is less, and each one behind it no more.
pub record IsGreatestAt (gains : List ℤ) (place : ℕ) : Type 0 where
  pub within : place < length gains
  pub above : pos 0 <ℤ number_at gains place
  pub less : (k : ℕ) → k < place → number_at gains k <ℤ number_at gains place
  pub no_more : (k : ℕ) → k < length gains → number_at gains k ≤ℤ number_at gains place

-- none where none is above 0
abbrev pub IsGreatest : List ℤ → Option ℕ → Type 0
IsGreatest gains None = (k : ℕ) → k < length gains → number_at gains k ≤ℤ pos 0
IsGreatest gains (Some place) = IsGreatestAt gains place

-- ---- the choice

-- The move at this place is the best of those that better the plan, it gains so much, and it is made.
pub record IsBestMade (s : PlanState) (prefers : List Prefer) (moves : List RepairMove) (choice : Choice) (now : Standing) : Type 0 where
  pub best : IsFirstBest (score_after s prefers) (filter (is_better s prefers) moves) choice.mv
  pub clear : is_clear s choice.mv ≡ true
  pub gain : choice.gain ≡ gain_of s prefers choice.mv
  pub gains : pos 0 <ℤ choice.gain
  pub made : now ≡ after (applied s choice.mv)

-- none where none of them betters the plan, and nothing changes
abbrev pub IsChosen : List Prefer → List RepairMove → Option Choice → Standing → Standing → Type 0
IsChosen prefers moves None before now = (filter (is_better before.state prefers) moves ≡ []) × (now ≡ before)
IsChosen prefers moves (Some choice) before now = IsBestMade before.state prefers moves choice now
