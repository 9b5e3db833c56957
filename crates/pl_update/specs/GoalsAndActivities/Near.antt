-- What is wrong with some goals and some activities, and changes that concern no others.
use Rattle.std.specs.Prelude.{◌≡◌, ℕ, ◌⊎◌, false, List, ◌++◌}
use Rattle.std.specs.List.{flat_map}
use Rattle.pl_conflict.specs.declared.conflict.Conflict.{Conflict}
use Rattle.pl_semantics.specs.declared.plan_state.PlanState.{PlanState}
use Rattle.pl_semantics.specs.PlanStates.{among}
use Rattle.pl_semantics.specs.Goals.{open_of, off_of}
use Rattle.pl_semantics.specs.Activities.{wrong_of}
use Rattle.pl_semantics.specs.Parts.{part_of, of_goals, of_activities}

-- the conflicts of the goals of these numbers, and of the activities of these ids
unfoldable pub near : PlanState → List ℕ → List ℕ → List Conflict
near s numbers ids = flat_map (open_of s) numbers ++ flat_map (off_of s) ids ++ flat_map (wrong_of s) ids

-- a conflict of a goal or of an activity
abbrev pub IsPlain : Conflict → Type 0
IsPlain q = (part_of q.code ≡ of_goals) ⊎ (part_of q.code ≡ of_activities)

-- Nothing comes or goes at goals of other numbers and at activities of other ids.
pub record Follows (s t : PlanState) (numbers ids : List ℕ) : Type 0 where
  pub opens : (n : ℕ) → among n numbers ≡ false → open_of t n ≡ open_of s n
  pub offs : (id : ℕ) → among id ids ≡ false → off_of t id ≡ off_of s id
  pub wrongs : (id : ℕ) → among id ids ≡ false → wrong_of t id ≡ wrong_of s id

-- the same numbers are in both
abbrev pub HoldSame : List ℕ → List ℕ → Type 0
HoldSame xs ys = (n : ℕ) → among n xs ≡ among n ys
