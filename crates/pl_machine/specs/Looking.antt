-- What a look at the activities of a plan has found so far.
use Rattle.std.specs.Prelude.{◌≡◌, ℕ, ◌<◌, ◌≤◌, ◌⊎◌, true, List, ◌++◌, All, length, take, drop, map, filter}
use Rattle.pl_model.specs.declared.whole.Model.{Model}
use Rattle.pl_plan.specs.declared.activity.Activity.{Activity}
use Rattle.pl_entry.specs.Due.{is_due_since, start_of}
use Rattle.pl_machine.specs.declared.id_range.IdRange.{IdRange}
use Rattle.pl_machine.specs.declared.period.Period.{Period}
use Rattle.pl_machine.specs.Calm.{StartsNone, is_settled, IsIn, AreRanges, IsKnown}

-- the starts of those of the activities that have come to be due
abbrev pub starts_in : Model → Period → List Activity → List (ℕ × ℕ)
starts_in model p activities = map start_of (filter (is_due_since model p.before p.moment p.committed) activities)

-- this many activities at the front of the list have lower ids than this one
pub record AreBelow (id count : ℕ) (activities : List Activity) : Type 0 where
  pub few : count ≤ length activities
  pub front : All (λ a. a.id < id) (take count activities)
  pub rest : All (λ a. id ≤ a.id) (drop count activities)

-- Ranges are added behind the others, from an id on: each of the activities is settled, or its id is in one of them.
pub record AddsRanges (p : Period) (from : ℕ) (activities : List Activity) (old new : List IdRange) : Type 0 where
  pub more : List IdRange
  pub is : new ≡ old ++ more
  pub order : (to : ℕ) → from ≤ to → All (λ a. a.id < to) activities → AreRanges from more to
  pub each : All (λ a. (is_settled p.moment p.committed a ≡ true) ⊎ IsIn more a.id) activities

-- The activities before a place were looked at. What is still to be looked at is settled, or its id is in a range that is left, or not
-- below what was seen.
pub record HasLooked (model : Model) (p : Period) (activities : List Activity) (seen place : ℕ) (left : List IdRange) (starts : List (ℕ × ℕ)) (ranges : List IdRange) (next : ℕ) : Type 0 where
  pub within : place ≤ length activities
  pub begun : starts ≡ starts_in model p (take place activities)
  pub calm : StartsNone p.moment next (take place activities)
  pub each : All (λ a. (is_settled p.moment p.committed a ≡ true) ⊎ IsIn ranges a.id) (take place activities)
  pub bound : ℕ
  pub order : AreRanges 0 ranges bound
  pub order_left : AreRanges bound left seen
  pub known : All (IsKnown p.before p.committed seen left) (drop place activities)

-- What was seen ends at an id: each of the activities is settled, or not below this id, or in a range that was added.
pub record SeesTo (p : Period) (seen next_id end : ℕ) (activities : List Activity) (old new : List IdRange) : Type 0 where
  pub more : List IdRange
  pub is : new ≡ old ++ more
  pub order : AreRanges seen more end
  pub last : end ≤ next_id
  pub each : All (IsKnown p.moment p.committed end more) activities
