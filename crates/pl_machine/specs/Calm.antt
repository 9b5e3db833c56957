-- What is known of the starts ahead: up to when nothing more starts, and which activities are settled.
use Rattle.std.specs.Prelude.{◌≡◌, ℕ, ◌<◌, ◌≤◌, ◌⊎◌, nat_le, nat_lt, ◌&&◌, Bool, true, List, [], ◌∷◌, All, if◌then◌else◌}
use Rattle.pl_plan.specs.declared.activity.Activity.{Activity}
use Rattle.pl_semantics.specs.declared.plan_state.PlanState.{PlanState}
use Rattle.pl_machine.specs.declared.ahead.Ahead.{Ahead}
use Rattle.pl_machine.specs.declared.id_range.IdRange.{IdRange}
use Rattle.pl_machine.specs.declared.change.Change.{Change}
use Rattle.pl_machine.specs.declared.change.Change.TheVariants.{Accept, Tell, Tick, Commit, Repair, Measure, Withdraw}

-- No activity starts after a moment and before another one.
abbrev pub StartsNone : ℕ → ℕ → List Activity → Type 0
StartsNone moment next activities = All (λ a. (a.start ≤ moment) ⊎ (next ≤ a.start)) activities

-- the start, if it lies after the moment and before the next one, else the next one
abbrev pub nearer : ℕ → ℕ → ℕ → ℕ
nearer moment next start = if nat_lt moment start && nat_lt start next then start else next

-- the earliest start after the moment, or this number if it is lower
abbrev pub next_start : ℕ → ℕ → List Activity → ℕ
next_start moment next [] = next
next_start moment next (a ∷ more) = next_start moment (nearer moment next a.start) more

-- whether an activity has started and is committed, so that no repair may touch it
abbrev pub is_settled : ℕ → ℕ → Activity → Bool
is_settled moment c a = nat_le a.start moment && nat_lt a.start c

-- an id is in one of the ranges
abbrev pub IsIn : List IdRange → ℕ → Type 0
IsIn [] id = ⊥
IsIn (r ∷ more) id = ((r.from ≤ id) × (id < r.to)) ⊎ IsIn more id

-- the ranges stand one behind the other, from this id up to another one
abbrev pub AreRanges : ℕ → List IdRange → ℕ → Type 0
AreRanges from [] to = from ≤ to
AreRanges from (r ∷ more) to = (from ≤ r.from) × (r.from ≤ r.to) × AreRanges r.to more to

-- an activity is settled, or its id is not below what was seen, or its id is in one of the ranges
abbrev pub IsKnown : ℕ → ℕ → ℕ → List IdRange → Activity → Type 0
IsKnown moment c seen ranges a = (is_settled moment c a ≡ true) ⊎ ((seen ≤ a.id) ⊎ IsIn ranges a.id)

-- What is known of the starts ahead holds of the plan at a moment.
pub record IsAheadAt (moment : ℕ) (s : PlanState) (ahead : Ahead) (ranges : List IdRange) : Type 0 where
  pub calm : StartsNone moment ahead.next_start s.plan.activities
  pub known : All (IsKnown moment s.committed ahead.seen ranges) s.plan.activities
  pub order : AreRanges 0 ranges ahead.seen
  pub seen : ahead.seen ≤ s.next_id

-- the same at present
abbrev pub IsAhead : PlanState → Ahead → List IdRange → Type 0
IsAhead s ahead ranges = IsAheadAt s.moment s ahead ranges

-- what is still known after a change: a repair may place an activity at any moment, but touches none that is settled
abbrev pub ahead_after : Change → Ahead → Ahead
ahead_after (Accept goal) ahead = ahead
ahead_after (Tell line value) ahead = ahead
ahead_after (Tick moment) ahead = ahead
ahead_after (Commit h) ahead = ahead
ahead_after (Repair m) ahead = record ahead { next_start = 0 }
ahead_after (Measure id moment) ahead = ahead
ahead_after Withdraw ahead = ahead
