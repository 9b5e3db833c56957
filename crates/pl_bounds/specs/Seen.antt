-- The state of a timeline at a moment ahead, and what is known of states once a replacement is made.
use Rattle.std.specs.Prelude.{◌≡◌, ◌≢◌, ℕ, ◌≤◌, ◌<◌, Bool, true, false, List, Option, slice_get}
use Rattle.pl_detect.specs.Based.{IsStateLine}
use Rattle.pl_model.specs.declared.timelines.Timeline.{Timeline}
use Rattle.pl_plan.specs.declared.activity.Activity.{Activity}
use Rattle.pl_state.specs.declared.reservation.Setting.{Setting}
use Rattle.pl_state.specs.Keys.{Has, key_before}
use Rattle.pl_state.specs.Sets.{set_key, is_allowed}
use Rattle.pl_semantics.specs.declared.demand.Demand.{Demand}
use Rattle.pl_semantics.specs.declared.plan_state.PlanState.{PlanState}
use Rattle.pl_semantics.specs.Demands.{state_at}
use Rattle.pl_update.specs.Changes.Replaced.{with_plan}
use Rattle.pl_bounds.specs.Exchanges.{IsExchange}
use Rattle.pl_bounds.specs.Marks.{Stands, AreMarks}
use Rattle.pl_bounds.specs.Settings.{HasSteps, sets_asked}
use Rattle.pl_bounds.specs.declared.asking.Asking.{Asking}
use Rattle.pl_bounds.specs.declared.marks.Mark.{Mark}
use Rattle.pl_bounds.specs.declared.seen.Seen.{Seen}

-- the timeline has this state at the moment
pub record IsSeen (s : PlanState) (u : Seen) : Type 0 where
  pub line : IsStateLine (slice_get s.model.timelines u.line)
  pub now : s.moment ≤ u.at
  pub horizon : u.at < s.model.horizon
  pub is : state_at s u.line u.at ≡ u.state

-- what holds of each set that these demands ask of the timeline
abbrev pub EachSet : ℕ → (Setting → Type 0) → List Demand → Type 0
EachSet line P ds = (z : Setting) → Has z (sets_asked line ds) → P z

-- If the set `z` stands before the set `x`, then the timeline has another state at the moment of `z` than at the moment that was seen.
abbrev pub IsOtherBefore : PlanState → Seen → Setting → Setting → Type 0
IsOtherBefore s u x z = key_before (set_key z) (set_key x) ≡ true → state_at s u.line z.at ≢ state_at s u.line u.at

-- If the set `z` is not later than `x`, it does not stand behind `x`: of sets at one moment the last decides.
abbrev pub IsNotBehind : Setting → Setting → Type 0
IsNotBehind x z = z.at ≤ x.at → key_before (set_key x) (set_key z) ≡ false

-- a timeline of states that does not allow the step from the one to the other
pub record DoesNotAllow (o : Option Timeline) (from to : ℕ) : Type 0 where
  pub any : Bool
  pub steps : List (ℕ × ℕ)
  pub has : HasSteps any steps o
  pub bad : is_allowed any steps from to ≡ false

-- The set comes, from an activity with a new id; its moment lies ahead, and no other set that comes stands behind it there. So it decides
-- the state at its moment.
pub record IsNewLast (s : PlanState) (a : Asking) (line : ℕ) (x : Setting) : Type 0 where
  pub states : IsStateLine (slice_get s.model.timelines line)
  pub comes : Has x (sets_asked line a.coming.items)
  pub newest : s.next_id ≤ x.id
  pub later : s.moment < x.at
  pub horizon : x.at < s.model.horizon
  pub last : EachSet line (IsNotBehind x) a.coming.items

-- ---- once these demands went and those came

abbrev pub StandsAfter : PlanState → List Demand → List Demand → Mark → Type 0
StandsAfter s going coming k = (gone : List ℕ) (more : List Activity) → IsExchange s gone more going coming → Stands (with_plan gone more s) k

abbrev pub AreMarksAfter : PlanState → List Demand → List Demand → List Mark → Type 0
AreMarksAfter s going coming ks = (gone : List ℕ) (more : List Activity) → IsExchange s gone more going coming → AreMarks (with_plan gone more s) ks

-- once what is asked for has been exchanged

abbrev pub StandsThen : PlanState → Asking → Mark → Type 0
StandsThen s a k = StandsAfter s a.going.items a.coming.items k

abbrev pub AreMarksThen : PlanState → Asking → List Mark → Type 0
AreMarksThen s a ks = AreMarksAfter s a.going.items a.coming.items ks
