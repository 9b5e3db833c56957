-- Activities that go and activities that are placed.
use Rattle.std.specs.Prelude.{◌≡◌, ◌≢◌, ℕ, ◌+◌, ◌≤◌, max, true, false, List, ◌++◌, map, length, All, AllPairs}
use Rattle.std.specs.List.{fold}
use Rattle.pl_plan.specs.declared.activity.Activity.{Activity}
use Rattle.pl_plan.specs.Activities.{IsLive, placed, without}
use Rattle.pl_plan.specs.Trees.{id_of}
use Rattle.pl_plan.specs.Fitting.{Fits}
use Rattle.pl_plan.specs.Values.{values_of}
use Rattle.pl_semantics.specs.declared.plan_state.PlanState.{PlanState}
use Rattle.pl_semantics.specs.PlanStates.{among}
use Rattle.pl_semantics.specs.Whole.{IsCarried, HasBegun}

abbrev pub taken : List Activity → List ℕ → List Activity
taken xs gone = fold (λ all id. without id all) xs gone

abbrev pub put : List Activity → List Activity → List Activity
put xs more = fold (λ all a. placed a all) xs more

-- those that go are taken out, and then others are put in their places
unfoldable pub replaced : List Activity → List ℕ → List Activity → List Activity
replaced xs gone more = put (taken xs gone) more

-- the ids that go or come
abbrev pub touched : List ℕ → List Activity → List ℕ
touched gone more = gone ++ map id_of more

-- one more than the greatest id placed, where that is greater
abbrev pub next_after : ℕ → List Activity → ℕ
next_after next more = fold (λ n a. max n (a.id + 1)) next more

abbrev pub with_plan : List ℕ → List Activity → PlanState → PlanState
with_plan gone more s = record s { plan = record { activities = replaced s.plan.activities gone more }; next_id = next_after s.next_id more }

-- what is asked of a replacement
pub record CanReplace (s : PlanState) (gone : List ℕ) (more : List Activity) : Type 0 where
  pub live : All (λ id. IsLive id s.plan.activities) gone
  -- each id is placed once, and where it is live it is gone
  pub once : AllPairs (λ one other. one.id ≢ other.id) more
  pub free : All (λ a. IsLive a.id s.plan.activities → among a.id gone ≡ true) more
  pub ids : All (λ a. (1 ≤ a.id) × (a.id ≤ 4000000000)) more
  pub carried : All (IsCarried s.goals) more
  -- what is placed with a measured end has begun and is committed
  pub begun : All (HasBegun s.moment s.committed) more
  -- every activity whose values change is among those that go or come
  pub kept : (id : ℕ) → among id (touched gone more) ≡ false → values_of s.model (replaced s.plan.activities gone more) id ≡ values_of s.model s.plan.activities id
  pub fits : Fits s.model (replaced s.plan.activities gone more)
  pub few : length (replaced s.plan.activities gone more) ≤ s.live_limit
