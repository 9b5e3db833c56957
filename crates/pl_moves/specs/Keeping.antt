-- What a repair leaves as it was.
use Rattle.std.specs.Prelude.{◌≡◌, ℕ, ◌+◌, ◌≤◌, ◌||◌, true, false, map, Some}
use Rattle.pl_facts.specs.declared.goal.Goal.{Goal}
use Rattle.pl_plan.specs.declared.activity.Activity.{Activity}
use Rattle.pl_plan.specs.Activities.{AreRising}
use Rattle.pl_semantics.specs.declared.plan_state.PlanState.{PlanState}
use Rattle.pl_semantics.specs.PlanStates.{found, is_committed, row_of, end_at, goal_at}

-- The model, the present, how far it is committed, what was told of timelines and how many may live stay. Each activity that is
-- committed stands then: itself, its values and its end. None is committed then that was not.
pub record KeepsCommitted (old new : PlanState) : Type 0 where
  pub model : new.model ≡ old.model
  pub moment : new.moment ≡ old.moment
  pub committed : new.committed ≡ old.committed
  pub bases : new.bases ≡ old.bases
  pub live_limit : new.live_limit ≡ old.live_limit
  pub stands : (id : ℕ) (a : Activity) → found old id ≡ Some a → is_committed old a ≡ true → found new id ≡ Some a
  pub values : (id : ℕ) (a : Activity) → found old id ≡ Some a → is_committed old a ≡ true → row_of new a ≡ row_of old a
  pub ends : (id : ℕ) (a : Activity) → found old id ≡ Some a → is_committed old a ≡ true → end_at new a ≡ end_at old a
  pub no_other : (id : ℕ) (a : Activity) → found new id ≡ Some a → is_committed new a ≡ true → found old id ≡ Some a

abbrev pub undropped : Goal → Goal
undropped g = record g { dropped = false }

-- No goal comes or goes, and none changes, except that one may be dropped. A goal that must be served is not dropped, and one that
-- was dropped stays dropped.
pub record KeepsGoals (old new : PlanState) : Type 0 where
  pub same : map undropped new.goals ≡ map undropped old.goals
  pub stands : (n : ℕ) (g : Goal) → goal_at old n ≡ Some g → (g.must || g.dropped) ≡ true → goal_at new n ≡ Some g

-- ids still rise, and at most sixteen are given
pub record GivesIds (old new : PlanState) : Type 0 where
  pub rising : AreRising new.plan.activities
  pub least : old.next_id ≤ new.next_id
  pub most : new.next_id ≤ old.next_id + 16
