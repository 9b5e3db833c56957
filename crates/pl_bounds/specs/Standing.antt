-- Conflicts of goals and of activities that stand, and how many of them a move leaves at least.
use Rattle.std.specs.Prelude.{◌≡◌, ℕ, ◌≤◌, ◌==◌, ◌&&◌, ◌||◌, not, Bool, true, false, List, [], ◌∷◌, Option, Some, filter, length}
use Rattle.pl_conflict.specs.declared.conflict.Conflict.{Conflict}
use Rattle.pl_conflict.specs.declared.conflict.Code.{Code}
use Rattle.pl_conflict.specs.Codes.{code_number}
use Rattle.pl_conflict.specs.Order.{has}
use Rattle.pl_conflict.specs.declared.conflict.Code.TheVariants as code
use Rattle.pl_plan.specs.declared.repair.RepairMove.TheVariants.{Add}
use Rattle.pl_moves.specs.Runs.{CanBeMade}
use Rattle.pl_semantics.specs.declared.plan_state.PlanState.{PlanState}
use Rattle.pl_facts.specs.declared.goal.Goal.{Goal}
use Rattle.pl_plan.specs.declared.activity.Activity.{Activity}
use Rattle.pl_plan.specs.Serving.{served_in, serving}
use Rattle.pl_semantics.specs.PlanStates.{among, floor_of, found, goal_at}
use Rattle.pl_semantics.specs.Conflicts.{conflicts_of}
use Rattle.pl_semantics.specs.Moves.{applied}
use Rattle.pl_bounds.specs.Plain.{is_plain, count_of_plain}
use Rattle.pl_bounds.specs.Remaining.{listed_links}
use Rattle.pl_bounds.specs.declared.standing.Standing.{Standing}

-- a shift changes at most from when it is told: an open goal, or what is wrong with an activity but for its start
abbrev pub is_unmoved : Code → Bool
is_unmoved code.OpenGoal = true
is_unmoved code.Unset = true
is_unmoved code.BadValue = true
is_unmoved code.Undetailed = true
is_unmoved _ = false

abbrev pub is_unmoved_one : Conflict → Bool
is_unmoved_one q = is_unmoved q.code

-- how many of them stand
abbrev pub count_of_unmoved : PlanState → ℕ
count_of_unmoved s = length (filter is_unmoved_one (conflicts_of s))

-- an assignment changes neither which goals are open nor which alternatives are chosen
abbrev pub is_valueless : Code → Bool
is_valueless code.OpenGoal = true
is_valueless code.Undetailed = true
is_valueless _ = false

abbrev pub is_valueless_one : Conflict → Bool
is_valueless_one q = is_valueless q.code

-- how many of them stand
abbrev pub count_of_valueless : PlanState → ℕ
count_of_valueless s = length (filter is_valueless_one (conflicts_of s))

-- it tells of an open goal
abbrev pub is_open_one : Conflict → Bool
is_open_one q = code_number q.code == code_number code.OpenGoal

-- an open goal, or what is wrong with an activity that is none of these
abbrev pub is_elsewhere : List ℕ → Conflict → Bool
is_elsewhere ids q = is_plain q && (is_open_one q || not (among q.subject ids))

-- how many of them stand
abbrev pub count_of_elsewhere : PlanState → List ℕ → ℕ
count_of_elsewhere s ids = length (filter (is_elsewhere ids) (conflicts_of s))

-- no more than stand, and each conflict of links
pub record IsStandingOf (s : PlanState) (o : Standing) : Type 0 where
  pub plain : o.wrong ≤ count_of_plain s
  pub unmoved : o.unmoved ≤ count_of_unmoved s
  pub valueless : o.valueless ≤ count_of_valueless s
  pub links : o.links.items ≡ listed_links s

-- the goal that the activity of this id serves
pub record IsServedBy (s : PlanState) (id : ℕ) (g : Goal) : Type 0 where
  pub a : Activity
  pub here : found s id ≡ Some a
  pub serves : served_in a ≡ Some g.number
  pub goal : goal_at s g.number ≡ Some g

-- It is not dropped, can still be met, and no other root serves it: it is open once the activity is gone.
pub record IsOpenWithout (s : PlanState) (id : ℕ) : Type 0 where
  pub g : Goal
  pub served : IsServedBy s id g
  pub stays : g.dropped ≡ false
  pub ahead : floor_of s ≤ g.latest
  pub alone : serving g.number s.plan.activities ≡ id ∷ []

-- it tells that a value is not set
abbrev pub is_unset_one : Conflict → Bool
is_unset_one q = code_number q.code == code_number code.Unset

-- one of the activity of this id stands
pub record HasUnset (t : PlanState) (id : ℕ) : Type 0 where
  pub q : Conflict
  pub there : has q (conflicts_of t) ≡ true
  pub why : q.code ≡ code.Unset
  pub of : q.subject ≡ id

-- of a root of this kind for this goal, whenever it starts
abbrev pub IsUnsetThen : PlanState → ℕ → Option ℕ → Type 0
IsUnsetThen s kind goal = (t : ℕ) → CanBeMade s (Add kind t goal) → HasUnset (applied s (Add kind t goal)) s.next_id

-- a number of conflicts of goals and activities that a new root of this kind for this goal leaves at least, whenever it starts
abbrev pub IsLeftByNew : PlanState → ℕ → Option ℕ → ℕ → Type 0
IsLeftByNew s kind goal n = (to : ℕ) → CanBeMade s (Add kind to goal) → n ≤ count_of_plain (applied s (Add kind to goal))
