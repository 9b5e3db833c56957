-- Repair moves: when one is proper, why it is refused, and what it makes of a plan.
use Rattle.std.specs.Prelude.{ℕ, suc, ◌+◌, ◌-◌, nat_lt, nat_le, ◌==◌, Bool, true, false, ◌&&◌, not, ℤ, List, [], ◌∷◌, ◌++◌, map, filter, find, length, replicate, slice_get, slice_set, Option, Some, None, is_none, is_some, option_and_then, if◌then◌else◌}
use Rattle.std.specs.Option.{option_map}
use Rattle.pl_facts.specs.declared.goal.Goal.{Goal}
use Rattle.pl_facts.specs.Goals.{with_dropped}
use Rattle.pl_model.specs.declared.expressions.Expr.{Expr}
use Rattle.pl_model.specs.declared.parameters.Param.{Param}
use Rattle.pl_model.specs.declared.parameters.Origin.{Origin}
use Rattle.pl_model.specs.declared.parameters.Origin.TheVariants.{Free, Dependent}
use Rattle.pl_model.specs.declared.alternatives.Slot.{Slot}
use Rattle.pl_model.specs.declared.alternatives.Alternative.{Alternative}
use Rattle.pl_model.specs.Checked.{params_of}
use Rattle.pl_plan.specs.declared.activity.Activity.{Activity}
use Rattle.pl_plan.specs.declared.repair.RepairMove.{RepairMove}
use Rattle.pl_plan.specs.declared.repair.RepairMove.TheVariants.{Add, Delete, Shift, Detail, Abstract, Assign, Drop}
use Rattle.pl_plan.specs.Trees.{descends}
use Rattle.pl_plan.specs.Moves.{without_subtree, without_below, abstracted}
use Rattle.pl_plan.specs.Fitting.{kind_of, alternatives_of}
use Rattle.pl_plan.specs.Firm.{is_within}
use Rattle.pl_plan.specs.Values.{binding_of}
use Rattle.pl_semantics.specs.declared.refusal.Refusal.{Refusal}
use Rattle.pl_semantics.specs.declared.refusal.Refusal.TheVariants.{Locked, Behind, Beyond, Full}
use Rattle.pl_semantics.specs.declared.plan_state.PlanState.{PlanState}
use Rattle.pl_semantics.specs.PlanStates.{floor_of, is_committed, found, goal_at, is_open}
use Rattle.pl_semantics.specs.Activities.{bindings_of}

-- ---- proper

abbrev pub is_set_origin : Origin → Bool
is_set_origin (Free default) = true
is_set_origin (Dependent e) = false

-- neither bound nor dependent
abbrev pub is_free : List (ℕ × Expr) → ℕ × Param → Bool
is_free bindings p = is_none (binding_of p.0 bindings) && is_set_origin p.1.origin

-- whether there is one, and the test holds of it
abbrev pub holds : {X : Type 0} → (X → Bool) → Option X → Bool
holds test None = false
holds test (Some x) = test x

-- no goal, or an open one of this kind
abbrev pub is_wanted : PlanState → ℕ → Option ℕ → Bool
is_wanted s kind None = true
is_wanted s kind (Some n) = holds (λ g. is_open s g && (g.kind == kind)) (goal_at s n)

abbrev pub alternatives_at : PlanState → Activity → List Alternative
alternatives_at s a = alternatives_of (kind_of s.model a)

-- the parameter is free, and the value lies from its low to its high
abbrev pub takes_value : PlanState → Activity → ℕ → ℤ → Bool
takes_value s a n value = holds (λ p. is_free (bindings_of s a) (n, p) && is_within p.low p.high (Some value)) (slice_get (params_of (kind_of s.model a)) n)

unfoldable pub is_proper : PlanState → RepairMove → Bool
-- the kind is one of the model's
is_proper s (Add kind start goal) = nat_lt kind (length s.model.kinds) && is_wanted s kind goal
-- a live root
is_proper s (Delete id) = holds (λ a. is_none a.parent) (found s id)
is_proper s (Shift id start) = is_some (found s id)
-- no alternative is chosen, and the kind has this one
is_proper s (Detail id alternative) = holds (λ a. is_none a.detail && nat_lt alternative (length (alternatives_at s a))) (found s id)
is_proper s (Abstract id) = holds (λ a. is_some a.detail) (found s id)
is_proper s (Assign id param value) = holds (λ a. takes_value s a param value) (found s id)
-- an open goal that may be dropped
is_proper s (Drop number) = holds (λ g. is_open s g && not g.must) (goal_at s number)

-- ---- what it changes

-- whether an activity is of the subtree of another
abbrev pub is_under : PlanState → ℕ → Activity → Bool
is_under s top a = descends s.plan.activities top a.id

-- the live activities that it changes
abbrev pub is_changed : PlanState → RepairMove → Activity → Bool
is_changed s (Add kind start goal) a = false
is_changed s (Delete id) a = is_under s id a
is_changed s (Shift id start) a = is_under s id a
is_changed s (Detail id alternative) a = a.id == id
is_changed s (Abstract id) a = is_under s id a
is_changed s (Assign id param value) a = is_under s id a
is_changed s (Drop number) a = false

-- ---- new activities

-- nothing set, one place for each parameter of the kind
abbrev pub unset_row : PlanState → ℕ → List (Option ℤ)
unset_row s kind = replicate (length (params_of (slice_get s.model.kinds kind))) None

abbrev pub presets_of : List (Option ℤ) → Option Goal → List (Option ℤ)
presets_of unset None = unset
presets_of unset (Some g) = g.presets

-- a root with the next id; the presets of its goal are set
abbrev pub root_for : PlanState → ℕ → ℕ → Option ℕ → Activity
root_for s kind start goal = record { id = s.next_id; kind = kind; start = start; parent = None; goal = goal; detail = None; set = presets_of (unset_row s kind) (option_and_then (goal_at s) goal); measured = None }

abbrev pub child_for : PlanState → ℕ → ℕ → ℕ → Slot → ℕ → Activity
child_for s parent slot id at start = record { id = id; kind = at.kind; start = start; parent = Some (parent, slot); goal = None; detail = None; set = unset_row s at.kind; measured = None }

-- the children for the slots from this number on: each has the next id, and starts by its slot's offset after the parent
abbrev pub children_from : PlanState → Activity → ℕ → List Slot → List ℕ → List Activity
children_from s parent n [] offsets = []
children_from s parent n (at ∷ more) [] = []
children_from s parent n (at ∷ more) (offset ∷ offsets) = child_for s parent.id n (s.next_id + n) at (parent.start + offset) ∷ children_from s parent (suc n) more offsets

abbrev pub children_in : PlanState → Activity → Option Alternative → List Activity
children_in s parent None = []
children_in s parent (Some alternative) = children_from s parent 0 alternative.slots alternative.offsets

abbrev pub children_for : PlanState → ℕ → Option Activity → List Activity
children_for s alternative None = []
children_for s alternative (Some a) = children_in s a (slice_get (alternatives_at s a) alternative)

-- ---- starts

-- Moved along with one that goes from its start to another. What would come before 0 comes to 0, which is below every floor.
abbrev pub moved : ℕ → ℕ → Activity → Activity
moved from to a = record a { start = (a.start + to) - from }

abbrev pub moved_with : PlanState → ℕ → Option Activity → List Activity
moved_with s to None = []
moved_with s to (Some a) = map (moved a.start to) (filter (is_under s a.id) s.plan.activities)

-- the activities that a move places or shifts, as they are then
abbrev pub started_by : PlanState → RepairMove → List Activity
started_by s (Add kind start goal) = root_for s kind start goal ∷ []
started_by s (Shift id start) = moved_with s start (found s id)
started_by s (Detail id alternative) = children_for s alternative (found s id)
started_by s _ = []

-- how many activities there are more
abbrev pub count_of_new : PlanState → RepairMove → ℕ
count_of_new s (Add kind start goal) = 1
count_of_new s (Detail id alternative) = length (children_for s alternative (found s id))
count_of_new s _ = 0

-- ---- refusals

-- changed by the move though committed
abbrev pub is_locked : PlanState → RepairMove → Activity → Bool
is_locked s m a = is_changed s m a && is_committed s a

-- it starts below the floor
abbrev pub is_behind : PlanState → Activity → Bool
is_behind s a = nat_lt a.start (floor_of s)

-- it starts at the horizon or later
abbrev pub is_beyond : PlanState → Activity → Bool
is_beyond s a = nat_le s.model.horizon a.start

-- more would live than may
abbrev pub is_full : PlanState → RepairMove → Bool
is_full s m = nat_lt s.live_limit (length s.plan.activities + count_of_new s m)

abbrev pub first_refused : (ℕ → Refusal) → (Activity → Bool) → List Activity → Option Refusal
first_refused why test xs = option_map (λ a. why a.id) (find test xs)

-- the first of two, where it stands
abbrev pub or_else : Option Refusal → Option Refusal → Option Refusal
or_else (Some r) later = Some r
or_else None later = later

abbrev pub full_if : Bool → Option Refusal
full_if true = Some Full
full_if false = None

-- Locked for the least committed id among the changed; Behind for the least id placed or shifted to a start below the floor;
-- Beyond for the least one to the horizon or later; Full where more would live than may. Ids rise in each list.
unfoldable pub refusal_of : PlanState → RepairMove → Option Refusal
refusal_of s m =
    or_else (first_refused Locked (is_locked s m) s.plan.activities)
    (or_else (first_refused Behind (is_behind s) (started_by s m))
    (or_else (first_refused Beyond (is_beyond s) (started_by s m))
    (full_if (is_full s m))))

-- ---- what it makes of the plan

-- the activities that pass the test are changed
abbrev pub changed_where : (Activity → Bool) → (Activity → Activity) → List Activity → List Activity
changed_where test change xs = map (λ a. if test a then change a else a) xs

abbrev pub detailed : ℕ → Activity → Activity
detailed alternative a = record a { detail = Some alternative }

abbrev pub with_value : ℕ → ℤ → Activity → Activity
with_value n value a = record a { set = slice_set a.set n (Some value) }

abbrev pub shifted : PlanState → ℕ → Option Activity → List Activity
shifted s to None = s.plan.activities
shifted s to (Some a) = changed_where (is_under s a.id) (moved a.start to) s.plan.activities

abbrev pub has_id : ℕ → Activity → Bool
has_id id a = a.id == id

abbrev pub with_activities : PlanState → List Activity → PlanState
with_activities s xs = record s { plan = record { activities = xs } }

-- new ids are above all others, so new activities stand at the end
unfoldable pub applied : PlanState → RepairMove → PlanState
applied s (Add kind start goal) = record s { plan = record { activities = s.plan.activities ++ root_for s kind start goal ∷ [] }; next_id = suc s.next_id }
applied s (Delete id) = with_activities s (without_subtree id s.plan.activities)
applied s (Shift id start) = with_activities s (shifted s start (found s id))
applied s (Detail id alternative) = record s { plan = record { activities = changed_where (has_id id) (detailed alternative) s.plan.activities ++ children_for s alternative (found s id) }; next_id = s.next_id + count_of_new s (Detail id alternative) }
applied s (Abstract id) = with_activities s (map (abstracted id) (without_below id s.plan.activities))
applied s (Assign id param value) = with_activities s (changed_where (has_id id) (with_value param value) s.plan.activities)
applied s (Drop number) = record s { goals = with_dropped number s.goals }
