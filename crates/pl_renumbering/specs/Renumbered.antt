-- Plan states that are the same but for the ids of their activities, and conflicts, moves and refusals under other ids.
use Rattle.std.specs.Prelude.{◌≡◌, ℕ, ◌+◌, ◌<◌, Bool, true, false, List, map, Option, Some, None, if◌then◌else◌}
use Rattle.pl_conflict.specs.declared.conflict.Conflict.{Conflict}
use Rattle.pl_conflict.specs.declared.conflict.Code.{Code}
use Rattle.pl_conflict.specs.declared.conflict.Code.TheVariants as code
use Rattle.pl_plan.specs.declared.activity.Activity.{Activity}
use Rattle.pl_plan.specs.declared.repair.RepairMove.{RepairMove}
use Rattle.pl_plan.specs.declared.repair.RepairMove.TheVariants.{Add, Delete, Shift, Detail, Abstract, Assign, Drop}
use Rattle.pl_semantics.specs.declared.plan_state.PlanState.{PlanState}
use Rattle.pl_semantics.specs.declared.refusal.Refusal.{Refusal}
use Rattle.pl_semantics.specs.declared.refusal.Refusal.TheVariants.{Locked, Behind, Beyond, Full}

-- of two ids the smaller one gets the smaller new id, so no two ids get the same one
abbrev pub KeepsOrder : (ℕ → ℕ) → Type 0
KeepsOrder f = (m n : ℕ) → m < n → f m < f n

-- ---- activities

-- a place in a slot of a parent, with the parent's new id
abbrev pub renumbered_place : (ℕ → ℕ) → Option (ℕ × ℕ) → Option (ℕ × ℕ)
renumbered_place f None = None
renumbered_place f (Some p) = Some (f p.0, p.1)

-- an activity with its new id, and with the new id of its parent
abbrev pub renumbered : (ℕ → ℕ) → Activity → Activity
renumbered f a = record a { id = f a.id; parent = renumbered_place f a.parent }

abbrev pub renumbered_all : (ℕ → ℕ) → List Activity → List Activity
renumbered_all f activities = map (renumbered f) activities

-- ---- plan states

-- the state with the new ids, in which the next activity would get this id
abbrev pub renumbered_state : (ℕ → ℕ) → ℕ → PlanState → PlanState
renumbered_state f next s = record s { plan = record { activities = renumbered_all f s.plan.activities }; next_id = next }

-- the second state is the first one with new ids
pub record IsRenumbered (f : ℕ → ℕ) (s t : PlanState) : Type 0 where
  pub order : KeepsOrder f
  pub model : t.model ≡ s.model
  pub activities : t.plan.activities ≡ renumbered_all f s.plan.activities
  pub goals : t.goals ≡ s.goals
  pub bases : t.bases ≡ s.bases
  pub moment : t.moment ≡ s.moment
  pub committed : t.committed ≡ s.committed
  pub limit : t.live_limit ≡ s.live_limit

-- the ids that are given from now on are each other's too
abbrev pub AgreesAhead : (ℕ → ℕ) → PlanState → PlanState → Type 0
AgreesAhead f s t = (n : ℕ) → f (s.next_id + n) ≡ t.next_id + n

-- ---- conflicts

-- whether the subject of a conflict of this code is an activity: else it is a goal or a timeline
abbrev pub names_activity : Code → Bool
names_activity code.OpenGoal = false
names_activity code.Over = false
names_activity code.Low = false
names_activity code.High = false
names_activity _ = true

-- a conflict with the new id of its subject, where that is an activity
abbrev pub renumbered_conflict : (ℕ → ℕ) → Conflict → Conflict
renumbered_conflict f k = record k { subject = if names_activity k.code then f k.subject else k.subject }

-- ---- moves and refusals

abbrev pub renumbered_move : (ℕ → ℕ) → RepairMove → RepairMove
renumbered_move f (Add kind start goal) = Add kind start goal
renumbered_move f (Delete id) = Delete (f id)
renumbered_move f (Shift id start) = Shift (f id) start
renumbered_move f (Detail id alternative) = Detail (f id) alternative
renumbered_move f (Abstract id) = Abstract (f id)
renumbered_move f (Assign id param value) = Assign (f id) param value
renumbered_move f (Drop goal) = Drop goal

abbrev pub renumbered_refusal : (ℕ → ℕ) → Refusal → Refusal
renumbered_refusal f (Locked id) = Locked (f id)
renumbered_refusal f (Behind id) = Behind (f id)
renumbered_refusal f (Beyond id) = Beyond (f id)
renumbered_refusal f Full = Full
