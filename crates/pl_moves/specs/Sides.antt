-- Starts that no repair may give lie on one of two sides of those that a repair may give.
use Rattle.std.specs.Prelude.{ℕ, nat_lt, nat_le, ◌≡◌, ◌≤◌, Bool, true, false, List, Option, Some, None, find, length, All}
use Rattle.std.specs.Option.{option_map}
use Rattle.pl_model.specs.Schedules.{IsOffset}
use Rattle.pl_plan.specs.Trees.{id_of}
use Rattle.pl_plan.specs.declared.activity.Activity.{Activity}
use Rattle.pl_model.specs.declared.alternatives.Slot.{Slot}
use Rattle.pl_semantics.specs.declared.plan_state.PlanState.{PlanState}
use Rattle.pl_semantics.specs.PlanStates.{floor_of}
use Rattle.pl_semantics.specs.Moves.{moved}
use Rattle.pl_moves.specs.declared.side.Side.{Side}
use Rattle.pl_moves.specs.declared.side.Side.TheVariants.{BelowFloor, PastHorizon}

-- below the floor, or at the horizon and later
abbrev pub lies_on : PlanState → Side → ℕ → Bool
lies_on s BelowFloor start = nat_lt start (floor_of s)
lies_on s PastHorizon start = nat_le s.model.horizon start

abbrev pub starts_on : PlanState → Side → Activity → Bool
starts_on s side a = lies_on s side a.start

-- it starts on this side once it is shifted by as much as an activity whose start goes from one moment to another
abbrev pub moves_to : PlanState → Side → ℕ → ℕ → Activity → Bool
moves_to s side from to a = starts_on s side (moved from to a)

-- the id of the first activity that starts on this side
abbrev pub first_on : PlanState → Side → List Activity → Option ℕ
first_on s side xs = option_map id_of (find (starts_on s side) xs)

-- the id, if it is so
abbrev pub when_so : Bool → ℕ → Option ℕ
when_so true id = Some id
when_so false id = None

-- at most sixteen slots, each with a small offset
pub record ArePaired (slots : List Slot) (offsets : List ℕ) : Type 0 where
  pub few : length slots ≤ 16
  pub each : length offsets ≡ length slots
  pub small : All IsOffset offsets
