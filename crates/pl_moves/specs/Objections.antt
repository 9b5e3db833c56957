-- Why a move that changes an activity may be refused.
use Rattle.std.specs.Prelude.{ℕ, Bool, ◌&&◌, Option, Some, None, find, min}
use Rattle.std.specs.Option.{option_map}
use Rattle.pl_plan.specs.Trees.{id_of}
use Rattle.pl_plan.specs.declared.activity.Activity.{Activity}
use Rattle.pl_semantics.specs.declared.plan_state.PlanState.{PlanState}
use Rattle.pl_semantics.specs.PlanStates.{is_committed}
use Rattle.pl_semantics.specs.Moves.{is_under}
use Rattle.pl_moves.specs.Sides.{moves_to}
use Rattle.pl_moves.specs.declared.objection.Objection.{Objection}
use Rattle.pl_moves.specs.declared.objection.Objection.TheVariants.{Committed, Moved}

-- it is committed, or would start on this side once it is shifted
abbrev pub objects : PlanState → Objection → Activity → Bool
objects s Committed a = is_committed s a
objects s (Moved from to side) a = moves_to s side from to a

-- the least id of an activity of the subtree that objects
abbrev pub first_objecting : PlanState → Objection → ℕ → Option ℕ
first_objecting s objection top = option_map id_of (find (λ a. is_under s top a && objects s objection a) s.plan.activities)

-- the lesser one if there are two, else the one that there is
abbrev pub lesser : Option ℕ → Option ℕ → Option ℕ
lesser None other = other
lesser (Some n) None = Some n
lesser (Some n) (Some m) = Some (min n m)
