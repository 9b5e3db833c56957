-- The activities that a move starts stand by rising id.
use Rattle.std.proofs.Common.{ℕ, suc, ◌+◌, ◌≤◌, List, [], ◌∷◌, arith}
use Rattle.std.specs.Prelude.{map, filter, Option, Some, None, slice_get}
use Rattle.pl_model.specs.declared.alternatives.Slot.{Slot}
use Rattle.pl_model.specs.declared.alternatives.Alternative.{Alternative}
use Rattle.pl_plan.specs.declared.activity.Activity.{Activity}
use Rattle.pl_plan.specs.declared.repair.RepairMove.{RepairMove}
use Rattle.pl_plan.specs.declared.repair.RepairMove.TheVariants.{Add, Delete, Shift, Detail, Abstract, Assign, Drop}
use Rattle.pl_plan.specs.Activities.{RiseFrom, AreRising}
use Rattle.pl_plan.proofs.ByLookUps.{filter_rising}
use Rattle.pl_semantics.specs.declared.plan_state.PlanState.{PlanState}
use Rattle.pl_semantics.specs.PlanStates.{found}
use Rattle.pl_semantics.specs.Moves.{is_under, alternatives_at, children_from, children_in, children_for, moved, moved_with, started_by}

pub rise_lower : (b c : ℕ) (xs : List Activity) → b ≤ c → RiseFrom c xs → RiseFrom b xs
rise_lower b c [] le rising = tt
rise_lower b c (x ∷ xs) le rising = (omega (arith, le, rising.0), rising.1)

rising_moved : (from to c : ℕ) (xs : List Activity) → RiseFrom c xs → RiseFrom c (map (moved from to) xs)
rising_moved from to c [] rising = tt
rising_moved from to c (x ∷ xs) rising = (rising.0, rising_moved from to (suc x.id) xs rising.1)

rising_children : (s : PlanState) (parent : Activity) (n c : ℕ) (slots : List Slot) (offsets : List ℕ) → c ≤ s.next_id + n → RiseFrom c (children_from s parent n slots offsets)
rising_children s parent n c [] offsets le = tt
rising_children s parent n c (at ∷ more) [] le = tt
rising_children s parent n c (at ∷ more) (offset ∷ offsets) le = (le, rising_children s parent (suc n) (suc (s.next_id + n)) more offsets (omega arith))

pub started_rise : (s : PlanState) (m : RepairMove) → AreRising s.plan.activities → AreRising (started_by s m)
started_rise s (Add kind start goal) rising = (omega arith, tt)
started_rise s (Delete id) rising = tt
started_rise s (Shift id start) rising = by (found s id)
  where
    by : (o : Option Activity) → AreRising (moved_with s start o)
    by None = tt
    by (Some a) = rising_moved a.start start 0 (filter (is_under s a.id) s.plan.activities) (filter_rising (is_under s a.id) 0 s.plan.activities rising)
started_rise s (Detail id alternative) rising = by (found s id)
  where
    within : (a : Activity) (o : Option Alternative) → AreRising (children_in s a o)
    within a None = tt
    within a (Some alternative) = rising_children s a 0 0 alternative.slots alternative.offsets (omega arith)

    by : (o : Option Activity) → AreRising (children_for s alternative o)
    by None = tt
    by (Some a) = within a (slice_get (alternatives_at s a) alternative)
started_rise s (Abstract id) rising = tt
started_rise s (Assign id param value) rising = tt
started_rise s (Drop number) rising = tt
