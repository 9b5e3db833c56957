-- Each move that is tried is proper: a shift is one of a live activity, and an assignment gives a free parameter a value from its
-- low to its high.
use Rattle.std.proofs.Common.{◌≡◌, ℕ, zero, suc, ◌+◌, Bool, true, false, cond, ◌&&◌, List, [], ◌∷◌, get_or, filter, refl, sym, ap, ◌∙◌, arith, ℤ, pos, negsuc, ◌≤ℤ◌}
use Rattle.std.specs.Prelude.{All, ◌+ℤ◌, int_le, nat_le, nat_lt, slice_get, Option, Some, is_some}
use Rattle.std.proofs.lemmas.Int.{ints}
use Rattle.std.proofs.lemmas.List.Elements.{All-nil, All-cons, All-append, All-map, All-weaker, All-filter, filter_passes}
use Rattle.pl_lists.proofs.Elements.{all_flat}
use Rattle.pl_lists.proofs.Numbers.{le_from_test, le_to_test}
use Rattle.pl_model.specs.declared.parameters.Param.{Param}
use Rattle.pl_model.specs.Checked.{params_of}
use Rattle.pl_plan.specs.declared.activity.Activity.{Activity}
use Rattle.pl_plan.specs.declared.repair.RepairMove.{RepairMove}
use Rattle.pl_plan.specs.declared.repair.RepairMove.TheVariants.{Shift, Assign}
use Rattle.pl_plan.specs.Firm.{is_within}
use Rattle.pl_plan.specs.Fitting.{kind_of}
use Rattle.pl_semantics.specs.declared.plan_state.PlanState.{PlanState}
use Rattle.pl_semantics.specs.PlanStates.{found, numbered}
use Rattle.pl_semantics.specs.Activities.{bindings_of, params_at}
use Rattle.pl_semantics.specs.Starts.{starting, shift_to, places_of, shifts_of, steps_from, stride_of, spread}
use Rattle.pl_semantics.specs.Repairs.{assigns, all_assigns}
use Rattle.pl_semantics.specs.Moves.{holds, is_free, takes_value, is_proper}
use Rattle.pl_semantics.specs.Whole.{IsWhole}
use Rattle.pl_prefs.specs.Betters.{AreProperChanges, movable, changes_of, changes_in}
use Rattle.pl_prefs.proofs.Listed.{movable_live}
use Rattle.pl_prefs.proofs.Sorts.{all_changes, of_activities}

-- ---- one move of a live activity

abbrev IsProper : PlanState → RepairMove → Type 0
IsProper s m = is_proper s m ≡ true

shift_proper : (s : PlanState) (a : Activity) (start : ℕ) → found s a.id ≡ Some a → IsProper s (Shift a.id start)
unfolding is_proper
shift_proper s a start here = ap is_some here

assign_proper : (s : PlanState) (a : Activity) (n : ℕ) (p : Param) (value : ℤ) → found s a.id ≡ Some a → slice_get (params_of (kind_of s.model a)) n ≡ Some p → is_free (bindings_of s a) (n, p) ≡ true → p.low ≤ℤ value → value ≤ℤ p.high → IsProper s (Assign a.id n value)
unfolding is_proper
assign_proper s a n p value here at free least most =
    ap (holds (λ b. takes_value s b n value)) here
    ∙ (ap (holds (λ q. is_free (bindings_of s a) (n, q) && is_within q.low q.high (Some value))) at
    ∙ (ap (λ b. b && is_within p.low p.high (Some value)) free
    ∙ (ap (λ b. b && int_le value p.high) (le_to_test p.low value least) ∙ le_to_test value p.high most)))

-- ---- values and parameters

abbrev IsBetween : ℤ → ℤ → ℤ → Type 0
IsBetween low high z = (low ≤ℤ z) × (z ≤ℤ high)

steps_between : (n : ℕ) (least low high : ℤ) (step : ℕ) → least ≤ℤ low → All (IsBetween least high) (steps_from n low high step)
steps_between zero least low high step from = All-nil (IsBetween least high)
steps_between (suc n) least low high step from = by (int_le low high) refl (steps_between n least (low +ℤ pos step) high step (omega (arith, ints, from)))
  where
    by : (b : Bool) → int_le low high ≡ b → All (IsBetween least high) (steps_from n (low +ℤ pos step) high step) → All (IsBetween least high) (cond b (low ∷ steps_from n (low +ℤ pos step) high step) [])
    by true e rest = All-cons (IsBetween least high) low (steps_from n (low +ℤ pos step) high step) (from, le_from_test low high e) rest
    by false e rest = All-nil (IsBetween least high)

spread_between : (low high : ℤ) → All (IsBetween low high) (spread low high)
unfolding spread
spread_between low high = steps_between 16 low low high (stride_of low high) (omega (arith, ints))

-- each stands at its number
numbered_at : (at : ℕ → Option Param) (n : ℕ) (params : List Param) → ((i : ℕ) → slice_get params i ≡ at (n + i)) → All (λ p. at p.0 ≡ Some p.1) (numbered n params)
numbered_at at n [] there = All-nil (λ (p : ℕ × Param). at p.0 ≡ Some p.1)
numbered_at at n (x ∷ params) there =
    let first : n ≡ n + 0 = omega arith in
    All-cons (λ (p : ℕ × Param). at p.0 ≡ Some p.1) (n, x) (numbered (suc n) params) (ap at first ∙ sym (there 0))
    (numbered_at at (suc n) params (λ i. (let next : n + suc i ≡ suc n + i = omega arith in there (suc i) ∙ ap at next)))

-- ---- all moves

module _ (s : PlanState) (a : Activity) (here : found s a.id ≡ Some a) where
  started : (z : ℤ) → All (IsProper s) (starting s (shift_to a.id) z)
  started (negsuc n) = All-nil (IsProper s)
  started (pos n) = by (nat_le 1 n && nat_lt n s.model.horizon)
    where
      by : (b : Bool) → All (IsProper s) (cond b (Shift a.id n ∷ []) [])
      by true = All-cons (IsProper s) (Shift a.id n) [] (shift_proper s a n here) (All-nil (IsProper s))
      by false = All-nil (IsProper s)

  assigned : (p : ℕ × Param) → slice_get (params_of (kind_of s.model a)) p.0 ≡ Some p.1 → is_free (bindings_of s a) p ≡ true → All (IsProper s) (assigns a.id p)
  assigned p at free =
      All-map (IsProper s) (λ v. Assign a.id p.0 v) (spread p.1.low p.1.high)
      (All-weaker (IsBetween p.1.low p.1.high) (λ v. IsProper s (Assign a.id p.0 v)) (λ v between. assign_proper s a p.0 p.1 v here at free between.0 between.1) (spread p.1.low p.1.high) (spread_between p.1.low p.1.high))

  abbrev free : List (ℕ × Param)
  free = filter (is_free (bindings_of s a)) (params_at s a)

  each : All (IsProper s) (changes_of s a)
  each =
      All-append (IsProper s) (shifts_of s a) (all_assigns s a)
      (all_flat (IsProper s) (starting s (shift_to a.id)) (places_of s a) (λ i d lt. started (get_or (places_of s a) i d)))
      (all_flat (IsProper s) (assigns a.id) free (λ i d lt. assigned (get_or free i d)
      (All-filter (is_free (bindings_of s a)) (λ p. slice_get (params_of (kind_of s.model a)) p.0 ≡ Some p.1) (params_at s a) (numbered_at (slice_get (params_of (kind_of s.model a))) 0 (params_of (kind_of s.model a)) (λ j. ap (slice_get (params_of (kind_of s.model a))) (let from : j ≡ 0 + j = omega arith in from))) i d lt)
      (filter_passes (is_free (bindings_of s a)) (params_at s a) i d lt)))

all_proper : (s : PlanState) → IsWhole s → All (IsProper s) (changes_in s)
unfolding changes_in
all_proper s whole = all_flat (IsProper s) (changes_of s) (movable s) (λ i d lt. each s (get_or (movable s) i d) (movable_live s whole i d lt))

pub all_proper_changes : (s : PlanState) → IsWhole s → AreProperChanges s (changes_in s)
all_proper_changes s whole i d lt = (all_proper s whole i d lt, of_activities (get_or (changes_in s) i d) (all_changes s i d lt))
