-- What is tried between numbers from 0 on is from 0 on, and none is above the last.
use Rattle.std.proofs.Common.{◌≡◌, ℕ, zero, suc, ◌≤◌, Bool, true, false, cond, [], ◌∷◌, Option, Some, None, refl, arith}
use Rattle.std.specs.Prelude.{All, ℤ, pos, ◌+ℤ◌, ◌≤ℤ◌, int_le}
use Rattle.std.specs.Int.{int_max}
use Rattle.std.proofs.lemmas.Int.{ints, clamps}
use Rattle.std.proofs.lemmas.List.Elements.{All-nil, All-cons}
use Rattle.pl_lists.proofs.Numbers.{le_from_test}
use Rattle.pl_facts.specs.declared.goal.Goal.{Goal}
use Rattle.pl_plan.specs.declared.activity.Activity.{Activity}
use Rattle.pl_semantics.specs.declared.plan_state.PlanState.{PlanState}
use Rattle.pl_semantics.specs.PlanStates.{served_by}
use Rattle.pl_semantics.specs.Starts.{steps_from, stride_of, spread, floor_at, last_of, window_of, places_of}
use Rattle.pl_semantics.specs.Whole.{IsWhole, IsGoalOf}
use Rattle.pl_cand.proofs.Checks.{served_of_model, present_most}
use Rattle.pl_cand.specs.Near.{IsSmall}

steps_small : (n : ℕ) (low high : ℤ) (step : ℕ) → pos 0 ≤ℤ low → high ≤ℤ pos 4294967295 → All IsSmall (steps_from n low high step)
steps_small zero low high step from to = All-nil IsSmall
steps_small (suc n) low high step from to =
    let next : pos 0 ≤ℤ (low +ℤ pos step) = omega (arith, ints, from) in
    cases (int_le low high) refl (steps_small n (low +ℤ pos step) high step next to)
  where
    cases : (b : Bool) → int_le low high ≡ b → All IsSmall (steps_from n (low +ℤ pos step) high step) → All IsSmall (cond b (low ∷ steps_from n (low +ℤ pos step) high step) [])
    cases true is rest =
        let le : low ≤ℤ high = le_from_test low high is in
        let small : low ≤ℤ pos 4294967295 = omega (arith, ints, le, to) in
        All-cons IsSmall low (steps_from n (low +ℤ pos step) high step) (from, small) rest
    cases false is rest = All-nil IsSmall

pub spread_small : (low high : ℤ) → pos 0 ≤ℤ low → high ≤ℤ pos 4294967295 → All IsSmall (spread low high)
unfolding spread
spread_small low high from to = steps_small 16 low high (stride_of low high) from to

module _ (s : PlanState) (whole : IsWhole s) where
  floor_small : IsSmall (floor_at s)
  floor_small =
      let present : s.moment ≤ 10000000 = present_most s whole in
      let committed : s.committed ≤ s.model.horizon = whole.horizon in
      let far : s.model.horizon ≤ 10000000 = whole.checked.horizon.1 in
      (omega (arith, ints), omega (arith, ints))

  window_small : (o : Option Goal) → ((g : Goal) → o ≡ Some g → IsGoalOf s.model g) → All IsSmall (window_of s o)
  window_small None each =
      let far : s.model.horizon ≤ 10000000 = whole.checked.horizon.1 in
      spread_small (floor_at s) (last_of s) floor_small.0 (omega (arith, ints, far))
  window_small (Some g) each =
      let far : s.model.horizon ≤ 10000000 = whole.checked.horizon.1 in
      let goal = each g refl in
      let floor = floor_small.0 in
      spread_small (int_max (pos g.earliest) (floor_at s)) (pos g.latest) (omega (arith, ints, clamps, floor)) (omega (arith, ints, far, goal.before))

  pub places_small : (a : Activity) → All IsSmall (places_of s a)
  places_small a = All-cons IsSmall (floor_at s) (window_of s (served_by s a)) floor_small (window_small (served_by s a) (λ g e. served_of_model s whole a g e))
