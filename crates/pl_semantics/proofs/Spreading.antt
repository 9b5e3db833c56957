-- The numbers that are tried between two.
use Rattle.std.proofs.Common.{◌≡◌, ℕ, zero, suc, ◌+◌, ◌*◌, ◌/◌, ◌≤◌, ◌<◌, Bool, true, false, cond, leb, [], ◌∷◌, length, refl, sym, ap, ◌∙◌, subst, arith}
use Rattle.std.specs.Prelude.{ℤ, pos, negsuc, ◌+ℤ◌, ◌-ℤ◌, ◌≤ℤ◌, ◌<ℤ◌, int_le, max, slice_get, Some, None}
use Rattle.std.proofs.lemmas.Bool.{leb-true, leb-false}
use Rattle.std.proofs.lemmas.Int.{ints}
use Rattle.std.proofs.Math.Nat.{suc-mul, lt-mul-div-succ, mul-le-mul_right}
use Rattle.pl_lists.proofs.Numbers.{le_to_test, lt_to_test}
use Rattle.pl_semantics.specs.PlanStates.{natural}
use Rattle.pl_semantics.specs.Starts.{stride, stride_of, steps_from, spread}

one_more : (low : ℤ) (step i : ℕ) → low +ℤ pos (suc i * step) ≡ (low +ℤ pos step) +ℤ pos (i * step)
one_more low step i = rw (suc-mul i step) (omega (arith, ints))

-- ---- steps from a low number

length_steps : (n : ℕ) (low high : ℤ) (step : ℕ) → length (steps_from n low high step) ≤ n
length_steps zero low high step = omega arith
length_steps (suc n) low high step = cases (int_le low high) (length_steps n (low +ℤ pos step) high step)
  where
    cases : (b : Bool) → length (steps_from n (low +ℤ pos step) high step) ≤ n → length (cond b (low ∷ steps_from n (low +ℤ pos step) high step) []) ≤ suc n
    cases true h = omega (arith, h)
    cases false h = omega arith

step_here : (n : ℕ) (low high : ℤ) (step i : ℕ) → i < n → (low +ℤ pos (i * step)) ≤ℤ high → slice_get (steps_from n low high step) i ≡ Some (low +ℤ pos (i * step))
step_here zero low high step i lt le = absurd (omega (arith, lt))
step_here (suc n) low high step zero lt le =
    let here : low +ℤ pos (zero * step) ≡ low = omega (arith, ints) in
    let first : low ≤ℤ high = omega (arith, ints, le) in
    rw (le_to_test low high first) (ap Some (sym here))
step_here (suc n) low high step (suc i) lt le =
    let there : low +ℤ pos (suc i * step) ≡ (low +ℤ pos step) +ℤ pos (i * step) = one_more low step i in
    let within : ((low +ℤ pos step) +ℤ pos (i * step)) ≤ℤ high = subst (λ z. z ≤ℤ high) there le in
    let first : low ≤ℤ high = omega (arith, ints, within) in
    let rest : slice_get (steps_from n (low +ℤ pos step) high step) i ≡ Some ((low +ℤ pos step) +ℤ pos (i * step)) = step_here n (low +ℤ pos step) high step i (omega (arith, lt)) within in
    rw (le_to_test low high first) (rest ∙ ap Some (sym there))

step_past : (n : ℕ) (low high : ℤ) (step i : ℕ) → high <ℤ (low +ℤ pos (i * step)) → slice_get (steps_from n low high step) i ≡ None
step_past zero low high step i gt = refl
step_past (suc n) low high step zero gt =
    let past : high <ℤ low = omega (arith, ints, gt) in
    rw (lt_to_test low high past) refl
step_past (suc n) low high step (suc i) gt = cases (int_le low high) (step_past n (low +ℤ pos step) high step i (subst (λ z. high <ℤ z) (one_more low step i) gt))
  where
    cases : (b : Bool) → slice_get (steps_from n (low +ℤ pos step) high step) i ≡ None → slice_get (cond b (low ∷ steps_from n (low +ℤ pos step) high step) []) (suc i) ≡ None
    cases true none = none
    cases false none = refl

-- ---- sixteen are enough

wide : (width : ℕ) → width ≤ 15 * stride width
wide width =
    let above : width + 14 < 15 * ((width + 14) / 15 + 1) = lt-mul-div-succ (width + 14) {b = 15} (omega arith) in
    grown ((width + 14) / 15) above
  where
    grown : (q : ℕ) → width + 14 < 15 * (q + 1) → width ≤ 15 * max 1 q
    grown q above = omega (arith, above)

stepping : (width : ℕ) → 1 ≤ stride width
stepping width = bound ((width + 14) / 15)
  where
    bound : (q : ℕ) → 1 ≤ max 1 q
    bound q = omega arith

few_steps : (width i step : ℕ) → width ≤ 15 * step → 1 ≤ step → i * step ≤ width → (16 ≤ i → 16 * step ≤ i * step) → i < 16
few_steps width i step wide some within more = by (leb 16 i) refl
  where
    by : (b : Bool) → leb 16 i ≡ b → i < 16
    by true e = let far : 16 * step ≤ i * step = more (leb-true 16 i e) in absurd (omega (arith, wide, some, within, far))
    by false e = leb-false 16 i e

below_width : (m : ℕ) (z : ℤ) → pos m ≤ℤ z → m ≤ natural z
below_width m (pos n) le = omega (arith, ints, le)
below_width m (negsuc n) le = absurd (omega (arith, ints, le))

pub few : (low high : ℤ) → length (spread low high) ≤ 16
unfolding spread
few low high = length_steps 16 low high (stride_of low high)

pub tried : (low high : ℤ) (i : ℕ) → (low +ℤ pos (i * stride_of low high)) ≤ℤ high → slice_get (spread low high) i ≡ Some (low +ℤ pos (i * stride_of low high))
unfolding spread
tried low high i le = step_here 16 low high (stride_of low high) i near le
  where
    width : ℕ
    width = natural (high -ℤ low)

    within : i * stride width ≤ width
    within = below_width (i * stride width) (high -ℤ low) (omega (arith, ints, le))

    near : i < 16
    near = few_steps width i (stride width) (wide width) (stepping width) within (λ far. mul-le-mul_right (stride width) far)

pub no_other : (low high : ℤ) (i : ℕ) → high <ℤ (low +ℤ pos (i * stride_of low high)) → slice_get (spread low high) i ≡ None
unfolding spread
no_other low high i gt = step_past 16 low high (stride_of low high) i gt
