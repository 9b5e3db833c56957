-- The outcome of two numbers in intervals lies in the interval that these reach.
use Rattle.std.proofs.Common.{◌≡◌, ⊎_elim, inl, inr, ◌⊎◌, ℕ, suc, ◌≤◌, ℤ, pos, negsuc, ◌*ℤ◌, ◌≤ℤ◌, true, false, Option, Some, None, refl, subst, arith}
use Rattle.std.specs.Prelude.{option_and_then, int_le, ◌&&◌}
use Rattle.std.proofs.lemmas.Int.{ints, clamps}
use Rattle.std.proofs.lemmas.Bool.{cases_Bool, and_parts}
use Rattle.std.proofs.Math.Nat.{mul-le-mul_right}
use Rattle.std.proofs.Math.IntN.{*ℤ_comm, *ℤ-negsuc}
use Rattle.pl_lists.proofs.Numbers.{le_from_test}
use Rattle.pl_model.specs.declared.expressions.Op.{Op}
use Rattle.pl_model.specs.declared.expressions.Op.TheVariants.{Add, Sub, Mul, Min, Max}
use Rattle.pl_model.specs.Values.{limited, joined, outcome_of}
use Rattle.pl_model.specs.Bounds.{clipped_both, least_of, greatest_of, reach_of, IsWithin}

-- a product rises with its one factor where the other is not below 0
times_rises : (a x : ℤ) (n : ℕ) → a ≤ℤ x → (a *ℤ pos n) ≤ℤ (x *ℤ pos n)
times_rises (pos a) (pos x) n h = let le : a ≤ x = omega (arith, ints, h) in omega (arith, ints, mul-le-mul_right n le)
times_rises (pos a) (negsuc x) n h = absurd (omega (arith, ints, h))
times_rises (negsuc a) (pos x) n h = omega (arith, ints)
times_rises (negsuc a) (negsuc x) n h = let le : suc x ≤ suc a = omega (arith, ints, h) in omega (arith, ints, mul-le-mul_right n le)

-- a product lies between the products at the ends of the one factor's interval
times_between : (a b x y : ℤ) → a ≤ℤ x → x ≤ℤ b → (((a *ℤ y) ≤ℤ (x *ℤ y)) × ((x *ℤ y) ≤ℤ (b *ℤ y))) ⊎ (((b *ℤ y) ≤ℤ (x *ℤ y)) × ((x *ℤ y) ≤ℤ (a *ℤ y)))
times_between a b x (pos n) l h = inl (times_rises a x n l, times_rises x b n h)
times_between a b x (negsuc n) l h =
    inr (omega (arith, ints, *ℤ-negsuc x n, *ℤ-negsuc b n, times_rises x b (suc n) h), omega (arith, ints, *ℤ-negsuc x n, *ℤ-negsuc a n, times_rises a x (suc n) l))

-- a number between two numbers that lie between these bounds
within : (low high a x b : ℤ) → IsWithin (low, high) a → IsWithin (low, high) b → ((a ≤ℤ x) × (x ≤ℤ b)) ⊎ ((b ≤ℤ x) × (x ≤ℤ a)) → IsWithin (low, high) x
within low high a x b p q e =
    ⊎_elim (λ w. (omega (arith, ints, p.0, w.0), omega (arith, ints, q.1, w.1)))
    (λ w. (omega (arith, ints, q.0, w.0), omega (arith, ints, p.1, w.1))) e

turned : (a b x y : ℤ) → ((a *ℤ y) ≤ℤ (x *ℤ y)) × ((x *ℤ y) ≤ℤ (b *ℤ y)) ⊎ ((b *ℤ y) ≤ℤ (x *ℤ y)) × ((x *ℤ y) ≤ℤ (a *ℤ y)) → ((y *ℤ a) ≤ℤ (y *ℤ x)) × ((y *ℤ x) ≤ℤ (y *ℤ b)) ⊎ ((y *ℤ b) ≤ℤ (y *ℤ x)) × ((y *ℤ x) ≤ℤ (y *ℤ a))
turned a b x y e = rw (*ℤ_comm y a, *ℤ_comm y x, *ℤ_comm y b) e

product_reached : (a b c d x y : ℤ) → IsWithin (a, b) x → IsWithin (c, d) y → IsWithin (reach_of Mul (a, b) (c, d)) (x *ℤ y)
product_reached a b c d x y p q =
    let low : ℤ = least_of (a *ℤ c) (a *ℤ d) (b *ℤ c) (b *ℤ d) in
    let high : ℤ = greatest_of (a *ℤ c) (a *ℤ d) (b *ℤ c) (b *ℤ d) in
    let at_a = within low high (a *ℤ c) (a *ℤ y) (a *ℤ d) (omega (arith, ints, clamps), omega (arith, ints, clamps)) (omega (arith, ints, clamps), omega (arith, ints, clamps)) (turned c d y a (times_between c d y a q.0 q.1)) in
    let at_b = within low high (b *ℤ c) (b *ℤ y) (b *ℤ d) (omega (arith, ints, clamps), omega (arith, ints, clamps)) (omega (arith, ints, clamps), omega (arith, ints, clamps)) (turned c d y b (times_between c d y b q.0 q.1)) in
    within low high (a *ℤ y) (x *ℤ y) (b *ℤ y) at_a at_b (times_between a b x y p.0 p.1)

outcome_reached : (op : Op) (r s : ℤ × ℤ) (x y : ℤ) → IsWithin r x → IsWithin s y → IsWithin (reach_of op r s) (outcome_of op x y)
outcome_reached Add r s x y p q = (omega (arith, ints, p.0, q.0), omega (arith, ints, p.1, q.1))
outcome_reached Sub r s x y p q = (omega (arith, ints, p.0, q.1), omega (arith, ints, p.1, q.0))
outcome_reached Mul r s x y p q = product_reached r.0 r.1 s.0 s.1 x y p q
outcome_reached _ r s x y p q = (omega (arith, ints, clamps, p.0, q.0), omega (arith, ints, clamps, p.1, q.1))

near_from_test : (n : ℤ) → (int_le (negsuc 999999999999999999) n && int_le n (pos 1000000000000000000)) ≡ true → IsWithin (negsuc 999999999999999999, pos 1000000000000000000) n
near_from_test n h =
    let two = and_parts (int_le (negsuc 999999999999999999) n) (int_le n (pos 1000000000000000000)) h in
    (le_from_test _ _ two.0, le_from_test _ _ two.1)

-- what is limited and lies in an interval lies in the clipped one
pub limited_within : (r : ℤ × ℤ) (n v : ℤ) → limited n ≡ Some v → IsWithin r n → IsWithin (clipped_both r) v
limited_within r n v e p =
    ⊎_elim
    (λ (t : (int_le (negsuc 999999999999999999) n && int_le n (pos 1000000000000000000)) ≡ true).
    let kept : Some n ≡ Some v = rw t at e in
    let same : n ≡ v = cc in
    let ends = near_from_test n t in
    subst (λ x. IsWithin (clipped_both r) x) same (omega (arith, ints, clamps, ends.0, ends.1, p.0), omega (arith, ints, clamps, ends.0, ends.1, p.1)))
    (λ (t : (int_le (negsuc 999999999999999999) n && int_le n (pos 1000000000000000000)) ≡ false).
    let none : None ≡ Some v = rw t at e in absurd (cc))
    (cases_Bool (int_le (negsuc 999999999999999999) n && int_le n (pos 1000000000000000000)))

-- a parameter's value lies in its clipped range
pub parameter_within : (r : ℤ × ℤ) (a : Option ℤ) (v : ℤ) → ((x : ℤ) → a ≡ Some x → IsWithin r x) → option_and_then limited a ≡ Some v → IsWithin (clipped_both r) v
parameter_within r None v p e = absurd (cc)
parameter_within r (Some x) v p e = limited_within r x v e (p x refl)

-- a number's value lies in the clipped number
pub number_within : (n v : ℤ) → limited n ≡ Some v → IsWithin (clipped_both (n, n)) v
number_within n v e = limited_within (n, n) n v e (omega (arith, ints), omega (arith, ints))

-- the value of an operation lies in what the bounds of its parts reach
pub joined_within : (op : Op) (r s : ℤ × ℤ) (a b : Option ℤ) (v : ℤ) → ((x : ℤ) → a ≡ Some x → IsWithin r x) → ((y : ℤ) → b ≡ Some y → IsWithin s y) → joined op a b ≡ Some v → IsWithin (clipped_both (reach_of op r s)) v
joined_within op r s (Some x) (Some y) v p q e = limited_within (reach_of op r s) (outcome_of op x y) v e (outcome_reached op r s x y (p x refl) (q y refl))
joined_within op r s _ _ v p q e = absurd (cc)
