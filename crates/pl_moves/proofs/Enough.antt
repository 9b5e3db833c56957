-- Whether so many conflicts are enough.
use Rattle.std.proofs.Common.{◌≡◌, ℕ, ◌<◌, ◌≤◌, Bool, true, ◌⊎◌, inl, inr, refl, sym, ap, ◌∙◌, arith}
use Rattle.std.specs.Prelude.{nat_lt, nat_le, min, Option, Some, None}
use Rattle.std.proofs.lemmas.Bool.{cases_lt, leb-true, le-ltb, and_parts, and_right}
use Rattle.pl_moves.specs.Attempts.{is_enough}

-- the count, which stands still at its type's end, is enough where the number is
pub enough_counted : (enough : Option ℕ) (left : ℕ) → is_enough enough (min left 4294967295) ≡ is_enough enough left
enough_counted None left = refl
enough_counted (Some most) left = by (cases_lt left 4294967295)
  where
    by : (left < 4294967295) ⊎ (4294967295 ≤ left) → is_enough (Some most) (min left 4294967295) ≡ is_enough (Some most) left
    by (inl lt) = let is : min left 4294967295 ≡ left = omega (arith, lt) in ap (λ (n : ℕ). is_enough (Some most) n) is
    by (inr ge) =
        let cut : 4294967295 ≤ min left 4294967295 = omega (arith, ge) in
        and_right (nat_le (min left 4294967295) most) (nat_lt (min left 4294967295) 4294967295) (le-ltb (min left 4294967295) 4294967295 cut)
        ∙ sym (and_right (nat_le left most) (nat_lt left 4294967295) (le-ltb left 4294967295 ge))

-- what is told of the count holds of the number
pub told : (enough : Option ℕ) (count left : ℕ) (b : Bool) → count ≡ min left 4294967295 → b ≡ is_enough enough count → is_enough enough left ≡ b
told enough count left b is so = sym (enough_counted enough left) ∙ (ap (λ (n : ℕ). is_enough enough n) (sym is) ∙ sym so)

pub at_most : (most left : ℕ) → is_enough (Some most) left ≡ true → left ≤ most
at_most most left e = leb-true left most (and_parts (nat_le left most) (nat_lt left 4294967295) e).0
