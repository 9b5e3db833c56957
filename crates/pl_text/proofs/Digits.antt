-- Digits are from 48 to 57, and the value of so many of them is below a power of ten.
use Rattle.std.proofs.Common.{◌≡◌, ℕ, suc, ◌+◌, ◌*◌, ◌^◌, ◌≤◌, ◌<◌, Bool, true, false, leb, List, take, refl, arith}
use Rattle.std.specs.List.{prefix_len, AllPass}
use Rattle.std.proofs.lemmas.Bool.{leb-true, and_parts}
use Rattle.std.proofs.lemmas.List.{get_or-take}
use Rattle.std.proofs.lemmas.List.Folds.{length-prefix_len}
use Rattle.std.proofs.lemmas.List.Sums.{prefix_len_passes}
use Rattle.std.proofs.Math.Nat.{pow-suc, pow-le-pow_right}
use Rattle.pl_text.specs.Bytes.{class_by, class_of, is_digit_class, is_number_byte}

digit_by : (blank hash letter digit symbol : Bool) → is_digit_class (class_by blank hash letter digit symbol) ≡ true → digit ≡ true
digit_by true hash letter digit symbol e = absurd cc
digit_by false true letter digit symbol e = absurd cc
digit_by false false true digit symbol e = absurd cc
digit_by false false false true symbol e = refl
digit_by false false false false true e = absurd cc
digit_by false false false false false e = absurd cc

pub digit_range : (b : ℕ) → is_number_byte b ≡ true → (48 ≤ b) × (b ≤ 57)
unfolding class_of
digit_range b e =
    let parts = and_parts (leb 48 b) (leb b 57) (digit_by _ _ _ _ _ e) in
    (leb-true 48 b parts.0, leb-true b 57 parts.1)

pub power_step : (k : ℕ) → 10 ^ (k + 1) ≡ 10 * 10 ^ k
power_step k = let e : k + 1 ≡ suc k = omega arith in rw e (omega (arith, pow-suc 10 k))

pub power_below : (k : ℕ) → k ≤ 18 → 10 ^ k ≤ 10 ^ 18
power_below k le = pow-le-pow_right {n = 10} (omega arith) le

-- the bytes of a run pass
pub digits_pass : (bs : List ℕ) → AllPass is_number_byte (take (prefix_len is_number_byte bs) bs)
digits_pass bs k d below =
    let within : k < prefix_len is_number_byte bs = omega (arith, below, length-prefix_len is_number_byte bs) in
    rw (get_or-take (prefix_len is_number_byte bs) bs k d within) (prefix_len_passes is_number_byte bs k d within)
