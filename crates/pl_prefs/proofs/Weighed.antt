-- How far a weight times an amount lies from 0.
use Rattle.std.proofs.Common.{ℕ, suc, ◌*◌, ◌≤◌, ◌^◌, sym, subst, arith, ℤ, pos, negsuc}
use Rattle.std.specs.Prelude.{◌*ℤ◌}
use Rattle.std.proofs.lemmas.Int.{ints}
use Rattle.std.proofs.lemmas.Nat.{mul-le}
use Rattle.std.proofs.Math.IntN.{pos-*ℤ-pos, pos-*ℤ-negsuc}
use Rattle.pl_prefs.specs.Bounds.{IsWithin, IsSumOf}
use Rattle.pl_prefs.specs.Prefers.{IsWeight}

below : (n m : ℕ) → n ≤ 1000 → m ≤ 32 * 2 ^ 63 → n * m ≤ 1 * 2 ^ 80
below n m weight amount = omega (arith, mul-le n m 1000 (32 * 2 ^ 63) weight amount)

pub weighed_within : (w z : ℤ) → IsWeight w → IsSumOf 32 z → IsWithin 1 (w *ℤ z)
weighed_within (negsuc n) z weight amount = absurd (omega (arith, ints, weight.0))
weighed_within (pos n) (pos m) weight amount =
    let le : n * m ≤ 1 * 2 ^ 80 = below n m (omega (arith, ints, weight.1)) (omega (arith, ints, amount.1)) in
    subst (IsWithin 1) (sym (pos-*ℤ-pos n m)) (omega (arith, ints, le), omega (arith, ints, le))
weighed_within (pos n) (negsuc m) weight amount =
    let le : n * suc m ≤ 1 * 2 ^ 80 = below n (suc m) (omega (arith, ints, weight.1)) (omega (arith, ints, amount.0)) in
    subst (IsWithin 1) (sym (pos-*ℤ-negsuc n m)) (omega (arith, ints, le), omega (arith, ints, le))
