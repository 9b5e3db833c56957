-- The greater and the lesser of two near numbers are near.
use Rattle.std.proofs.Common.{arith}
use Rattle.std.specs.Prelude.{ℤ}
use Rattle.std.specs.Int.{int_max, int_min}
use Rattle.std.proofs.lemmas.Int.{ints, clamps}
use Rattle.pl_cand.specs.Near.{IsNear}

pub near_max : (a b : ℤ) → IsNear a → IsNear b → IsNear (int_max a b)
near_max a b one other =
    let one_low = one.0 in
    let one_high = one.1 in
    let other_low = other.0 in
    let other_high = other.1 in
    (omega (arith, ints, clamps), omega (arith, ints, clamps))

pub near_min : (a b : ℤ) → IsNear a → IsNear b → IsNear (int_min a b)
near_min a b one other =
    let one_low = one.0 in
    let one_high = one.1 in
    let other_low = other.0 in
    let other_high = other.1 in
    (omega (arith, ints, clamps), omega (arith, ints, clamps))
