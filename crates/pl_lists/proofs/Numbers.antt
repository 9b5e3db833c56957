-- Tests of numbers.
use Rattle.std.proofs.Common.{◌≡◌, ℕ, true, false, eqb, refl, arith}
use Rattle.std.specs.Prelude.{ℤ, pos, ◌+ℤ◌, ◌≤ℤ◌, ◌<ℤ◌, int_le}
use Rattle.std.proofs.lemmas.Bool.{eq-eqb}
use Rattle.std.proofs.lemmas.Int.{ints}

pub eqb_itself : (n : ℕ) → eqb n n ≡ true
eqb_itself n = eq-eqb n n refl

pub le_from_test : (a b : ℤ) → int_le a b ≡ true → a ≤ℤ b
le_from_test a b e = grind (arith, ints)

pub le_to_test : (a b : ℤ) → a ≤ℤ b → int_le a b ≡ true
le_to_test a b le = grind (arith, ints)

pub lt_to_test : (a b : ℤ) → b <ℤ a → int_le a b ≡ false
lt_to_test a b lt = grind (arith, ints)

pub add_nothing : (z : ℤ) → z +ℤ pos 0 ≡ z
add_nothing z = omega (arith, ints)
