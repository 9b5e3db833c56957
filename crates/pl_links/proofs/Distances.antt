-- How far apart moments are, by the moments from which and to which another one may lie.
use Rattle.std.proofs.Common.{◌≡◌, ℕ, refl, arith}
use Rattle.std.specs.Prelude.{◌&&◌, ℤ, pos, ◌+ℤ◌, ◌-ℤ◌, int_le}
use Rattle.std.proofs.lemmas.Int.{ints}
use Rattle.std.proofs.Math.Bool.{and_comm}
use Rattle.pl_links.specs.Broken.{is_apart}

from_low : (a b : ℕ) (low : ℤ) → int_le (pos a +ℤ low) (pos b) ≡ int_le low (pos b -ℤ pos a)
from_low a b low = grind (arith, ints)

to_high : (a b : ℕ) (high : ℤ) → int_le (pos b) (pos a +ℤ high) ≡ int_le (pos b -ℤ pos a) high
to_high a b high = grind (arith, ints)

back_high : (a b : ℕ) (high : ℤ) → int_le (pos b -ℤ high) (pos a) ≡ int_le (pos b -ℤ pos a) high
back_high a b high = grind (arith, ints)

back_low : (a b : ℕ) (low : ℤ) → int_le (pos a) (pos b -ℤ low) ≡ int_le low (pos b -ℤ pos a)
back_low a b low = grind (arith, ints)

pub after_is : (a b : ℕ) (low high : ℤ) → (int_le (pos a +ℤ low) (pos b) && int_le (pos b) (pos a +ℤ high)) ≡ is_apart low high a b
after_is a b low high = rw (from_low a b low, to_high a b high) refl

pub before_is : (a b : ℕ) (low high : ℤ) → (int_le (pos b -ℤ high) (pos a) && int_le (pos a) (pos b -ℤ low)) ≡ is_apart low high a b
before_is a b low high = rw (back_high a b high, back_low a b low) (and_comm (int_le (pos b -ℤ pos a) high) (int_le low (pos b -ℤ pos a)))
