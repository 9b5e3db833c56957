-- Laws of tests.
use Rattle.std.proofs.Common.{◌≡◌, Bool, true, false, refl, sym}
use Rattle.std.specs.Prelude.{◌||◌, ◌&&◌, not}
use Rattle.std.proofs.lemmas.Bool.{and_parts, or_parts, not-false}

pub or_again : (a b : Bool) → (a || b) ≡ (a || (a || b))
or_again true b = refl
or_again false b = refl

pub or_swap : (a b c : Bool) → (a || (b || c)) ≡ (b || (a || c))
or_swap true true c = refl
or_swap _ _ c = refl

-- without b, and without c
pub without_both : (a b c : Bool) → ((a && not b) && not c) ≡ (a && not (b || c))
without_both true true c = refl
without_both _ _ c = refl

-- ---- the parts of a test, by its answer

pub and_first : (a b : Bool) → (a && b) ≡ true → a ≡ true
and_first a b e = (and_parts a b e).0

pub and_second : (a b : Bool) → (a && b) ≡ true → b ≡ true
and_second a b e = (and_parts a b e).1

pub and_third : (a b c d : Bool) → (a && (b && (c && d))) ≡ true → c ≡ true
and_third a b c d e = and_first c d (and_second b (c && d) (and_second a (b && (c && d)) e))

pub or_first_false : (a b : Bool) → (a || b) ≡ false → a ≡ false
or_first_false a b e = (or_parts a b e).0

pub or_second_false : (a b : Bool) → (a || b) ≡ false → b ≡ false
or_second_false a b e = (or_parts a b e).1

-- the second holds where the first cannot
pub or_second_true : (a b : Bool) → (a || b) ≡ true → (a ≡ true → ⊥) → b ≡ true
or_second_true true b e never = absurd (never refl)
or_second_true false b e never = e

pub or_weaker : (a b c : Bool) → (a || b) ≡ true → (b ≡ true → c ≡ true) → (a || c) ≡ true
or_weaker true b c e weaker = refl
or_weaker false b c e weaker = weaker e

pub not_and_parts : (a b : Bool) → not (a && b) ≡ false → (a ≡ true) × (b ≡ true)
not_and_parts a b e = and_parts a b (not-false (a && b) e)

-- tests that follow from each other are the same
pub same_test : (a b : Bool) → (a ≡ true → b ≡ true) → (b ≡ true → a ≡ true) → a ≡ b
same_test true b there back = sym (there refl)
same_test false true there back = back refl
same_test false false there back = refl
