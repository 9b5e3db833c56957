-- One part of a walk after another one.
use Rattle.std.proofs.Common.{◌≡◌, ℕ, ◌<◌, ◌≤◌, Bool, true, false, List, refl, arith, ltb, ℤ}
use Rattle.std.proofs.lemmas.Bool.{ltb-true, ltb-false}
use Rattle.pl_points.specs.Points.{Point, sum_to}
use Rattle.pl_points.specs.Passing.{Passes}

-- the sum meets one condition up to a moment, and another one from there on
pub passes_on : (P Q R : ℤ → Type 0) (ps : List Point) (from to m n : ℕ) (u v : ℤ) → ((z : ℤ) → P z → R z) → ((z : ℤ) → Q z → R z) → Passes P ps from to m u → Passes Q ps m to n v → Passes R ps from to n v
passes_on P Q R ps from to m n u v one two first second = record {
  later = omega (arith, first.later, second.later);
  bound = second.bound;
  meets = λ t low high. cases t low high (ltb t m) refl;
  next = second.next;
}
  where
    cases : (t : ℕ) → from ≤ t → t < n → (b : Bool) → ltb t m ≡ b → R (sum_to ps t)
    cases t low high true e = one (sum_to ps t) (first.meets t low (ltb-true t m e))
    cases t low high false e = two (sum_to ps t) (second.meets t (ltb-false t m e) high)

-- what meets a condition meets each weaker one
pub passes_as : (P R : ℤ → Type 0) (ps : List Point) (from to end : ℕ) (sum : ℤ) → ((z : ℤ) → P z → R z) → Passes P ps from to end sum → Passes R ps from to end sum
passes_as P R ps from to end sum weaker passes = record {
  later = passes.later;
  bound = passes.bound;
  meets = λ t low high. weaker (sum_to ps t) (passes.meets t low high);
  next = passes.next;
}
