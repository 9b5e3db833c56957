-- A count of those that pass a test, as a loop goes.
use Rattle.std.proofs.Common.{◌≡◌, ℕ, ◌+◌, ◌≤◌, Bool, true, false, cond, List, [], ◌∷◌, filter, length, refl, subst, arith}

-- one more is counted
pub one_more : {X : Type 0} (p : X → Bool) (x : X) (rest next : List X) (n m all : ℕ) → rest ≡ x ∷ next → m ≤ n + cond (p x) 1 0 → n + length (filter p rest) ≤ all → m + length (filter p next) ≤ all
one_more {X} p x rest next n m all is more so_far = by (p x) refl
  where
    here : n + length (filter p (x ∷ next)) ≤ all
    here = subst (λ (xs : List X). n + length (filter p xs) ≤ all) is so_far

    by : (b : Bool) → p x ≡ b → m + length (filter p next) ≤ all
    by true e = let most : m ≤ n + 1 = rw e at more in let left : n + length (x ∷ filter p next) ≤ all = rw e at here in omega (arith, most, left)
    by false e = let most : m ≤ n + 0 = rw e at more in let left : n + length (filter p next) ≤ all = rw e at here in omega (arith, most, left)

pub none_left : {X : Type 0} (p : X → Bool) (rest : List X) (n all : ℕ) → rest ≡ [] → n + length (filter p rest) ≤ all → n ≤ all
none_left {X} p rest n all is so_far = let left : n + length (filter p []) ≤ all = subst (λ (xs : List X). n + length (filter p xs) ≤ all) is so_far in omega (arith, left)
