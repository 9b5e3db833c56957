-- Sums over a list of which one element changes.
use Rattle.std.proofs.Common.{◌≡◌, ◌≢◌, ℕ, zero, suc, ◌+◌, ◌≤◌, ◌<◌, List, [], ◌∷◌, length, set, refl, sym, ap, arith}
use Rattle.std.specs.List.{sum_by}
use Rattle.std.proofs.lemmas.List.Sums.{sum_by-cons}
use mathlib.Core.Option.{some, some-injective, some-ne-none}
use lib.ListN.{get_elem?}

module _ {X : Type 0} where
  pub there_below : (xs : List X) (j : ℕ) (v : X) → get_elem? xs j ≡ some v → j < length xs
  there_below [] j v e = absurd (some-ne-none v (sym e))
  there_below (x ∷ xs) zero v e = omega arith
  there_below (x ∷ xs) (suc j) v e = let r = there_below xs j v e in omega arith

  pub sum_set : (f : X → ℕ) (xs : List X) (j : ℕ) (v w : X) → get_elem? xs j ≡ some v → sum_by f (set xs j w) + f v ≡ sum_by f xs + f w
  sum_set f [] j v w e = absurd (some-ne-none v (sym e))
  sum_set f (x ∷ xs) zero v w e = let same : f x ≡ f v = ap f (some-injective x v e) in omega (arith, sum_by-cons f w xs, sum_by-cons f x xs)
  sum_set f (x ∷ xs) (suc j) v w e = let r = sum_set f xs j v w e in omega (arith, sum_by-cons f x (set xs j w), sum_by-cons f x xs)

  -- an element with the same term leaves the sum
  pub sum_same : (f : X → ℕ) (xs : List X) (j : ℕ) (v w : X) → get_elem? xs j ≡ some v → f w ≡ f v → sum_by f (set xs j w) ≡ sum_by f xs
  sum_same f xs j v w e same = let r = sum_set f xs j v w e in omega arith

  pub sum_there : (f : X → ℕ) (xs : List X) (j : ℕ) (v : X) → get_elem? xs j ≡ some v → f v ≤ sum_by f xs
  sum_there f [] j v e = absurd (some-ne-none v (sym e))
  sum_there f (x ∷ xs) zero v e = let same : f x ≡ f v = ap f (some-injective x v e) in omega (arith, sum_by-cons f x xs)
  sum_there f (x ∷ xs) (suc j) v e = let r = sum_there f xs j v e in omega (arith, sum_by-cons f x xs)

  pub sum_two : (f : X → ℕ) (xs : List X) (i j : ℕ) (v w : X) → i ≢ j → get_elem? xs i ≡ some v → get_elem? xs j ≡ some w → f v + f w ≤ sum_by f xs
  sum_two f [] i j v w ne a b = absurd (some-ne-none v (sym a))
  sum_two f (x ∷ xs) zero zero v w ne a b = absurd (ne refl)
  sum_two f (x ∷ xs) zero (suc j) v w ne a b = let same : f x ≡ f v = ap f (some-injective x v a) in let r = sum_there f xs j w b in omega (arith, sum_by-cons f x xs)
  sum_two f (x ∷ xs) (suc i) zero v w ne a b = let same : f x ≡ f w = ap f (some-injective x w b) in let r = sum_there f xs i v a in omega (arith, sum_by-cons f x xs)
  sum_two f (x ∷ xs) (suc i) (suc j) v w ne a b = let r = sum_two f xs i j v w (λ e. ne (ap suc e)) a b in omega (arith, sum_by-cons f x xs)

  -- where no element has a term the sum is 0
  pub sum_none : (f : X → ℕ) (xs : List X) → ((j : ℕ) (v : X) → get_elem? xs j ≡ some v → f v ≡ 0) → sum_by f xs ≡ 0
  sum_none f [] none = refl
  sum_none f (x ∷ xs) none = let r = sum_none f xs (λ j v e. none (suc j) v e) in let here = none 0 x refl in omega (arith, sum_by-cons f x xs)

  -- where no other element has a term the sum is that of this one
  pub sum_only : (f : X → ℕ) (xs : List X) (j : ℕ) (v : X) → get_elem? xs j ≡ some v → ((i : ℕ) (w : X) → i ≢ j → get_elem? xs i ≡ some w → f w ≡ 0) → sum_by f xs ≡ f v
  sum_only f [] j v e others = absurd (some-ne-none v (sym e))
  sum_only f (x ∷ xs) zero v e others =
      let same : f x ≡ f v = ap f (some-injective x v e) in
      let r = sum_none f xs (λ i w a. others (suc i) w (λ h. omega arith) a) in omega (arith, sum_by-cons f x xs)
  sum_only f (x ∷ xs) (suc j) v e others =
      let r = sum_only f xs j v e (λ i w ne a. others (suc i) w (λ h. ne (omega arith)) a) in
      let here = others 0 x (λ h. omega arith) refl in omega (arith, sum_by-cons f x xs)

  -- where each element has a term of at most 1 the sum is at most the length
  pub sum_most : (f : X → ℕ) (xs : List X) → ((x : X) → f x ≤ 1) → sum_by f xs ≤ length xs
  sum_most f [] most = omega arith
  sum_most f (x ∷ xs) most = let r = sum_most f xs most in let here = most x in omega (arith, sum_by-cons f x xs)

  sum_but : (f : X → ℕ) (xs : List X) (j : ℕ) (v : X) → ((x : X) → f x ≤ 1) → get_elem? xs j ≡ some v → f v ≡ 0 → sum_by f xs + 1 ≤ length xs
  sum_but f [] j v most e none = absurd (some-ne-none v (sym e))
  sum_but f (x ∷ xs) zero v most e none = let same : f x ≡ f v = ap f (some-injective x v e) in let r = sum_most f xs most in omega (arith, sum_by-cons f x xs)
  sum_but f (x ∷ xs) (suc j) v most e none = let r = sum_but f xs j v most e none in let here = most x in omega (arith, sum_by-cons f x xs)

  sum_all : (f : X → ℕ) (xs : List X) (i : ℕ) (w : X) → ((x : X) → f x ≤ 1) → sum_by f xs ≡ length xs → get_elem? xs i ≡ some w → f w ≡ 1
  sum_all f [] i w most full a = absurd (some-ne-none w (sym a))
  sum_all f (x ∷ xs) zero w most full a = let same : f x ≡ f w = ap f (some-injective x w a) in let r = sum_most f xs most in let here = most w in omega (arith, sum_by-cons f x xs)
  sum_all f (x ∷ xs) (suc i) w most full a =
      let here = most x in let r = sum_most f xs most in
      let tail : sum_by f xs ≡ length xs = omega (arith, sum_by-cons f x xs) in sum_all f xs i w most tail a

  -- where each element has a term of at most 1, and this one has none, and the sum is the number of the others, each other has one
  pub sum_full : (f : X → ℕ) (xs : List X) (j i : ℕ) (v w : X) → ((x : X) → f x ≤ 1) → get_elem? xs j ≡ some v → f v ≡ 0 → sum_by f xs + 1 ≡ length xs → i ≢ j → get_elem? xs i ≡ some w → f w ≡ 1
  sum_full f [] j i v w most e none full ne a = absurd (some-ne-none v (sym e))
  sum_full f (x ∷ xs) zero zero v w most e none full ne a = absurd (ne refl)
  sum_full f (x ∷ xs) zero (suc i) v w most e none full ne a =
      let same : f x ≡ f v = ap f (some-injective x v e) in
      let tail : sum_by f xs ≡ length xs = omega (arith, sum_by-cons f x xs) in sum_all f xs i w most tail a
  sum_full f (x ∷ xs) (suc j) zero v w most e none full ne a =
      let same : f x ≡ f w = ap f (some-injective x w a) in
      let here = most w in
      let rest = sum_but f xs j v most e none in omega (arith, sum_by-cons f x xs)
  sum_full f (x ∷ xs) (suc j) (suc i) v w most e none full ne a =
      let here = most x in
      let rest = sum_but f xs j v most e none in
      let tail : sum_by f xs + 1 ≡ length xs = omega (arith, sum_by-cons f x xs) in sum_full f xs j i v w most e none tail (λ h. ne (ap suc h)) a
