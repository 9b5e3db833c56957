-- The conflicts of those items of a list that pass a test, each with the item's index: as many as pass, and no two are the same.
use Rattle.std.proofs.Common.{◌≡◌, ℕ, suc, ◌+◌, ◌≤◌, Bool, true, false, cond, List, [], ◌∷◌, filter, length, Some, refl, sym, ap, subst, arith}
use Rattle.std.specs.Prelude.{◌||◌, slice_get}
use Rattle.std.proofs.lemmas.Bool.{false_from_ne_true}
use Rattle.pl_conflict.specs.declared.conflict.Conflict.{Conflict}
use Rattle.pl_conflict.specs.Order.{has}
use Rattle.pl_conflict.proofs.Sorting.{same, same_is}
use Rattle.pl_bounds.specs.Counts.{AreApart}

module _ {X : Type 0} (test : X → Bool) (of : ℕ → X → Conflict) where
  abbrev pub conflicts_from : ℕ → List X → List Conflict
  conflicts_from i [] = []
  conflicts_from i (x ∷ xs) = cond (test x) (of i x ∷ conflicts_from (suc i) xs) (conflicts_from (suc i) xs)

  pub as_many : (i : ℕ) (xs : List X) → length (conflicts_from i xs) ≡ length (filter test xs)
  as_many i [] = refl
  as_many i (x ∷ xs) = by (test x) (as_many (suc i) xs)
    where
      by : (b : Bool) → length (conflicts_from (suc i) xs) ≡ length (filter test xs) → length (cond b (of i x ∷ conflicts_from (suc i) xs) (conflicts_from (suc i) xs)) ≡ length (cond b (x ∷ filter test xs) (filter test xs))
      by true more = ap (λ (n : ℕ). suc n) more
      by false more = more

  -- what holds of each that passes
  pub each_from : (P : Conflict → Type 0) (i : ℕ) (xs : List X) → ((j : ℕ) (x : X) → slice_get xs j ≡ Some x → test x ≡ true → P (of (i + j) x)) → (q : Conflict) → has q (conflicts_from i xs) ≡ true → P q
  each_from P i [] all q e = absurd (cc)
  each_from P i (x ∷ xs) all q e = by (test x) refl e (each_from P (suc i) xs later q)
    where
      later : (j : ℕ) (y : X) → slice_get xs j ≡ Some y → test y ≡ true → P (of (suc i + j) y)
      later j y is passes = let same_place : i + suc j ≡ suc i + j = omega arith in subst (λ (n : ℕ). P (of n y)) same_place (all (suc j) y is passes)

      first : test x ≡ true → P (of i x)
      first passes = let place : i + 0 ≡ i = omega arith in subst (λ (n : ℕ). P (of n x)) place (all 0 x refl passes)

      by : (b : Bool) → test x ≡ b → has q (cond b (of i x ∷ conflicts_from (suc i) xs) (conflicts_from (suc i) xs)) ≡ true → (has q (conflicts_from (suc i) xs) ≡ true → P q) → P q
      by true passes h more = here (same q (of i x)) refl h
        where
          here : (c : Bool) → same q (of i x) ≡ c → (c || has q (conflicts_from (suc i) xs)) ≡ true → P q
          here true is h2 = subst P (sym (same_is q (of i x) is)) (first passes)
          here false is h2 = more h2
      by false passes h more = more h

  pub all_apart : ((i : ℕ) (x : X) → (of i x).detail ≡ i) → (i : ℕ) (xs : List X) → AreApart (conflicts_from i xs)
  all_apart at i [] = tt
  all_apart at i (x ∷ xs) = by (test x) (all_apart at (suc i) xs)
    where
      later_ones : (q : Conflict) → has q (conflicts_from (suc i) xs) ≡ true → suc i ≤ q.detail
      later_ones q e = each_from (λ (k : Conflict). suc i ≤ k.detail) (suc i) xs (λ j y is passes. let index : (of (suc i + j) y).detail ≡ suc i + j = at (suc i + j) y in omega (arith, index)) q e

      none : has (of i x) (conflicts_from (suc i) xs) ≡ false
      none = false_from_ne_true (has (of i x) (conflicts_from (suc i) xs)) (λ e. absurd (let low : suc i ≤ (of i x).detail = later_ones (of i x) e in let index : (of i x).detail ≡ i = at i x in omega (arith, low, index)))

      by : (b : Bool) → AreApart (conflicts_from (suc i) xs) → AreApart (cond b (of i x ∷ conflicts_from (suc i) xs) (conflicts_from (suc i) xs))
      by true rest = (none, rest)
      by false rest = rest
