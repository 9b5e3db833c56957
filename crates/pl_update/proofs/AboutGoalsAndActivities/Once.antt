-- The same numbers stand in a list without repeats.
use Rattle.std.proofs.Common.{◌≡◌, ℕ, eqb, Bool, true, false, List, [], ◌∷◌, refl, ap, ◌∙◌}
use Rattle.std.specs.Prelude.{◌||◌}
use Rattle.std.specs.List.{dedup, dedup_from}
use Rattle.std.proofs.lemmas.Bool.{eqb-true}
use Rattle.pl_lists.proofs.Tests.{or_again}
use Rattle.pl_semantics.specs.PlanStates.{among}

among_from : (n k : ℕ) (xs : List ℕ) → among n (dedup_from eqb k xs) ≡ (eqb k n || among n xs)
among_from n k [] = refl
among_from n k (x ∷ xs) = cases (eqb x k) refl (among_from n k xs) (among_from n x xs)
  where
    cases : (b : Bool) → eqb x k ≡ b → among n (dedup_from eqb k xs) ≡ (eqb k n || among n xs) → among n (dedup_from eqb x xs) ≡ (eqb x n || among n xs) → among n (dedup_from eqb k (x ∷ xs)) ≡ (eqb k n || (eqb x n || among n xs))
    cases true e same other = rw e (same ∙ rw (eqb-true x k e) (or_again (eqb k n) (among n xs)))
    cases false e same other = rw e (ap (λ b. eqb k n || b) other)

pub among_once : (n : ℕ) (xs : List ℕ) → among n (dedup eqb xs) ≡ among n xs
among_once n [] = refl
among_once n (x ∷ xs) = among_from n x xs
