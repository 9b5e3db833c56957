-- The first move that leaves the fewest conflicts is told by the counts.
use Rattle.std.proofs.Common.{◌≡◌, ℕ, leb, Bool, List, [], ◌∷◌, refl, ap, ◌∙◌}
use Rattle.std.specs.Prelude.{map, find, slice_get}
use Rattle.std.specs.List.{list_all, position_or_len}
use Rattle.std.proofs.lemmas.List.Folds.{find_at}
use Rattle.pl_plan.specs.declared.repair.RepairMove.{RepairMove}
use Rattle.pl_semantics.specs.declared.plan_state.PlanState.{PlanState}
use Rattle.pl_semantics.specs.Legal.{left_after}
use Rattle.pl_memo.specs.Fewest.{counts_after, is_least, fewest_place}

-- ---- the first that leaves the fewest, by its place

all_counts : (s : PlanState) (n : ℕ) (moves : List RepairMove) → list_all (λ other. leb n (left_after s other)) moves ≡ is_least (counts_after s moves) n
all_counts s n [] = refl
all_counts s n (m ∷ moves) = rw (all_counts s n moves) refl

place_along : {X : Type 0} (count : X → ℕ) (p : X → Bool) (q : ℕ → Bool) → ((x : X) → p x ≡ q (count x)) → (xs : List X) → position_or_len p xs ≡ position_or_len q (map count xs)
place_along count p q same [] = refl
place_along count p q same (x ∷ xs) = rw (same x, place_along count p q same xs) refl

pub place_of_fewest : (s : PlanState) (moves : List RepairMove) → position_or_len (λ m. list_all (λ other. leb (left_after s m) (left_after s other)) moves) moves ≡ fewest_place s moves
place_of_fewest s moves = place_along (left_after s) (λ m. list_all (λ other. leb (left_after s m) (left_after s other)) moves) (is_least (counts_after s moves)) (λ m. all_counts s (left_after s m) moves) moves

pub fewest_by_place : (s : PlanState) (moves : List RepairMove)
    → find (λ m. list_all (λ other. leb (left_after s m) (left_after s other)) moves) moves ≡ slice_get moves (fewest_place s moves)
fewest_by_place s moves =
    find_at (λ m. list_all (λ other. leb (left_after s m) (left_after s other)) moves) moves
    ∙ ap (slice_get moves) (place_of_fewest s moves)
