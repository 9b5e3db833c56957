-- Marks that come to moves, and moves that have none.
use Rattle.std.proofs.Common.{◌≡◌, ◌≢◌, ⊎_elim, refl, ◌<◌, List, [], ◌∷◌, length, set, true, false, Bool, sym, ◌∙◌, subst, ap}
use Rattle.std.specs.Prelude.{slice_index_or}
use Rattle.std.specs.List.{list_any}
use Rattle.std.proofs.lemmas.Bool.{cases_eq}
use Rattle.std.proofs.lemmas.List.{get_or-set_same, get_or-set_other}
use Rattle.std.proofs.lemmas.List.Elements.{All-head, All-push, All-tail, All-weaker}
use Rattle.pl_plan.specs.declared.repair.RepairMove.{RepairMove}
use Rattle.pl_semantics.specs.Candidates.{same_move}
use Rattle.pl_cand.specs.Marks.{place_of, is_marked, AreMarked, KeepsMarked}
use Rattle.pl_cand.proofs.Same.{one_move}

pub marked_more : (marks : List Bool) (m : RepairMove) → place_of m < length marks → KeepsMarked marks (set marks (place_of m) true) m
marked_more marks m within = λ kept marked.
    All-push (λ j. is_marked (set marks (place_of m) true) j ≡ true) kept m
    (All-weaker (λ j. is_marked marks j ≡ true) (λ j. is_marked (set marks (place_of m) true) j ≡ true)
    (λ j is.
    ⊎_elim
    (λ (same : place_of j ≡ place_of m). subst (λ p. slice_index_or (set marks (place_of m) true) p false ≡ true) (sym same) (get_or-set_same marks (place_of m) true false within))
    (λ (other : place_of j ≢ place_of m). get_or-set_other marks (place_of m) (place_of j) true false other ∙ is)
    (cases_eq (place_of j) (place_of m)))
    kept marked)
    (get_or-set_same marks (place_of m) true false within)

-- a move without a mark is none of those that are marked
pub unmarked : (marks : List Bool) (m : RepairMove) (kept : List RepairMove) → AreMarked marks kept → is_marked marks m ≡ false → list_any (same_move m) kept ≡ false
unmarked marks m [] marked none = refl
unmarked marks m (k ∷ kept) marked none = cases (same_move m k) refl (unmarked marks m kept (All-tail (λ j. is_marked marks j ≡ true) k kept marked) none)
  where
    cases : (b : Bool) → same_move m k ≡ b → list_any (same_move m) kept ≡ false → list_any (same_move m) (k ∷ kept) ≡ false
    cases true e rest =
        let of_kept : is_marked marks k ≡ true = All-head (λ j. is_marked marks j ≡ true) k kept marked in
        let there : is_marked marks m ≡ true = ap (is_marked marks) (one_move m k e) ∙ of_kept in
        absurd (cc)
    cases false e rest = rw e rest
