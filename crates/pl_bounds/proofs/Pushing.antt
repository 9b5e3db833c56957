-- A number for each move: one more at the end, the one of a place, and with conflicts of states.
use Rattle.std.proofs.Common.{◌≡◌, ℕ, zero, suc, ◌+◌, ◌<◌, ◌≤◌, List, [], ◌∷◌, ◌++◌, take, length, get_or, refl, sym, ap, subst, arith}
use Rattle.std.proofs.lemmas.List.{take_more}
use Rattle.pl_plan.specs.declared.repair.RepairMove.{RepairMove}
use Rattle.pl_semantics.specs.declared.plan_state.PlanState.{PlanState}
use Rattle.pl_semantics.specs.Legal.{left_after}
use Rattle.pl_semantics.specs.Moves.{applied}
use Rattle.pl_bounds.specs.Bounds.{AreLeast, AreLeastBesideStates, AreNoMore, left_beside_states}
use Rattle.pl_bounds.specs.Marks.{count_of_states}
use Rattle.pl_bounds.proofs.Parts.{three_parts}

module _ (f : RepairMove → ℕ) where
  no_more_push : (ms : List RepairMove) (ns : List ℕ) (m : RepairMove) (n : ℕ) → AreNoMore f ms ns → n ≤ f m → AreNoMore f (ms ++ m ∷ []) (ns ++ n ∷ [])
  no_more_push [] [] m n are le = (le, tt)
  no_more_push (x ∷ ms) (y ∷ ns) m n are le = (are.0, no_more_push ms ns m n are.1 le)
  no_more_push [] (y ∷ ns) m n are le = absurd are
  no_more_push (x ∷ ms) [] m n are le = absurd are

  pub no_more_next : (ms : List RepairMove) (i : ℕ) (d : RepairMove) (ns : List ℕ) (n : ℕ) → i < length ms → AreNoMore f (take i ms) ns → n ≤ f (get_or ms i d) → AreNoMore f (take (i + 1) ms) (ns ++ n ∷ [])
  no_more_next ms i d ns n lt are le = subst (λ (l : List RepairMove). AreNoMore f l (ns ++ n ∷ [])) (sym (take_more ms i d lt)) (no_more_push (take i ms) ns (get_or ms i d) n are le)

  pub no_more_length : (ms : List RepairMove) (ns : List ℕ) → AreNoMore f ms ns → length ns ≡ length ms
  no_more_length [] [] are = refl
  no_more_length [] (n ∷ ns) none = absurd none
  no_more_length (m ∷ ms) [] none = absurd none
  no_more_length (m ∷ ms) (n ∷ ns) are = ap suc (no_more_length ms ns are.1)

  pub no_more_at : (ms : List RepairMove) (ns : List ℕ) (i : ℕ) (d : RepairMove) (e : ℕ) → i < length ms → AreNoMore f ms ns → get_or ns i e ≤ f (get_or ms i d)
  no_more_at [] ns i d e lt are = absurd (omega (arith, lt))
  no_more_at (m ∷ ms) [] i d e lt none = absurd none
  no_more_at (m ∷ ms) (n ∷ ns) zero d e lt are = are.0
  no_more_at (m ∷ ms) (n ∷ ns) (suc i) d e lt are = no_more_at ms ns i d e (omega (arith, lt)) are.1

-- what a move leaves beside states, and of states
pub with_states_too : (s : PlanState) (m : RepairMove) (n k l : ℕ) → n ≤ left_beside_states s m → k ≤ count_of_states (applied s m) → l ≤ n + k → l ≤ left_after s m
unfolding left_after left_beside_states
with_states_too s m n k l beside states le = omega (arith, three_parts (applied s m), beside, states, le)

-- what is no more than one number is no more than a greater one
pub least_of_beside : (s : PlanState) (ms : List RepairMove) (ns : List ℕ) → AreLeastBesideStates s ms ns → AreLeast s ms ns
unfolding left_beside_states
least_of_beside s [] [] are = tt
least_of_beside s [] (n ∷ ns) none = absurd none
least_of_beside s (m ∷ ms) [] none = absurd none
least_of_beside s (m ∷ ms) (n ∷ ns) are = (omega (arith, are.0), least_of_beside s ms ns are.1)
