-- Conflicts under new ids stand in the same order.
use Rattle.std.proofs.Common.{◌≡◌, ℕ, eqb, Bool, true, false, cond, List, [], ◌∷◌, length, refl, sym, ap, ◌∙◌}
use Rattle.std.specs.Prelude.{◌||◌, not, map}
use Rattle.std.specs.declared.cmp.Ordering.{Ordering}
use Rattle.std.specs.declared.cmp.Ordering.TheVariants.{Less, Equal, Greater}
use Rattle.std.specs.Ordering.{nat_cmp, ordering_then, match_ordering}
use Rattle.std.specs.BTreeSet.{insert_key}
use Rattle.std.proofs.lemmas.Map.Lookups.{exact_unsigned}
use Rattle.pl_conflict.specs.declared.conflict.Conflict.{Conflict}
use Rattle.pl_conflict.specs.declared.conflict.Code.{Code}
use Rattle.pl_conflict.specs.declared.conflict.Code.TheVariants as code
use Rattle.pl_conflict.specs.Codes.{code_number}
use Rattle.pl_conflict.specs.Order.{conflict_cmp}
use Rattle.pl_conflict.specs.Sorting.{sorted}
use Rattle.pl_renumbering.specs.Renumbered.{KeepsOrder, names_activity, renumbered_conflict}
use Rattle.pl_renumbering.proofs.Lists.{length-mapped}
use Rattle.pl_renumbering.proofs.Numbers.{compare_ids}

-- whether a code of this number names an activity
abbrev named_at : ℕ → Bool
named_at n = not (eqb n 0 || (eqb n 9 || (eqb n 10 || eqb n 11)))

named_by_number : (c : Code) → names_activity c ≡ named_at (code_number c)
named_by_number code.OpenGoal = refl
named_by_number code.Over = refl
named_by_number code.Low = refl
named_by_number code.High = refl
named_by_number _ = refl

module _ (f : ℕ → ℕ) (keeps : KeepsOrder f) where
  subjects_compare : (b : Bool) (x y : ℕ) → nat_cmp (cond b (f x) x) (cond b (f y) y) ≡ nat_cmp x y
  subjects_compare true x y = compare_ids f keeps x y
  subjects_compare false x y = refl

  -- the code decides, or both subjects are activities or neither is
  behind_codes : (c d : Code) (x y : ℕ) (rest : Ordering)
      → ordering_then (nat_cmp (code_number c) (code_number d)) (ordering_then (nat_cmp (cond (names_activity c) (f x) x) (cond (names_activity d) (f y) y)) rest)
      ≡ ordering_then (nat_cmp (code_number c) (code_number d)) (ordering_then (nat_cmp x y) rest)
  behind_codes c d x y rest = by (nat_cmp (code_number c) (code_number d)) refl
    where
      by : (o : Ordering) → nat_cmp (code_number c) (code_number d) ≡ o
          → ordering_then o (ordering_then (nat_cmp (cond (names_activity c) (f x) x) (cond (names_activity d) (f y) y)) rest) ≡ ordering_then o (ordering_then (nat_cmp x y) rest)
      by Less e = refl
      by Greater e = refl
      by Equal e =
          let one : code_number c ≡ code_number d = exact_unsigned (code_number c) (code_number d) e in
          let alike : names_activity c ≡ names_activity d = named_by_number c ∙ (ap named_at one ∙ sym (named_by_number d)) in
          rw alike (ap (λ o. ordering_then o rest) (subjects_compare (names_activity d) x y))

  pub conflicts_compare : (k q : Conflict) → conflict_cmp (renumbered_conflict f k) (renumbered_conflict f q) ≡ conflict_cmp k q
  conflicts_compare k q = ap (ordering_then (nat_cmp k.from q.from)) (behind_codes k.code q.code k.subject q.subject _)

  inserted : (ks : List Conflict) (k : Conflict) → insert_key conflict_cmp (map (renumbered_conflict f) ks) (renumbered_conflict f k) ≡ map (renumbered_conflict f) (insert_key conflict_cmp ks k)
  inserted [] k = refl
  inserted (x ∷ ks) k = rw (conflicts_compare k x) (by (conflict_cmp k x) (inserted ks k))
    where
      by : (o : Ordering) → insert_key conflict_cmp (map (renumbered_conflict f) ks) (renumbered_conflict f k) ≡ map (renumbered_conflict f) (insert_key conflict_cmp ks k)
          → match_ordering o (renumbered_conflict f k ∷ map (renumbered_conflict f) (x ∷ ks)) (map (renumbered_conflict f) (x ∷ ks)) (renumbered_conflict f x ∷ insert_key conflict_cmp (map (renumbered_conflict f) ks) (renumbered_conflict f k))
          ≡ map (renumbered_conflict f) (match_ordering o (k ∷ x ∷ ks) (x ∷ ks) (x ∷ insert_key conflict_cmp ks k))
      by Less e = refl
      by Equal e = refl
      by Greater e = ap (λ l. renumbered_conflict f x ∷ l) e

  pub sorted_renumbered : (ks : List Conflict) → sorted (map (renumbered_conflict f) ks) ≡ map (renumbered_conflict f) (sorted ks)
  unfolding sorted
  sorted_renumbered [] = refl
  sorted_renumbered (k ∷ ks) = ap (λ l. insert_key conflict_cmp l (renumbered_conflict f k)) (sorted_renumbered ks) ∙ inserted (sorted ks) k

  pub as_many : (ks ls : List Conflict) → ls ≡ map (renumbered_conflict f) ks → length (sorted ls) ≡ length (sorted ks)
  as_many ks ls e = ap (λ l. length (sorted l)) e ∙ (ap length (sorted_renumbered ks) ∙ length-mapped (renumbered_conflict f) (sorted ks))
