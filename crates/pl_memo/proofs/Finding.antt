-- A few activities by rising id, as the code goes through them.
use Rattle.std.proofs.Common.{◌≡◌, ℕ, suc, ◌+◌, ◌≤◌, eqb, ltb, Bool, true, false, cond, List, [], ◌∷◌, length, Some, refl, sym, ap, ◌∙◌, arith}
use Rattle.std.specs.Prelude.{find, not, ◌||◌, is_some}
use Rattle.std.specs.List.{list_any, insert, remove, prefix_len, position_or_len}
use Rattle.pl_plan.specs.declared.activity.Activity.{Activity}
use Rattle.pl_plan.specs.Activities.{activity_of, placed, without}

pub find_is : (id : ℕ) (xs : List Activity) → find (λ a. eqb a.id id) xs ≡ activity_of id xs
find_is id [] = refl
find_is id (x ∷ xs) = rw (find_is id xs) refl

pub any_is : (id : ℕ) (xs : List Activity) → list_any (λ a. eqb a.id id) xs ≡ is_some (activity_of id xs)
any_is id [] = refl
any_is id (x ∷ xs) = by (eqb x.id id) (any_is id xs)
  where
    by : (b : Bool) → list_any (λ a. eqb a.id id) xs ≡ is_some (activity_of id xs) → (b || list_any (λ a. eqb a.id id) xs) ≡ is_some (cond b (Some x) (activity_of id xs))
    by true e = refl
    by false e = e

one_more : (n : ℕ) → 1 + n ≡ suc n
one_more n = omega arith

pub placed_at : (a : Activity) (xs : List Activity) → placed a xs ≡ insert xs (prefix_len (λ x. ltb x.id a.id) xs) a
placed_at a [] = refl
placed_at a (x ∷ xs) = by (ltb x.id a.id) (placed_at a xs)
  where
    by : (b : Bool) → placed a xs ≡ insert xs (prefix_len (λ y. ltb y.id a.id) xs) a → cond b (x ∷ placed a xs) (a ∷ x ∷ xs) ≡ insert (x ∷ xs) (cond b (1 + prefix_len (λ y. ltb y.id a.id) xs) 0) a
    by true e = ap (λ l. x ∷ l) e ∙ ap (λ k. insert (x ∷ xs) k a) (sym (one_more (prefix_len (λ y. ltb y.id a.id) xs)))
    by false e = refl

pub without_at : (id : ℕ) (xs : List Activity) → without id xs ≡ remove xs (position_or_len (λ a. eqb a.id id) xs)
without_at id [] = refl
without_at id (x ∷ xs) = by (eqb x.id id) (without_at id xs)
  where
    by : (b : Bool) → without id xs ≡ remove xs (position_or_len (λ a. eqb a.id id) xs) → cond b xs (x ∷ without id xs) ≡ remove (x ∷ xs) (cond (not b) (1 + position_or_len (λ a. eqb a.id id) xs) 0)
    by true e = refl
    by false e = ap (λ l. x ∷ l) e ∙ ap (λ k. remove (x ∷ xs) k) (sym (one_more (position_or_len (λ y. eqb y.id id) xs)))

pub smaller_le : (id : ℕ) (xs : List Activity) → prefix_len (λ (x : Activity). ltb x.id id) xs ≤ length xs
smaller_le id [] = omega arith
smaller_le id (x ∷ xs) = by (ltb x.id id) (smaller_le id xs)
  where
    by : (b : Bool) → prefix_len (λ (y : Activity). ltb y.id id) xs ≤ length xs → cond b (1 + prefix_len (λ (y : Activity). ltb y.id id) xs) 0 ≤ suc (length xs)
    by true le = omega (arith, le)
    by false le = omega arith

-- where it is not among them, nothing is taken out
pub without_none : (id : ℕ) (xs : List Activity) → length xs ≤ position_or_len (λ (a : Activity). eqb a.id id) xs → without id xs ≡ xs
without_none id [] le = refl
without_none id (x ∷ xs) le = by (eqb x.id id) le (without_none id xs)
  where
    by : (b : Bool) → suc (length xs) ≤ cond (not b) (1 + position_or_len (λ (a : Activity). eqb a.id id) xs) 0 → (length xs ≤ position_or_len (λ (a : Activity). eqb a.id id) xs → without id xs ≡ xs) → cond b xs (x ∷ without id xs) ≡ x ∷ xs
    by true far more = absurd (omega (arith, far))
    by false far more = ap (λ l. x ∷ l) (more (omega (arith, far)))
