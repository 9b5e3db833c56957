-- Rules for things that have numbers of their own: a conflict stands where the one thing that has its subject says so.
use Rattle.std.proofs.Common.{◌≡◌, ℕ, suc, ◌<◌, eqb, Bool, true, false, cond, List, [], ◌∷◌, refl, sym, ap, ◌∙◌, subst, arith}
use Rattle.std.specs.Prelude.{◌||◌, find, Some}
use Rattle.std.specs.List.{list_any, flat_map}
use Rattle.std.proofs.lemmas.Bool.{eqb-true, eqb-false, ne_eqb}
use Rattle.std.proofs.lemmas.List.Folds.{list_any_none}
use Rattle.std.proofs.Math.Bool.{or-false}
use Rattle.pl_conflict.specs.declared.conflict.Conflict.{Conflict}
use Rattle.pl_conflict.specs.Order.{has}
use Rattle.pl_conflict.proofs.Sorting.{has-append}
use Rattle.pl_facts.specs.declared.goal.Goal.{Goal}
use Rattle.pl_facts.specs.Goals.{AreDistinct}
use Rattle.pl_plan.specs.declared.activity.Activity.{Activity}
use Rattle.pl_plan.specs.Activities.{RiseFrom, AreRising, activity_of}
use Rattle.pl_semantics.specs.PlanStates.{of_found}

-- no number stands twice
abbrev pub Apart : {X : Type 0} → (X → ℕ) → List X → Type 0
Apart key [] = Unit {0}
Apart key (x ∷ xs) = (list_any (λ y. eqb (key y) (key x)) xs ≡ false) × Apart key xs

module _ {X : Type 0} (key : X → ℕ) (f : X → List Conflict) (k : Conflict) (n : ℕ) (owned : (x : X) → has k (f x) ≡ true → n ≡ key x) where
  not_of : (x : X) → eqb (key x) n ≡ false → has k (f x) ≡ false
  not_of x e = cases (has k (f x)) refl
    where
      cases : (b : Bool) → has k (f x) ≡ b → has k (f x) ≡ false
      cases true h = let is : n ≡ key x = owned x h in absurd (eqb-false (key x) n e (sym is))
      cases false h = h

  none_of : (xs : List X) → list_any (λ y. eqb (key y) n) xs ≡ false → has k (flat_map f xs) ≡ false
  none_of [] none = refl
  none_of (x ∷ xs) none = has-append (f x) (flat_map f xs) k ∙ cases (eqb (key x) n) refl (none_of xs)
    where
      cases : (b : Bool) → eqb (key x) n ≡ b → (list_any (λ y. eqb (key y) n) xs ≡ false → has k (flat_map f xs) ≡ false) → (has k (f x) || has k (flat_map f xs)) ≡ false
      cases true e more = let bad : true ≡ false = rw e at none in absurd (cc)
      cases false e more = let rest : list_any (λ y. eqb (key y) n) xs ≡ false = rw e at none in rw (not_of x e, more rest) refl

  -- it stands where it stands by the one thing that has the number
  pub by_key : (xs : List X) → Apart key xs → has k (flat_map f xs) ≡ has k (of_found f (find (λ x. eqb (key x) n) xs))
  by_key [] apart = refl
  by_key (x ∷ xs) apart = has-append (f x) (flat_map f xs) k ∙ cases (eqb (key x) n) refl (by_key xs apart.1)
    where
      cases : (b : Bool) → eqb (key x) n ≡ b → has k (flat_map f xs) ≡ has k (of_found f (find (λ x. eqb (key x) n) xs)) → (has k (f x) || has k (flat_map f xs)) ≡ has k (of_found f (find (λ x. eqb (key x) n) (x ∷ xs)))
      cases true e more = let none : list_any (λ y. eqb (key y) n) xs ≡ false = subst (λ m. list_any (λ y. eqb (key y) m) xs ≡ false) (eqb-true (key x) n e) apart.0 in rw (e, none_of xs none) (or-false (has k (f x)))
      cases false e more = rw (e, not_of x e) more

-- ---- goals by number

goals_apart : (goals : List Goal) → AreDistinct goals → Apart (λ (g : Goal). g.number) goals
goals_apart [] distinct = tt
goals_apart (g ∷ goals) distinct = (
  list_any_none (λ (y : Goal). eqb y.number g.number) goals (λ k d lt. ne_eqb _ _ (λ e. distinct 0 (suc k) d (omega arith) (omega (arith, lt)) (sym e))),
  goals_apart goals (λ i j d lt within. distinct (suc i) (suc j) d (omega (arith, lt)) (omega (arith, within))),
)

pub by_number : (f : Goal → List Conflict) → ((g : Goal) (k : Conflict) → has k (f g) ≡ true → k.subject ≡ g.number) → (goals : List Goal) → AreDistinct goals → (k : Conflict) → has k (flat_map f goals) ≡ has k (of_found f (find (λ (g : Goal). eqb g.number k.subject) goals))
by_number f owned goals distinct k = by_key (λ (g : Goal). g.number) f k k.subject (λ g h. owned g k h) goals (goals_apart goals distinct)

-- ---- activities by id

none_below : (n c : ℕ) (xs : List Activity) → n < c → RiseFrom c xs → list_any (λ (y : Activity). eqb y.id n) xs ≡ false
none_below n c [] lt rising = refl
none_below n c (x ∷ xs) lt rising = rw (ne_eqb x.id n (λ e. omega (arith, lt, rising.0, e))) (none_below n (suc x.id) xs (omega (arith, lt, rising.0)) rising.1)

activities_apart : (c : ℕ) (xs : List Activity) → RiseFrom c xs → Apart (λ (a : Activity). a.id) xs
activities_apart c [] rising = tt
activities_apart c (x ∷ xs) rising = (none_below x.id (suc x.id) xs (omega arith) rising.1, activities_apart (suc x.id) xs rising.1)

pub activity_of_find : (n : ℕ) (xs : List Activity) → find (λ (a : Activity). eqb a.id n) xs ≡ activity_of n xs
activity_of_find n [] = refl
activity_of_find n (x ∷ xs) = ap (λ o. cond (eqb x.id n) (Some x) o) (activity_of_find n xs)

pub by_id : (f : Activity → List Conflict) → ((a : Activity) (k : Conflict) → has k (f a) ≡ true → k.subject ≡ a.id) → (xs : List Activity) → AreRising xs → (k : Conflict) → has k (flat_map f xs) ≡ has k (of_found f (activity_of k.subject xs))
by_id f owned xs rising k = by_key (λ (a : Activity). a.id) f k k.subject (λ a h. owned a k h) xs (activities_apart 0 xs rising) ∙ ap (λ o. has k (of_found f o)) (activity_of_find k.subject xs)
