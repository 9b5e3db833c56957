-- Which activities pass a test, by what is found under ids.
use Rattle.std.proofs.Common.{◌≡◌, ℕ, suc, eqb, Bool, true, false, List, [], ◌∷◌, map, refl, sym, ◌∙◌, arith}
use Rattle.std.specs.Prelude.{filter, Some, None}
use Rattle.std.specs.List.{list_any}
use Rattle.std.specs.Cmp.{both_ways}
use Rattle.std.proofs.lemmas.Bool.{eq-eqb, ne_eqb}
use Rattle.std.proofs.Math.Bool.{or-true}
use Rattle.pl_plan.specs.declared.activity.Activity.{Activity}
use Rattle.pl_plan.specs.Activities.{RiseFrom, AreRising, activity_of}
use Rattle.pl_plan.specs.Trees.{id_of}
use Rattle.pl_plan.proofs.Lookups.{none_below}
use Rattle.pl_semantics.specs.PlanStates.{among}

record Found (p : Activity → Bool) (xs : List Activity) : Type 0 where
  id : ℕ
  a : Activity
  here : activity_of id xs ≡ Some a
  passes : p a ≡ true

any_found : (p : Activity → Bool) (c : ℕ) (xs : List Activity) → RiseFrom c xs → list_any p xs ≡ true → Found p xs
any_found p c [] rising h = absurd (cc)
any_found p c (x ∷ xs) rising h = cases (p x) refl (any_found p (suc x.id) xs rising.1)
  where
    cases : (b : Bool) → p x ≡ b → (list_any p xs ≡ true → Found p xs) → Found p (x ∷ xs)
    cases true e more = record { id = x.id; a = x; here = rw (eq-eqb x.id x.id refl) refl; passes = e }
    cases false e more =
        let f : Found p xs = more (rw e at h) in
        let apart : eqb x.id f.id ≡ false = ne_eqb x.id f.id (λ is. let none : activity_of f.id xs ≡ None = none_below xs (suc x.id) f.id rising.1 (omega (arith, is)) in let bad : None ≡ Some f.a = sym none ∙ f.here in absurd (cc)) in
        record { id = f.id; a = f.a; here = rw apart f.here; passes = f.passes }

pub found_any : (p : Activity → Bool) (xs : List Activity) (id : ℕ) (a : Activity) → activity_of id xs ≡ Some a → p a ≡ true → list_any p xs ≡ true
found_any p [] id a here passes = absurd (cc)
found_any p (x ∷ xs) id a here passes = cases (eqb x.id id) refl (found_any p xs id a)
  where
    cases : (b : Bool) → eqb x.id id ≡ b → (activity_of id xs ≡ Some a → p a ≡ true → list_any p xs ≡ true) → list_any p (x ∷ xs) ≡ true
    cases true e more = let at : Some x ≡ Some a = rw e at here in let same : x ≡ a = cc in rw (same, passes) refl
    cases false e more = rw (more (rw e at here) passes) (or-true (p x))

-- the same of both lists, where each activity that passes is found in both under its id
pub any_same : (p : Activity → Bool) (xs ys : List Activity) → AreRising xs → AreRising ys → ((id : ℕ) (a : Activity) → p a ≡ true → activity_of id xs ≡ Some a → activity_of id ys ≡ Some a) → ((id : ℕ) (a : Activity) → p a ≡ true → activity_of id ys ≡ Some a → activity_of id xs ≡ Some a) → list_any p ys ≡ list_any p xs
any_same p xs ys rising rises there back =
    both_ways (list_any p ys) (list_any p xs)
    (λ h. let f : Found p ys = any_found p 0 ys rises h in found_any p xs f.id f.a (back f.id f.a f.passes f.here) f.passes)
    (λ h. let f : Found p xs = any_found p 0 xs rising h in found_any p ys f.id f.a (there f.id f.a f.passes f.here) f.passes)

-- one that passes is among those that do
pub chosen_among : (p : Activity → Bool) (id : ℕ) (xs : List Activity) (a : Activity) → activity_of id xs ≡ Some a → p a ≡ true → among id (map id_of (filter p xs)) ≡ true
chosen_among p id [] a here is = absurd (cc)
chosen_among p id (x ∷ xs) a here is = cases (eqb x.id id) refl (chosen_among p id xs a)
  where
    kept : (b : Bool) → p x ≡ b → among id (map id_of (filter p xs)) ≡ true → among id (map id_of (filter p (x ∷ xs))) ≡ true
    kept true e there = rw (e, there) (or-true (eqb x.id id))
    kept false e there = rw e there

    cases : (b : Bool) → eqb x.id id ≡ b → (activity_of id xs ≡ Some a → p a ≡ true → among id (map id_of (filter p xs)) ≡ true) → among id (map id_of (filter p (x ∷ xs))) ≡ true
    cases true e more = let at : Some x ≡ Some a = rw e at here in let same : x ≡ a = cc in let first : p x ≡ true = rw same is in rw (first, e) refl
    cases false e more = kept (p x) refl (more (rw e at here) is)
