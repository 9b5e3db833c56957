-- The first of activities by rising id that passes a test is the one of the least id.
use Rattle.std.proofs.Common.{◌≡◌, ℕ, suc, ◌≤◌, eqb, ltb, Bool, true, false, List, [], ◌∷◌, refl, sym, ◌∙◌, subst, arith}
use Rattle.std.specs.Prelude.{find, Option, Some, None}
use Rattle.std.proofs.lemmas.Bool.{eqb-true, eq-eqb, ne_eqb, ltb-true, ltb-false}
use Rattle.pl_plan.specs.declared.activity.Activity.{Activity}
use Rattle.pl_plan.specs.Activities.{RiseFrom, activity_of}
use Rattle.pl_plan.proofs.Lookups.{none_below}
use Rattle.pl_semantics.specs.Legal.{IsLeast}
use Rattle.pl_semantics.proofs.Found.{found_id}

-- ids rise, so what is found lies from the first on
above : (c id : ℕ) (xs : List Activity) (a : Activity) → RiseFrom c xs → activity_of id xs ≡ Some a → c ≤ id
above c id xs a rising is = by (ltb id c) refl
  where
    by : (b : Bool) → ltb id c ≡ b → c ≤ id
    by true e = let none : activity_of id xs ≡ None = none_below xs c id rising (ltb-true id c e) in absurd (let bad : Some a ≡ None = sym is ∙ none in cc)
    by false e = ltb-false id c e

-- in the rest what has another id than the first
in_rest : (x a : Activity) (id : ℕ) (xs : List Activity) → (x.id ≡ id → ⊥) → activity_of id (x ∷ xs) ≡ activity_of id xs
in_rest x a id xs apart = rw (ne_eqb x.id id apart) refl

pub least_found : (test : Activity → Bool) (c : ℕ) (xs : List Activity) → RiseFrom c xs → (a : Activity) → find test xs ≡ Some a → IsLeast test xs a.id
least_found test c [] rising a is = absurd (cc)
least_found test c (x ∷ xs) rising a is = by (test x) refl (least_found test (suc x.id) xs rising.1 a)
  where
    some : (y : Activity) → Some y ≡ Some a → y ≡ a
    some y e = cc

    first : test x ≡ true → IsLeast test (x ∷ xs) x.id
    first t = record { a = x; here = rw (eq-eqb x.id x.id refl) refl; passes = t; least = λ b in_it passes. split b in_it (eqb x.id b.id) refl }
      where
        split : (b : Activity) → activity_of b.id (x ∷ xs) ≡ Some b → (e : Bool) → eqb x.id b.id ≡ e → x.id ≤ b.id
        split b in_it true e = let same : x.id ≡ b.id = eqb-true x.id b.id e in omega (arith, same)
        split b in_it false e = let rest : suc x.id ≤ b.id = above (suc x.id) b.id xs b rising.1 (rw e at in_it) in omega (arith, rest)

    behind : test x ≡ false → IsLeast test xs a.id → IsLeast test (x ∷ xs) a.id
    behind t found = record { a = found.a; here = in_rest x a a.id xs (λ e. omega (arith, e, far)) ∙ found.here; passes = found.passes; least = λ b in_it passes. split b in_it passes (eqb x.id b.id) refl }
      where
        far : suc x.id ≤ a.id
        far = above (suc x.id) a.id xs found.a rising.1 found.here

        split : (b : Activity) → activity_of b.id (x ∷ xs) ≡ Some b → test b ≡ true → (e : Bool) → eqb x.id b.id ≡ e → a.id ≤ b.id
        split b in_it passes true e = let here : Some x ≡ Some b = rw e at in_it in let bad : test b ≡ false = subst (λ (y : Activity). test y ≡ false) (same b here) t in absurd (cc)
          where
            same : (b : Activity) → Some x ≡ Some b → x ≡ b
            same b e = cc
        split b in_it passes false e = found.least b (rw e at in_it) passes

    by : (b : Bool) → test x ≡ b → (find test xs ≡ Some a → IsLeast test xs a.id) → IsLeast test (x ∷ xs) a.id
    by true t more = let same : x ≡ a = some x (rw t at is) in subst (λ (y : Activity). IsLeast test (x ∷ xs) y.id) same (first t)
    by false t more = behind t (more (rw t at is))

-- an activity that is there and passes is found, or one before it
some_found : (test : Activity → Bool) (id : ℕ) (xs : List Activity) (a : Activity) → activity_of id xs ≡ Some a → test a ≡ true → find test xs ≡ None → ⊥
some_found test id [] a is passes none = absurd (cc)
some_found test id (x ∷ xs) a is passes none = by (test x) refl (eqb x.id id) refl (some_found test id xs a)
  where
    some : (y : Activity) → Some y ≡ Some a → y ≡ a
    some y e = cc

    by : (b : Bool) → test x ≡ b → (e : Bool) → eqb x.id id ≡ e → (activity_of id xs ≡ Some a → test a ≡ true → find test xs ≡ None → ⊥) → ⊥
    by true t e h more = let bad : Some x ≡ None = rw t at none in absurd (cc)
    by false t true h more = let same : x ≡ a = some x (rw h at is) in let bad : test a ≡ false = subst (λ (y : Activity). test y ≡ false) same t in absurd (cc)
    by false t false h more = more (rw h at is) passes (rw t at none)

pub found_least : (test : Activity → Bool) (c : ℕ) (xs : List Activity) → RiseFrom c xs → (id : ℕ) → IsLeast test xs id → (a : Activity) × (find test xs ≡ Some a) × (a.id ≡ id)
found_least test c xs rising id is = by (find test xs) refl
  where
    by : (o : Option Activity) → find test xs ≡ o → (a : Activity) × (find test xs ≡ Some a) × (a.id ≡ id)
    by None e = absurd (some_found test id xs is.a is.here is.passes e)
    by (Some b) e =
        let found : IsLeast test xs b.id = least_found test c xs rising b e in
        let mine : is.a.id ≡ id = found_id id xs is.a is.here in
        let others : found.a.id ≡ b.id = found_id b.id xs found.a found.here in
        let below : b.id ≤ is.a.id = found.least is.a (subst (λ n. activity_of n xs ≡ Some is.a) (sym mine) is.here) is.passes in
        let over : id ≤ found.a.id = is.least found.a (subst (λ n. activity_of n xs ≡ Some found.a) (sym others) found.here) found.passes in
        (b, e, omega (arith, mine, others, below, over))
