-- No slot is filled twice: also with another activity in a free slot, and with one less.
use Rattle.std.proofs.Common.{◌≡◌, ℕ, ◌+◌, ◌≤◌, eqb, ltb, Bool, true, false, List, [], ◌∷◌, length, find, Option, Some, None, IfSome, refl, subst, arith}
use Rattle.std.specs.Prelude.{filter, All, Contains, ◌↔◌}
use Rattle.std.proofs.lemmas.Bool.{and_parts, and_from, eqb-true, eq-eqb}
use Rattle.std.proofs.lemmas.List.Elements.{All-nil, All-cons, All-weaker, All-contains, Contains-append_right}
use Rattle.pl_links.specs.declared.placed.Placed.{Placed}
use Rattle.pl_links.specs.Items.{with_item, without, is_slot, fills, child_of, AreApart}

abbrev one_if : Bool → ℕ
one_if true = 1
one_if false = 0

filtered : (f : Placed → Bool) (x : Placed) (xs : List Placed) → length (filter f (x ∷ xs)) ≡ one_if (f x) + length (filter f xs)
filtered f x xs = cases (f x) refl
  where
    cases : (b : Bool) → f x ≡ b → length (filter f (x ∷ xs)) ≡ one_if (f x) + length (filter f xs)
    cases true e = rw e (omega arith)
    cases false e = rw e (omega arith)

filtered-with_item : (f : Placed → Bool) (p : Placed) (xs : List Placed) → length (filter f (with_item p xs)) ≡ one_if (f p) + length (filter f xs)
filtered-with_item f p [] = filtered f p []
filtered-with_item f p (x ∷ xs) = cases (ltb x.id p.id) refl (filtered-with_item f p xs)
  where
    cases : (b : Bool) → ltb x.id p.id ≡ b → length (filter f (with_item p xs)) ≡ one_if (f p) + length (filter f xs) → length (filter f (with_item p (x ∷ xs))) ≡ one_if (f p) + length (filter f (x ∷ xs))
    cases true e more = rw e (omega (arith, filtered f x (with_item p xs), filtered f x xs, more))
    cases false e more = rw e (filtered f p (x ∷ xs))

filtered-without : (f : Placed → Bool) (id : ℕ) (xs : List Placed) → length (filter f (without id xs)) ≤ length (filter f xs)
filtered-without f id [] = omega arith
filtered-without f id (x ∷ xs) = cases (eqb x.id id) refl (filtered-without f id xs)
  where
    cases : (b : Bool) → eqb x.id id ≡ b → length (filter f (without id xs)) ≤ length (filter f xs) → length (filter f (without id (x ∷ xs))) ≤ length (filter f (x ∷ xs))
    cases true e more = rw e (omega (arith, filtered f x xs))
    cases false e more = rw e (omega (arith, filtered f x (without id xs), filtered f x xs, more))

none_filtered : (f : Placed → Bool) (xs : List Placed) → find f xs ≡ None → length (filter f xs) ≡ 0
none_filtered f [] none = refl
none_filtered f (x ∷ xs) none = cases (f x) refl (none_filtered f xs)
  where
    cases : (b : Bool) → f x ≡ b → (find f xs ≡ None → length (filter f xs) ≡ 0) → length (filter f (x ∷ xs)) ≡ 0
    cases true e more = let found : Some x ≡ None = rw e at none in absurd (cc)
    cases false e more = let rest : find f xs ≡ None = rw e at none in rw e (more rest)

free_here : (parent slot : ℕ) (xs : List Placed) (place : Option (ℕ × ℕ)) → is_slot parent slot place ≡ true → IfSome place (λ q. child_of q.0 q.1 xs ≡ None) → child_of parent slot xs ≡ None
free_here parent slot xs None e free = absurd (let h : false ≡ true = e in (cc))
free_here parent slot xs (Some q) e free =
    let both = and_parts (eqb q.0 parent) (eqb q.1 slot) e in
    subst (λ a. child_of a slot xs ≡ None) (eqb-true q.0 parent both.0) (subst (λ b. child_of q.0 b xs ≡ None) (eqb-true q.1 slot both.1) free)

pub apart-with_item : (p : Placed) (xs : List Placed) → IfSome p.parent (λ q. child_of q.0 q.1 xs ≡ None) → AreApart xs → AreApart (with_item p xs)
apart-with_item p xs free apart parent slot = cases (fills parent slot p) refl
  where
    cases : (b : Bool) → fills parent slot p ≡ b → length (filter (fills parent slot) (with_item p xs)) ≤ 1
    cases true e =
        let none : child_of parent slot xs ≡ None = free_here parent slot xs p.parent e free in
        let one : one_if (fills parent slot p) ≡ 1 = rw e refl in
        omega (arith, filtered-with_item (fills parent slot) p xs, none_filtered (fills parent slot) xs none, one)
    cases false e =
        let no : one_if (fills parent slot p) ≡ 0 = rw e refl in
        omega (arith, filtered-with_item (fills parent slot) p xs, apart parent slot, no)

pub apart-without : (id : ℕ) (xs : List Placed) → AreApart xs → AreApart (without id xs)
apart-without id xs apart parent slot = omega (arith, filtered-without (fills parent slot) id xs, apart parent slot)

-- ---- the child in a slot is the only one there

found : (f : Placed → Bool) (p : Placed) (xs : List Placed) → find f xs ≡ Some p → Contains xs p × (f p ≡ true)
found f p [] e = absurd (let h : None ≡ Some p = e in (cc))
found f p (x ∷ xs) e = cases (f x) refl (found f p xs)
  where
    cases : (b : Bool) → f x ≡ b → (find f xs ≡ Some p → Contains xs p × (f p ≡ true)) → Contains (x ∷ xs) p × (f p ≡ true)
    cases true t more =
        let some : Some x ≡ Some p = rw t at e in
        let is : x ≡ p = cc in
        (subst (λ y. Contains (x ∷ xs) y) is (0, omega arith, refl), subst (λ y. f y ≡ true) is t)
    cases false t more =
        let rest : find f xs ≡ Some p = rw t at e in
        let later = more rest in
        (Contains-append_right (x ∷ []) xs p later.0, later.1)

counts : (f : Placed → Bool) (xs : List Placed) → All (λ y. f y ≡ true → 1 ≤ length (filter f xs)) xs
counts f [] = All-nil (λ y. f y ≡ true → 1 ≤ length (filter f []))
counts f (x ∷ xs) =
    All-cons (λ y. f y ≡ true → 1 ≤ length (filter f (x ∷ xs))) x xs
    (λ e. let one : one_if (f x) ≡ 1 = rw e refl in omega (arith, filtered f x xs, one))
    (All-weaker (λ y. f y ≡ true → 1 ≤ length (filter f xs)) (λ y. f y ≡ true → 1 ≤ length (filter f (x ∷ xs)))
    (λ y some e. omega (arith, filtered f x xs, some e)) xs (counts f xs))

sole : (f : Placed → Bool) (xs : List Placed) → length (filter f xs) ≤ 1 → All (λ y. f y ≡ true → find f xs ≡ Some y) xs
sole f [] few = All-nil (λ y. f y ≡ true → find f [] ≡ Some y)
sole f (x ∷ xs) few = All-cons (λ y. f y ≡ true → find f (x ∷ xs) ≡ Some y) x xs (λ e. rw e refl) (cases (f x) refl (sole f xs))
  where
    cases : (b : Bool) → f x ≡ b → (length (filter f xs) ≤ 1 → All (λ y. f y ≡ true → find f xs ≡ Some y) xs) → All (λ y. f y ≡ true → find f (x ∷ xs) ≡ Some y) xs
    cases true t more =
        let one : one_if (f x) ≡ 1 = rw t refl in
        All-weaker (λ y. f y ≡ true → 1 ≤ length (filter f xs)) (λ y. f y ≡ true → find f (x ∷ xs) ≡ Some y)
        (λ y some e. absurd (omega (arith, few, filtered f x xs, one, some e))) xs (counts f xs)
    cases false t more =
        let no : one_if (f x) ≡ 0 = rw t refl in
        All-weaker (λ y. f y ≡ true → find f xs ≡ Some y) (λ y. f y ≡ true → find f (x ∷ xs) ≡ Some y)
        (λ y is e. rw t (is e)) xs (more (omega (arith, few, filtered f x xs, no)))

pub place_is : (parent slot : ℕ) (place : Option (ℕ × ℕ)) → is_slot parent slot place ≡ true → place ≡ Some (parent, slot)
place_is parent slot None e = absurd (let h : false ≡ true = e in (cc))
place_is parent slot (Some q) e =
    let both = and_parts (eqb q.0 parent) (eqb q.1 slot) e in
    subst (λ a. Some q ≡ Some (a, slot)) (eqb-true q.0 parent both.0) (subst (λ b. Some q ≡ Some (q.0, b)) (eqb-true q.1 slot both.1) refl)

pub slot_is : (parent slot : ℕ) (place : Option (ℕ × ℕ)) → place ≡ Some (parent, slot) → is_slot parent slot place ≡ true
slot_is parent slot place is = rw is (and_from (eqb parent parent) (eqb slot slot) (eq-eqb parent parent refl) (eq-eqb slot slot refl))

pub only_child : (items : List Placed) → AreApart items → (parent slot : ℕ) (p : Placed) → (child_of parent slot items ≡ Some p) ↔ (Contains items p × (p.parent ≡ Some (parent, slot)))
only_child items apart parent slot p = (
  λ e. let child = found (fills parent slot) p items e in (child.0, place_is parent slot p.parent child.1),
  λ here. All-contains (λ y. fills parent slot y ≡ true → child_of parent slot items ≡ Some y) items p (sole (fills parent slot) items (apart parent slot)) here.0 (slot_is parent slot p.parent here.1),
)
