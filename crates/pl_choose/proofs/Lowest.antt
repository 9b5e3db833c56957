-- The first of some elements with the lowest number.
use Rattle.std.proofs.Common.{◌≡◌, ℕ, ◌≤◌, ◌<◌, Bool, true, false, cond, List, [], ◌∷◌, refl, sym, ◌∙◌, arith}
use Rattle.std.specs.Prelude.{find, nat_le, nat_lt, ◌&&◌, Option, Some}
use Rattle.std.specs.List.{list_all}
use Rattle.std.proofs.lemmas.Bool.{ltb-true, ltb-false, leb-true, le-leb, lt-leb, and_parts}
use Rattle.std.proofs.Math.Bool.{and-false}
use Rattle.pl_choose.specs.Found.{lowest}

-- its number is no higher than any of theirs
abbrev pub is_lowest : {X : Type 0} → (X → ℕ) → List X → X → Bool
is_lowest f xs x = list_all (λ y. nat_le (f x) (f y)) xs

find_same : {X : Type 0} (p q : X → Bool) → ((x : X) → p x ≡ q x) → (xs : List X) → find p xs ≡ find q xs
find_same p q same [] = refl
find_same p q same (x ∷ more) = rw (same x, find_same p q same more) refl

-- no higher than both is no higher than the lower
under_second : (a m n : ℕ) (r : Bool) → n < m → (nat_le a m && (nat_le a n && r)) ≡ (nat_le a n && r)
under_second a m n r lt = cases (nat_le a n) refl
  where
    cases : (b : Bool) → nat_le a n ≡ b → (nat_le a m && (b && r)) ≡ (b && r)
    cases true e = let le : a ≤ n = leb-true a n e in let up : nat_le a m ≡ true = le-leb a m (omega arith) in rw up refl
    cases false e = and-false (nat_le a m)

under_first : (a m n : ℕ) (r : Bool) → m ≤ n → (nat_le a m && (nat_le a n && r)) ≡ (nat_le a m && r)
under_first a m n r le = cases (nat_le a m) refl
  where
    cases : (b : Bool) → nat_le a m ≡ b → (b && (nat_le a n && r)) ≡ (b && r)
    cases true e = let low : a ≤ m = leb-true a m e in let up : nat_le a n ≡ true = le-leb a n (omega arith) in rw up refl
    cases false e = refl

-- what is lower than one is no higher than all that this one is no higher than
higher_step : (m n k : ℕ) (a b : Bool) → m ≤ n → (a ≡ true → b ≡ true) → (nat_le n k && a) ≡ true → (nat_le m k && b) ≡ true
higher_step m n k a b le so e =
    let parts : (nat_le n k ≡ true) × (a ≡ true) = and_parts (nat_le n k) a e in
    let below : n ≤ k = leb-true n k parts.0 in
    let up : nat_le m k ≡ true = le-leb m k (omega arith) in
    rw (up, so parts.1) refl

all_higher : {X : Type 0} (f : X → ℕ) (x y : X) (more : List X) → f x ≤ f y → list_all (λ z. nat_le (f y) (f z)) more ≡ true → list_all (λ z. nat_le (f x) (f z)) more ≡ true
all_higher f x y [] le e = refl
all_higher f x y (z ∷ more) le e = higher_step (f x) (f y) (f z) (list_all (λ w. nat_le (f y) (f w)) more) (list_all (λ w. nat_le (f x) (f w)) more) le (λ h. all_higher f x y more le h) e

level_if : (m n : ℕ) (a b : Bool) → (a ≡ true → b ≡ true) → b ≡ false → (nat_le n m && a) ≡ false
level_if m n true b so e = absurd (let h : b ≡ true = so refl in cc)
level_if m n false b so e = and-false (nat_le n m)

is_level : (n : ℕ) (r : Bool) → (nat_le n n && r) ≡ r
is_level n r = let e : nat_le n n ≡ true = le-leb n n (omega arith) in rw e refl

-- the second is not found where the first is not
skipped : {X : Type 0} (x : X) (q r : Bool) (o : Option X) (w : Option X) → (q ≡ false → r ≡ false) → cond q (Some x) (cond r w o) ≡ cond q (Some x) o
skipped x true r o w so = refl
skipped x false r o w so = rw (so refl) refl

step : {X : Type 0} (f : X → ℕ) (x y : X) (more : List X) (b : Bool) → nat_lt (f y) (f x) ≡ b → find (is_lowest f (y ∷ more)) (y ∷ more) ≡ Some (lowest f y more) → find (is_lowest f (x ∷ more)) (x ∷ more) ≡ Some (lowest f x more) → find (is_lowest f (x ∷ y ∷ more)) (x ∷ y ∷ more) ≡ Some (lowest f (cond b y x) more)
step f x y more true e second first =
    let lt : f y < f x = ltb-true (f y) (f x) e in
    let above : nat_le (f x) (f y) ≡ false = lt-leb (f x) (f y) lt in
    find_same (is_lowest f (x ∷ y ∷ more)) (is_lowest f (y ∷ more)) (λ a. under_second (f a) (f x) (f y) (list_all (λ z. nat_le (f a) (f z)) more) lt) (x ∷ y ∷ more)
    ∙ (rw above second)
step f x y more false e second first =
    let le : f x ≤ f y = ltb-false (f y) (f x) e in
    find_same (is_lowest f (x ∷ y ∷ more)) (is_lowest f (x ∷ more)) (λ a. under_first (f a) (f x) (f y) (list_all (λ z. nat_le (f a) (f z)) more) le) (x ∷ y ∷ more)
    ∙ skipped x (is_lowest f (x ∷ more) x) (is_lowest f (x ∷ more) y) (find (is_lowest f (x ∷ more)) more) (Some y)
    (λ h. level_if (f x) (f y) (list_all (λ z. nat_le (f y) (f z)) more) (list_all (λ z. nat_le (f x) (f z)) more) (all_higher f x y more le) (sym (is_level (f x) (list_all (λ z. nat_le (f x) (f z)) more)) ∙ h))
    ∙ first

pub first_lowest : {X : Type 0} (f : X → ℕ) (x : X) (xs : List X) → find (is_lowest f (x ∷ xs)) (x ∷ xs) ≡ Some (lowest f x xs)
first_lowest f x [] = let e : nat_le (f x) (f x) ≡ true = le-leb (f x) (f x) (omega arith) in rw e refl
first_lowest f x (y ∷ more) = step f x y more (nat_lt (f y) (f x)) refl (first_lowest f y more) (first_lowest f x more)
