-- What stands in lists that are made of lists, and at numbered places.
use Rattle.std.proofs.Common.{◌≡◌, ℕ, zero, suc, ◌+◌, ◌<◌, ◌≤◌, List, [], ◌∷◌, ◌++◌, append_assoc, length, drop, get_or, Option, Some, None, true, refl, sym, ap, ◌∙◌, subst, arith}
use Rattle.std.specs.Prelude.{All, Contains, Bool, filter, find, position, IfSome}
use Rattle.std.specs.List.{flat_map}
use Rattle.std.proofs.lemmas.Bool.{cond_both}
use Rattle.std.proofs.lemmas.List.{drop_more}
use Rattle.std.proofs.lemmas.List.Elements.{All-nil, All-cons, All-head, All-tail, Contains-append_left, Contains-append_right}
use Rattle.std.proofs.lemmas.List.Quantifiers.{position-Some}
use Rattle.pl_semantics.specs.PlanStates.{numbered}

pub contains_flat : {X U : Type 0} (f : X → List U) (xs : List X) (x : X) (y : U) → Contains xs x → Contains (f x) y → Contains (flat_map f xs) y
contains_flat f [] x y (k, h, e) held = absurd (omega arith)
contains_flat f (z ∷ xs) x y (zero, h, e) held = Contains-append_left (f z) (flat_map f xs) y (subst (λ w. Contains (f w) y) (sym e) held)
contains_flat f (z ∷ xs) x y (suc k, h, e) held = Contains-append_right (f z) (flat_map f xs) y (contains_flat f xs x y (k, omega arith, e) held)

pub contains_numbered : {T : Type 0} (n : ℕ) (xs : List T) (k m : ℕ) (d : T) → k < length xs → m ≡ n + k → Contains (numbered n xs) (m, get_or xs k d)
contains_numbered n [] k m d h e = absurd (omega arith)
contains_numbered n (x ∷ xs) zero m d h e = let same : n ≡ m = omega arith in (zero, omega arith, ap (λ i. (i, x)) same)
contains_numbered n (x ∷ xs) (suc k) m d h e =
    let rest = contains_numbered (suc n) xs k m d (omega arith) (omega arith) in
    (suc rest.0, omega (arith, rest.1), rest.2)

-- what holds of all holds of them with their numbers, which lie below an end
pub all_numbered : {T : Type 0} (P : T → Type 0) (n end : ℕ) (xs : List T) → n + length xs ≤ end → All P xs → All (λ x. (x.0 < end) × P x.1) (numbered n xs)
all_numbered P n end [] few all = All-nil (λ x. (x.0 < end) × P x.1)
all_numbered P n end (x ∷ xs) few all =
    All-cons (λ y. (y.0 < end) × P y.1) (n, x) (numbered (suc n) xs)
    (omega arith, All-head P x xs all)
    (all_numbered P (suc n) end xs (omega arith) (All-tail P x xs all))

-- what holds of those that pass a test
pub all_passing : {X : Type 0} (P : X → Type 0) (p : X → Bool) (xs : List X) → All (λ x. p x ≡ true → P x) xs → All P (filter p xs)
all_passing P p [] all = All-nil P
all_passing P p (x ∷ xs) all =
    let rest = all_passing P p xs (All-tail (λ y. p y ≡ true → P y) x xs all) in
    cond_both (p x) (x ∷ filter p xs) (filter p xs) (λ ys. All P ys)
    (λ passes. All-cons P x (filter p xs) (All-head (λ y. p y ≡ true → P y) x xs all passes) rest)
    (λ fails. rest)

pub length-passing : {X : Type 0} (p : X → Bool) (xs : List X) → length (filter p xs) ≤ length xs
length-passing p [] = omega arith
length-passing p (x ∷ xs) =
    let rest = length-passing p xs in
    cond_both (p x) (x ∷ filter p xs) (filter p xs) (λ ys. length ys ≤ length (x ∷ xs)) (λ passes. omega arith) (λ fails. omega arith)

pub all_find : {X : Type 0} (P : X → Type 0) (p : X → Bool) (xs : List X) (x : X) → All P xs → find p xs ≡ Some x → P x
all_find P p [] x all = λ e. absurd (cc)
all_find P p (y ∷ xs) x all =
    cond_both (p y) (Some y) (find p xs) (λ o. o ≡ Some x → P x)
    (λ passes e. let same : y ≡ x = cc in subst P same (All-head P y xs all))
    (λ fails e. all_find P p xs x (All-tail P y xs all) e)

pub position_within : {X : Type 0} (p : X → Bool) (xs : List X) → IfSome (position p xs) (λ k. k < length xs)
position_within p [] = tt
position_within p (x ∷ xs) = within (position p (x ∷ xs)) refl
  where
    within : (o : Option ℕ) → position p (x ∷ xs) ≡ o → IfSome o (λ k. k < length (x ∷ xs))
    within None e = tt
    within (Some k) e = (position-Some p (x ∷ xs) k x e).0

-- one more of them is made into a list and appended
pub pushed_more : {X U : Type 0} (f : X → List U) (xs : List X) (i : ℕ) (d : X) (old new whole : List U) → i < length xs → new ≡ old ++ f (get_or xs i d) → old ++ flat_map f (drop i xs) ≡ whole → new ++ flat_map f (drop (i + 1) xs) ≡ whole
pushed_more f xs i d old new whole lt more is =
    let one : old ++ flat_map f (get_or xs i d ∷ drop (i + 1) xs) ≡ whole = subst (λ ys. old ++ flat_map f ys ≡ whole) (drop_more xs i d lt) is in
    ap (λ ys. ys ++ flat_map f (drop (i + 1) xs)) more ∙ append_assoc old (f (get_or xs i d)) (flat_map f (drop (i + 1) xs)) ∙ one
