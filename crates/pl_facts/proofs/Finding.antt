-- The place and the item that a test finds in a list, also after a push and a write.
use Rattle.std.proofs.Common.{◌≡◌, ℕ, ◌+◌, ◌<◌, ◌≤◌, Bool, true, false, not, List, [], ◌∷◌, ◌++◌, length, get_or, set, refl, sym, ◌∙◌, arith, add-zero, zero, suc, ◌⊎◌, inl, inr, ⊎_elim}
use Rattle.std.specs.Prelude.{Option, Some, None, slice_get, position, find, nat_lt, IsSome}
use Rattle.std.specs.List.{position_or_len}
use Rattle.std.proofs.lemmas.Bool.{cond_both, ltb-false, ltb-true, lt-ltb, le-ltb, eq-eqb, ne_eqb, not-true, cases_lt}
use Rattle.std.proofs.lemmas.List.{length_push, length-set}
use Rattle.std.proofs.lemmas.List.Folds.{find_at, position_or_len-set, position_or_len_push}
use Rattle.std.proofs.lemmas.List.Sums.{prefix_len_passes, prefix_len-le-length}
use Rattle.std.proofs.lemmas.Option.{slice_get-get_or, slice_get_past, slice_get_cases}

pub none_or_some : {X : Type 0} (o : Option X) → (o ≡ None) ⊎ IsSome o
none_or_some None = inl refl
none_or_some (Some x) = inr refl

-- where nothing is found, no item passes
pub long : {X : Type 0} (p : X → Bool) (xs : List X) → position p xs ≡ None → length xs ≤ position_or_len p xs
long p xs e = cond_both (nat_lt (position_or_len p xs) (length xs)) (Some (position_or_len p xs)) None (λ o. o ≡ None → length xs ≤ position_or_len p xs) (λ t h. absurd (cc)) (λ f h. ltb-false _ _ f) e

-- what is found has a place in the list
pub within_list : {X : Type 0} (p : X → Bool) (xs : List X) (i : ℕ) → position p xs ≡ Some i → i < length xs
within_list p xs i e = cond_both (nat_lt (position_or_len p xs) (length xs)) (Some (position_or_len p xs)) None (λ o. o ≡ Some i → i < length xs)
    (λ t h. let same : position_or_len p xs ≡ i = cc in let below : position_or_len p xs < length xs = ltb-true _ _ t in omega (arith, same, below)) (λ f h. absurd (cc)) e

pub none_passes : {X : Type 0} (p : X → Bool) (xs : List X) → position p xs ≡ None → (k : ℕ) (d : X) → k < length xs → p (get_or xs k d) ≡ false
none_passes p xs e k d h =
    let all : length xs ≤ position_or_len p xs = long p xs e in
    not-true _ (prefix_len_passes (λ x. not (p x)) xs k d (omega arith))

pub find-None : {X : Type 0} (p : X → Bool) (xs : List X) → position p xs ≡ None → find p xs ≡ None
find-None p xs e = find_at p xs ∙ slice_get_past xs (position_or_len p xs) (long p xs e)

pub find-Some : {X : Type 0} (p : X → Bool) (xs : List X) (i : ℕ) (d : X) → position p xs ≡ Some i → find p xs ≡ Some (get_or xs i d)
find-Some p xs i d e = cond_both (nat_lt (position_or_len p xs) (length xs)) (Some (position_or_len p xs)) None (λ o. o ≡ Some i → find p xs ≡ Some (get_or xs i d))
    (λ t h. let same : position_or_len p xs ≡ i = cc in rw (find_at p xs, same) (slice_get-get_or xs i d (let below : position_or_len p xs < length xs = ltb-true _ _ t in omega arith))) (λ f h. absurd (cc)) e

pub find_fails : {X : Type 0} (p : X → Bool) (xs : List X) → ((k : ℕ) (d : X) → k < length xs → p (get_or xs k d) ≡ false) → find p xs ≡ None
find_fails p [] fails = refl
find_fails p (x ∷ xs) fails = rw (fails zero x (omega arith)) (find_fails p xs (λ k d h. fails (suc k) d (omega arith)))

pub position-None : {X : Type 0} (p : X → Bool) (xs : List X) → find p xs ≡ None → position p xs ≡ None
position-None {X} p xs e =
    let missing : slice_get xs (position_or_len p xs) ≡ None = sym (find_at p xs) ∙ e in
    let past : length xs ≤ position_or_len p xs = ⊎_elim (λ w. absurd (cc (missing, w.2))) (λ w. w.0) (slice_get_cases xs (position_or_len p xs)).1 in
    rw (le-ltb _ _ past) refl

pub position-push_here : {X : Type 0} (p : X → Bool) (xs : List X) (x : X) → position p xs ≡ None → p x ≡ true → position p (xs ++ x ∷ []) ≡ Some (length xs)
position-push_here p xs x e t =
    let most : position_or_len p xs ≤ length xs = prefix_len-le-length (λ x. not (p x)) xs in
    let least : length xs ≤ position_or_len p xs = long p xs e in
    let same : position_or_len p xs ≡ length xs = omega arith in
    let within : length xs + 0 < length xs + 1 = omega arith in
    rw (position_or_len_push p xs x, length_push xs x, eq-eqb _ _ same, t, lt-ltb _ _ within, add-zero) refl

pub position-push_past : {X : Type 0} (p : X → Bool) (xs : List X) (x : X) → p x ≡ false → position p (xs ++ x ∷ []) ≡ position p xs
position-push_past p xs x f =
    rw (position_or_len_push p xs x, length_push xs x) (⊎_elim
    (λ (lt : position_or_len p xs < length xs). let less : position_or_len p xs < length xs + 1 = omega arith in rw (ne_eqb (position_or_len p xs) (length xs) (λ same. omega arith), lt-ltb _ _ less, lt-ltb _ _ lt) refl)
    (λ (ge : length xs ≤ position_or_len p xs).
    let most : position_or_len p xs ≤ length xs = prefix_len-le-length (λ x. not (p x)) xs in
    let same : position_or_len p xs ≡ length xs = omega arith in
    rw (eq-eqb _ _ same, f, le-ltb _ _ ge, le-ltb (length xs + 1) (length xs + 1) (omega arith)) refl)
    (cases_lt (position_or_len p xs) (length xs)))

pub position-set : {X : Type 0} (p : X → Bool) (xs : List X) (i : ℕ) (x d : X) → p x ≡ p (get_or xs i d) → position p (set xs i x) ≡ position p xs
position-set p xs i x d same = rw (position_or_len-set p xs i x d same, length-set) refl
