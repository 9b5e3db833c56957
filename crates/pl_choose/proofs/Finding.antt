-- What a search finds.
use Rattle.std.proofs.Common.{◌≡◌, ℕ, suc, ◌+◌, ◌<◌, Bool, true, false, cond, List, [], ◌∷◌, ◌++◌, length, get_or, take, drop, refl, sym, subst, ap, ◌∙◌, append_assoc, append-nil, arith}
use Rattle.std.specs.Prelude.{find, filter, Contains, ◌||◌, ◌==◌, ◌%◌, not, is_some, Option, Some, None, slice_get}
use Rattle.std.specs.List.{list_any}
use Rattle.std.proofs.lemmas.Grind.{common_steps}
use Rattle.std.proofs.lemmas.Bool.Decides.{nat_tests}
use Rattle.std.proofs.lemmas.Option.{slice_get-get_or, slice_get_within, get_or_from_slice_get}
use Rattle.std.proofs.lemmas.List.{take-append-drop}
use Rattle.std.proofs.lemmas.List.Elements.{filter-append}

pub get_contains : {X : Type 0} (xs : List X) (i : ℕ) (x : X) → slice_get xs i ≡ Some x → Contains xs x
get_contains xs i x e = (i, slice_get_within xs i x e, get_or_from_slice_get xs i x x e)

-- the first that passes is the first of those that pass
pub find_is : {X : Type 0} (p : X → Bool) (xs : List X) → find p xs ≡ slice_get (filter p xs) 0
find_is p [] = refl
find_is p (x ∷ more) = by_test p x more (p x) (find_is p more)
  where
    by_test : {X : Type 0} (p : X → Bool) (x : X) (more : List X) (b : Bool) → find p more ≡ slice_get (filter p more) 0 → cond b (Some x) (find p more) ≡ slice_get (cond b (x ∷ filter p more) (filter p more)) 0
    by_test p x more true e = refl
    by_test p x more false e = e

-- some pass exactly where some are left of those that pass
pub any_is : {X : Type 0} (p : X → Bool) (xs : List X) → list_any p xs ≡ not (length (filter p xs) == 0)
any_is p [] = refl
any_is p (x ∷ more) = by_test x (filter p more) (list_any p more) (p x) (any_is p more)
  where
    by_test : {X : Type 0} (x : X) (ys : List X) (rest : Bool) (b : Bool) → rest ≡ not (length ys == 0) → (b || rest) ≡ not (length (cond b (x ∷ ys) ys) == 0)
    by_test x ys rest true e = grind (arith, nat_tests)
    by_test x ys rest false e = e

-- some pass exactly where one is found
pub any_find : {X : Type 0} (p : X → Bool) (xs : List X) → list_any p xs ≡ is_some (find p xs)
any_find p [] = refl
any_find p (x ∷ more) = by_test x (find p more) (list_any p more) (p x) (any_find p more)
  where
    by_test : {X : Type 0} (x : X) (o : Option X) (rest : Bool) (b : Bool) → rest ≡ is_some o → (b || rest) ≡ is_some (cond b (Some x) o)
    by_test x o rest true e = refl
    by_test x o rest false e = e

-- one that is found
pub find_passing : {X : Type 0} (p : X → Bool) (xs : List X) (x : X) → find p xs ≡ Some x → Contains (filter p xs) x
find_passing p xs x e = get_contains (filter p xs) 0 x (sym (find_is p xs) ∙ e)

-- a number picks one of some, where there is one
pub picked_some : {X : Type 0} (n : ℕ) (x : X) (xs : List X) → (y : X) × (slice_get (x ∷ xs) (n % length (x ∷ xs)) ≡ Some y)
picked_some n x xs =
    let within : n % length (x ∷ xs) < length (x ∷ xs) = grind (arith, common_steps) in
    (get_or (x ∷ xs) (n % length (x ∷ xs)) x, slice_get-get_or (x ∷ xs) (n % length (x ∷ xs)) x within)

-- ---- steps of a walk over a list

pub find_step : {X : Type 0} (p : X → Bool) (xs ys : List X) (x : X) (w : Option X) → xs ≡ x ∷ ys → p x ≡ false → find p xs ≡ w → find p ys ≡ w
find_step {X = X} p xs ys x w is fails e =
    let P : List X → Type 0 = λ zs. find p zs ≡ w in
    rw fails at (subst P is e)

pub find_here : {X : Type 0} (p : X → Bool) (xs ys : List X) (x : X) (w : Option X) → xs ≡ x ∷ ys → p x ≡ true → find p xs ≡ w → w ≡ Some x
find_here {X = X} p xs ys x w is passes e =
    let P : List X → Type 0 = λ zs. find p zs ≡ w in
    sym (rw passes at (subst P is e))

pub find_end : {X : Type 0} (p : X → Bool) (xs : List X) (w : Option X) → xs ≡ [] → find p xs ≡ w → w ≡ None
find_end {X = X} p xs w is e =
    let P : List X → Type 0 = λ zs. find p zs ≡ w in
    sym (subst P is e)

pub filter_step : {X : Type 0} (p : X → Bool) (xs ys kept more : List X) (x : X) (w : List X) → xs ≡ x ∷ ys → more ≡ kept ++ filter p (x ∷ []) → kept ++ filter p xs ≡ w → more ++ filter p ys ≡ w
filter_step {X = X} p xs ys kept more x w is grown e =
    let P : List X → Type 0 = λ zs. kept ++ filter p zs ≡ w in
    let whole : kept ++ filter p (x ∷ ys) ≡ w = subst P is e in
    rw (grown, append_assoc) (ap (λ zs. kept ++ zs) (sym (filter-append p (x ∷ []) ys)) ∙ whole)

pub filter_end : {X : Type 0} (p : X → Bool) (xs kept : List X) (w : List X) → xs ≡ [] → kept ++ filter p xs ≡ w → kept ≡ w
filter_end {X = X} p xs kept w is e =
    let P : List X → Type 0 = λ zs. kept ++ filter p zs ≡ w in
    sym (append-nil kept) ∙ subst P is e

-- so many of them at once
pub run_step : {X : Type 0} (p : X → Bool) (xs kept more : List X) (n : ℕ) (w : List X) → more ≡ kept ++ filter p (take n xs) → kept ++ filter p xs ≡ w → more ++ filter p (drop n xs) ≡ w
run_step {X = X} p xs kept more n w grown e =
    rw (grown, append_assoc) (ap (λ (zs : List X). kept ++ zs) (sym (filter-append p (take n xs) (drop n xs)) ∙ ap (filter p) (take-append-drop n xs)) ∙ e)

-- the first, and so many behind it
pub run_kept : {X : Type 0} (p : X → Bool) (xs kept more all : List X) (x : X) (n : ℕ) → 0 < length xs → more ≡ kept ++ filter p (get_or xs 0 x ∷ []) → all ≡ more ++ filter p (take n (drop 1 xs)) → all ≡ kept ++ filter p (take (n + 1) xs)
run_kept p [] kept more all x n some one rest = absurd (omega (arith, some))
run_kept {X = X} p (y ∷ ys) kept more all x n some one rest =
    let on : suc n ≡ n + 1 = omega arith in
    rest ∙ ap (λ (zs : List X). zs ++ filter p (take n ys)) one ∙ append_assoc kept (filter p (y ∷ [])) (filter p (take n ys))
    ∙ ap (λ (zs : List X). kept ++ zs) (sym (filter-append p (y ∷ []) (take n ys))) ∙ ap (λ (k : ℕ). kept ++ filter p (take k (y ∷ ys))) on

-- ---- the first of those that pass

abbrev pub HasFirst : {X : Type 0} → List X → Type 0
HasFirst {X = X} ys = (x : X) × (more : List X) × (ys ≡ x ∷ more)

pub nonempty : {X : Type 0} (p : X → Bool) (xs : List X) → list_any p xs ≡ true → HasFirst (filter p xs)
nonempty p [] e = absurd (cc)
nonempty p (x ∷ more) e = by_test x (filter p more) (list_any p more) (p x) (λ h. nonempty p more h) e
  where
    by_test : {X : Type 0} (x : X) (ys : List X) (rest : Bool) (b : Bool) → (rest ≡ true → HasFirst ys) → (b || rest) ≡ true → HasFirst (cond b (x ∷ ys) ys)
    by_test x ys rest true so h = (x, ys, refl)
    by_test x ys rest false so h = so h
