-- Where a list that passes a test up to a place is cut by `partition_point`.
use Rattle.std.proofs.Common.{◌≡◌, ℕ, zero, suc, ◌<◌, ◌≤◌, Bool, true, false, List, [], ◌∷◌, length, get_or, take, drop, refl, ap, sym, ◌∙◌, subst, arith}
use Rattle.std.specs.List.Sorted.{IsPartitionedBy, IsPartitionPoint}
use Rattle.std.proofs.lemmas.Bool.{false≢true}
use Rattle.pl_lists.specs.Lists.{front, back}

-- none passes
abbrev pub NonePass : {T : Type 0} → (T → Bool) → List T → Type 0
NonePass p [] = Unit {0}
NonePass p (x ∷ xs) = (p x ≡ false) × NonePass p xs

-- behind one that fails, none passes
abbrev pub IsParted : {T : Type 0} → (T → Bool) → List T → Type 0
IsParted p [] = Unit {0}
IsParted p (x ∷ xs) = (p x ≡ false → NonePass p xs) × IsParted p xs

none_at : {T : Type 0} (p : T → Bool) (xs : List T) (j : ℕ) (d : T) → NonePass p xs → j < length xs → p (get_or xs j d) ≡ false
none_at p [] j d none lt = absurd (omega (arith, lt))
none_at p (x ∷ xs) zero d none lt = none.0
none_at p (x ∷ xs) (suc j) d none lt = none_at p xs j d none.1 (omega (arith, lt))

pub parted_by : {T : Type 0} (p : T → Bool) (xs : List T) → IsParted p xs → IsPartitionedBy p xs
parted_by p [] parted i j d le lt passes = absurd (omega (arith, lt))
parted_by p (x ∷ xs) parted zero zero d le lt passes = passes
parted_by p (x ∷ xs) parted zero (suc j) d le lt passes = head (p x) refl
  where
    head : (b : Bool) → p x ≡ b → p x ≡ true
    head true e = e
    head false e = absurd (false≢true (sym (none_at p xs j d (parted.0 e) (omega (arith, lt))) ∙ passes))
parted_by p (x ∷ xs) parted (suc i) zero d le lt passes = absurd (omega (arith, le))
parted_by p (x ∷ xs) parted (suc i) (suc j) d le lt passes = parted_by p xs parted.1 i j d (omega (arith, le)) (omega (arith, lt)) passes

pub cut : {T : Type 0} (p : T → Bool) (xs : List T) (i : ℕ) → i ≤ length xs → IsPartitionPoint (λ y. p y ≡ true) (λ y. p y ≡ false) xs i → (take i xs ≡ front p xs) × (drop i xs ≡ back p xs)
cut p [] zero le point = (refl, refl)
cut p [] (suc i) le point = (refl, refl)
cut p (x ∷ xs) zero le point =
    let fails : p x ≡ false = point.1 0 x (omega arith) (omega arith) in
    (rw fails refl, rw fails refl)
cut p (x ∷ xs) (suc i) le point =
    let passes : p x ≡ true = point.0 0 x (omega arith) (omega arith) in
    let more : (take i xs ≡ front p xs) × (drop i xs ≡ back p xs) =
    cut p xs i (omega (arith, le)) ((λ k d low high. point.0 (suc k) d (omega arith) (omega (arith, high))), (λ k d low high. point.1 (suc k) d (omega (arith, low)) (omega (arith, high)))) in
    (rw passes (ap (λ l. x ∷ l) more.0), rw passes more.1)

-- the front and the back that the place found gives
pub parting : {T : Type 0} (p : T → Bool) (xs : List T) (i : ℕ) → i ≤ length xs → IsParted p xs → (IsPartitionedBy p xs → IsPartitionPoint (λ y. p y ≡ true) (λ y. p y ≡ false) xs i) → (take i xs ≡ front p xs) × (drop i xs ≡ back p xs)
parting p xs i le parted point = cut p xs i le (point (parted_by p xs parted))

-- the first behind the front fails
pub back_fails : {T : Type 0} (p : T → Bool) (xs : List T) (q : T) (more : List T) → back p xs ≡ q ∷ more → p q ≡ false
back_fails p [] q more e = absurd (cc)
back_fails p (x ∷ xs) q more e = cases (p x) refl (back_fails p xs q more)
  where
    first : x ∷ xs ≡ q ∷ more → x ≡ q
    first h = cc

    cases : (b : Bool) → p x ≡ b → (back p xs ≡ q ∷ more → p q ≡ false) → p q ≡ false
    cases true f more_fails = more_fails (sym (rw f refl) ∙ e)
    cases false f more_fails = subst (λ y. p y ≡ false) (first (sym (rw f refl) ∙ e)) f

pub drop_next : {T : Type 0} (xs : List T) (i : ℕ) (d : T) → i < length xs → drop i xs ≡ get_or xs i d ∷ drop (suc i) xs
drop_next [] i d lt = absurd (omega (arith, lt))
drop_next (x ∷ xs) zero d lt = refl
drop_next (x ∷ xs) (suc i) d lt = drop_next xs i d (omega (arith, lt))

-- Up to one that passes, where the next one fails, stand those that pass.
pub last_passing : {T : Type 0} (p : T → Bool) (i : ℕ) (d : T) (xs : List T) → IsParted p xs → i < length xs → p (get_or xs i d) ≡ true → (suc i < length xs → p (get_or xs (suc i) d) ≡ false)
    → (take (suc i) xs ≡ front p xs) × (drop (suc i) xs ≡ back p xs)
last_passing p i d [] parted lt passes fails = absurd (omega (arith, lt))
last_passing p zero d (x ∷ []) parted lt passes fails = (rw passes refl, rw passes refl)
last_passing p zero d (x ∷ y ∷ xs) parted lt passes fails =
    let next : p y ≡ false = fails (omega arith) in
    (rw passes (rw next refl), rw passes (rw next refl))
last_passing p (suc i) d (x ∷ xs) parted lt passes fails =
    let first : p x ≡ true = parted_by p (x ∷ xs) parted 0 (suc i) d (omega arith) lt passes in
    let more = last_passing p i d xs parted.1 (omega (arith, lt)) passes (λ h. fails (omega (arith, h))) in
    (rw first (ap (λ l. x ∷ l) more.0), rw first more.1)
