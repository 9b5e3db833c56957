-- Starts that are in order already: to put each in its place changes nothing.
use Rattle.std.proofs.Common.{◌≡◌, ℕ, suc, ◌+◌, ◌-◌, ◌<◌, List, [], ◌∷◌, ◌++◌, length, get_or, take, drop, refl, sym, ◌∙◌, ap, subst, arith, append-nil, add-one}
use Rattle.std.specs.List.{AllByRecursion}
use Rattle.std.specs.List.Sorted.{IsStrictlySortedBy}
use Rattle.std.specs.declared.cmp.Ordering.TheVariants.{Less, Greater}
use Rattle.std.specs.Ordering.{ordering_reverse}
use Rattle.std.specs.Cmp.{IsTotalOrder, then_total, on_total, nat_cmp_total}
use Rattle.std.specs.BTreeSet.{insert_key}
use Rattle.std.proofs.lemmas.List.{append_assoc, length-take, get_or-take, get_or_default, take_more}
use Rattle.pl_points.proofs.Parting.{drop_next}
use Rattle.pl_entry.specs.Due.{start_cmp, with_starts}

abbrev Start : Type 0
Start = ℕ × ℕ

start_total : IsTotalOrder start_cmp
start_total = then_total (on_total (λ (s : Start). s.0) nat_cmp_total) (on_total (λ (s : Start). s.1) nat_cmp_total)

above : (x y : Start) → start_cmp y x ≡ Less → start_cmp x y ≡ Greater
above x y e = start_total.antisymm x y ∙ ap ordering_reverse e

all_last : (P : Start → Type 0) (xs ys : List Start) (x : Start) → AllByRecursion P (xs ++ x ∷ ys) → P x
all_last P [] ys x all = all.0
all_last P (y ∷ xs) ys x all = all_last P xs ys x all.1

insert_last : (x : Start) (xs ys : List Start) → IsStrictlySortedBy start_cmp (xs ++ x ∷ ys) → insert_key start_cmp xs x ≡ xs ++ x ∷ []
unfolding IsStrictlySortedBy
insert_last x [] ys sorted = refl
insert_last x (y ∷ xs) ys sorted =
    let e : start_cmp x y ≡ Greater = above x y (all_last (λ z. start_cmp y z ≡ Less) xs ys x sorted.0) in
    rw e (ap (λ l. y ∷ l) (insert_last x xs ys sorted.1))

adds_sorted : (done xs : List Start) → IsStrictlySortedBy start_cmp (done ++ xs) → with_starts done xs ≡ done ++ xs
adds_sorted done [] sorted = sym (append-nil done)
adds_sorted done (x ∷ xs) sorted =
    let on : (done ++ x ∷ []) ++ xs ≡ done ++ x ∷ xs = append_assoc done (x ∷ []) xs in
    ap (λ l. with_starts l xs) (insert_last x done xs sorted) ∙ adds_sorted (done ++ x ∷ []) xs (subst (IsStrictlySortedBy start_cmp) (sym on) sorted) ∙ on

pub sorted_starts : (xs : List Start) → IsStrictlySortedBy start_cmp xs → with_starts [] xs ≡ xs
sorted_starts xs sorted = adds_sorted [] xs sorted

-- ---- one more at the end

all_more : (P : Start → Type 0) (xs : List Start) (x : Start) → AllByRecursion P xs → P x → AllByRecursion P (xs ++ x ∷ [])
all_more P [] x all one = (one, tt)
all_more P (y ∷ xs) x all one = (all.0, all_more P xs x all.1 one)

pub sorted_more : (xs : List Start) (x : Start) → IsStrictlySortedBy start_cmp xs → ((d : Start) → 0 < length xs → start_cmp (get_or xs (length xs - 1) d) x ≡ Less) → IsStrictlySortedBy start_cmp (xs ++ x ∷ [])
unfolding IsStrictlySortedBy
sorted_more [] x sorted last = (tt, tt)
sorted_more (y ∷ []) x sorted last = ((last y (omega arith), tt), (tt, tt))
sorted_more (y ∷ z ∷ xs) x sorted last =
    let rest = sorted_more (z ∷ xs) x sorted.1 (λ d lt. let at : length (y ∷ z ∷ xs) - 1 ≡ suc (length (z ∷ xs) - 1) = omega arith in subst (λ n. start_cmp (get_or (y ∷ z ∷ xs) n d) x ≡ Less) at (last d (omega arith))) in
    let low : start_cmp z x ≡ Less = by xs rest in
    (all_more (λ k. start_cmp y k ≡ Less) (z ∷ xs) x sorted.0 (start_total.trans y z x sorted.0.0 low), rest)
  where
    by : (ys : List Start) → IsStrictlySortedBy start_cmp (z ∷ ys ++ x ∷ []) → start_cmp z x ≡ Less
    by ys s = all_last (λ k. start_cmp z k ≡ Less) ys [] x s.0

pub sorted_none : IsStrictlySortedBy start_cmp []
unfolding IsStrictlySortedBy
sorted_none = tt

pub sorted_next : (xs : List Start) (k : ℕ) → k < length xs → IsStrictlySortedBy start_cmp (take k xs) → (0 < k → (d : Start) → start_cmp (get_or xs (k - 1) d) (get_or xs k d) ≡ Less) → IsStrictlySortedBy start_cmp (take (k + 1) xs)
sorted_next xs k lt sorted behind = subst (IsStrictlySortedBy start_cmp) (sym (take_more xs k (0, 0) lt)) (sorted_more (take k xs) (get_or xs k (0, 0)) sorted last)
  where
    last : (d : Start) → 0 < length (take k xs) → start_cmp (get_or (take k xs) (length (take k xs) - 1) d) (get_or xs k (0, 0)) ≡ Less
    last d some =
        let long : length (take k xs) ≡ k = omega (arith, lt, length-take k xs) in
        let place = ap (λ n. get_or (take k xs) (n - 1) d) long in
        let within = get_or-take k xs (k - 1) d (omega (arith, some, long)) in
        let same = get_or_default xs k d (0, 0) lt in
        rw (place, within) (subst (λ y. start_cmp (get_or xs (k - 1) d) y ≡ Less) same (behind (omega (arith, some, long)) d))

-- one start after the other
pub next_starts : (keys xs : List Start) (k : ℕ) (d : Start) → k < length xs → with_starts keys (drop k xs) ≡ with_starts (insert_key start_cmp keys (get_or xs k d)) (drop (k + 1) xs)
next_starts keys xs k d lt = rw add-one (ap (with_starts keys) (drop_next xs k d lt))
