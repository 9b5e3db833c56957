-- Pairs of a number and an id in their order, and what stands under a number.
use Rattle.std.proofs.Common.{◌≡◌, ℕ, zero, suc, ◌<◌, ◌≤◌, ◌^◌, eqb, ltb, Bool, true, false, not, cond, ◌&&◌, ◌||◌, List, [], ◌∷◌, map, Some, refl, sym, ◌∙◌, ap, arith, nat_cmp, is_eq, is_lt, is_le, Ordering, Less, Equal, Greater, ◌⊎◌, ⊎_elim, BTreeSet}
use Rattle.std.specs.Prelude.{All, filter, find, slice_get}
use Rattle.std.specs.Ordering.{ordering_then}
use Rattle.std.specs.List.Sorted.{IsStrictlySortedBy}
use Rattle.std.specs.BTreeMap.{is_at}
use Rattle.std.specs.BTreeMap.Range.{range_contains}
use Rattle.std.specs.BTreeSet.{contains, Updates, UpdatesBy}
use Rattle.std.specs.declared.ops.Bound.TheVariants.{Included, Excluded}
use Rattle.std.proofs.lemmas.Bool.{lt-ltb, le-ltb, eq-eqb, ne_eqb, eqb-true, cases_order}
use Rattle.std.proofs.lemmas.List.Elements.{All-head, All-tail, All-weaker}
use Rattle.std.proofs.lemmas.Map.Views.{All-after_first}
use Rattle.std.proofs.lemmas.Map.Keys.{sorted_tail}
use Rattle.pl_lists.proofs.Elements.{any_agree}
use Rattle.pl_plan.specs.Index.{has_pair, ids_under, Enters, Leaves}
use Rattle.pl_plan.proofs.RisingIds.{RiseIds, among}

abbrev pub pair_cmp : ℕ × ℕ → ℕ × ℕ → Ordering
pair_cmp x y = ordering_then (nat_cmp x.0 y.0) (nat_cmp x.1 y.1)

eq_then : (a b : Ordering) → is_eq (ordering_then a b) ≡ (is_eq a && is_eq b)
eq_then Less b = refl
eq_then Equal b = refl
eq_then Greater b = refl

pub eq_at : (n m : ℕ) → is_eq (nat_cmp n m) ≡ eqb n m
eq_at n m = ⊎_elim
    (λ (e : n ≡ m). rw (le-ltb n m (omega (arith, e)), eq-eqb n m e) refl)
    (λ o. ⊎_elim
    (λ (lt : n < m). rw (lt-ltb n m lt, ne_eqb n m (λ e. omega (arith, lt, e))) refl)
    (λ (gt : m < n). rw (le-ltb n m (omega (arith, gt)), ne_eqb n m (λ e. omega (arith, gt, e))) refl)
    o)
    (cases_order n m)

at_pair : (n q : ℕ) (p : ℕ × ℕ) → is_at (pair_cmp (n, q)) p ≡ (eqb n p.0 && eqb q p.1)
at_pair n q p = eq_then (nat_cmp n p.0) (nat_cmp q p.1) ∙ rw (eq_at n p.0, eq_at q p.1) refl

has_at : (n q : ℕ) (s : BTreeSet (ℕ × ℕ)) → has_pair n q s.keys ≡ contains pair_cmp s (n, q)
has_at n q s = sym (any_agree (is_at (pair_cmp (n, q))) (λ p. eqb n p.0 && eqb q p.1) (at_pair n q) s.keys)

pub inserted : (before after : BTreeSet (ℕ × ℕ)) (n id : ℕ) → Updates pair_cmp before after (n, id) true → Enters (Some n) id before.keys after.keys
inserted before after n id updates m q = has_at m q after ∙ (updates.0 (m, q) ∙ (rw (at_pair n id (m, q), ← has_at m q before) (as_or (eqb n m && eqb id q) (has_pair m q before.keys))))
  where
    as_or : (b c : Bool) → cond b true c ≡ (b || c)
    as_or true c = refl
    as_or false c = refl

pub removed : (before after : BTreeSet (ℕ × ℕ)) (n id : ℕ) → UpdatesBy pair_cmp (pair_cmp (n, id)) before after false → Leaves (Some n) id before.keys after.keys
removed before after n id updates m q = has_at m q after ∙ (updates.0 (m, q) ∙ (rw (at_pair n id (m, q), ← has_at m q before) (as_and (eqb n m && eqb id q) (has_pair m q before.keys))))
  where
    as_and : (b c : Bool) → cond b false c ≡ (not b && c)
    as_and true c = refl
    as_and false c = refl

-- ---- what stands under a number

in_range_is : (n : ℕ) (p : ℕ × ℕ) → p.1 < 2 ^ 32 → range_contains pair_cmp (Included (n, 0)) (Included (n, 4294967295)) p ≡ eqb n p.0
in_range_is n p small = ⊎_elim
    (λ (e : n ≡ p.0). rw (le-ltb n p.0 (omega (arith, e)), eq-eqb n p.0 e) (inside p.1 small))
    (λ o. ⊎_elim
    (λ (lt : n < p.0). rw (lt-ltb n p.0 lt, ne_eqb n p.0 (λ e. omega (arith, lt, e))) refl)
    (λ (gt : p.0 < n). rw (le-ltb n p.0 (omega (arith, gt)), ne_eqb n p.0 (λ e. omega (arith, gt, e))) refl)
    o)
    (cases_order n p.0)
  where
    inside : (q : ℕ) → q < 2 ^ 32 → (is_le (nat_cmp 0 q) && not (is_lt (nat_cmp 4294967295 q))) ≡ true
    inside zero lt = refl
    inside (suc q) lt = rw (lt-ltb 0 (suc q) (omega arith), le-ltb 4294967295 (suc q) (omega (arith, lt))) (upper (eqb 4294967295 (suc q)))
      where
        upper : (b : Bool) → (true && not (is_lt (cond b Equal Greater))) ≡ true
        upper true = refl
        upper false = refl

filter_within : {X : Type 0} (f g : X → Bool) (P : X → Type 0) → ((x : X) → P x → f x ≡ g x) → (xs : List X) → All P xs → filter f xs ≡ filter g xs
filter_within f g P same [] all = refl
filter_within f g P same (x ∷ xs) all = rw (same x (All-head P x xs all), filter_within f g P same xs (All-tail P x xs all)) refl

pub range_under : (n : ℕ) (pairs : List (ℕ × ℕ)) → All (λ p. p.1 < 2 ^ 32) pairs → filter (range_contains pair_cmp (Included (n, 0)) (Included (n, 4294967295))) pairs ≡ filter (λ p. eqb n p.0) pairs
range_under n pairs small = filter_within (range_contains pair_cmp (Included (n, 0)) (Included (n, 4294967295))) (λ p. eqb n p.0) (λ p. p.1 < 2 ^ 32) (in_range_is n) pairs small

pub under_among : (n q : ℕ) (pairs : List (ℕ × ℕ)) → among q (ids_under n pairs) ≡ has_pair n q pairs
under_among n q [] = refl
under_among n q (p ∷ pairs) = cases (eqb n p.0) refl (under_among n q pairs)
  where
    cases : (b : Bool) → eqb n p.0 ≡ b → among q (ids_under n pairs) ≡ has_pair n q pairs → among q (ids_under n (p ∷ pairs)) ≡ has_pair n q (p ∷ pairs)
    cases true e more = rw (e, more) refl
    cases false e more = rw (e, more) refl

-- a later pair of the same number has a larger id
later_above : (n : ℕ) (p q : ℕ × ℕ) → pair_cmp p q ≡ Less → eqb n p.0 ≡ true → eqb n q.0 ≡ true → suc p.1 ≤ q.1
later_above n p q less e f =
    let same : p.0 ≡ q.0 = sym (eqb-true n p.0 e) ∙ eqb-true n q.0 f in
    let then : nat_cmp p.1 q.1 ≡ Less = rw (le-ltb p.0 q.0 (omega (arith, same)), eq-eqb p.0 q.0 same) at less in
    by_order then (cases_order p.1 q.1)
  where
    by_order : nat_cmp p.1 q.1 ≡ Less → (p.1 ≡ q.1) ⊎ ((p.1 < q.1) ⊎ (q.1 < p.1)) → suc p.1 ≤ q.1
    by_order then o = ⊎_elim
        (λ (e : p.1 ≡ q.1). absurd (let bad : Equal ≡ Less = rw (le-ltb p.1 q.1 (omega (arith, e)), eq-eqb p.1 q.1 e) at then in cc))
        (λ o. ⊎_elim
        (λ (lt : p.1 < q.1). omega (arith, lt))
        (λ (gt : q.1 < p.1). absurd (let bad : Greater ≡ Less = rw (le-ltb p.1 q.1 (omega (arith, gt)), ne_eqb p.1 q.1 (λ e. omega (arith, gt, e))) at then in cc))
        o)
        o

under_rises_from : (c n : ℕ) (pairs : List (ℕ × ℕ)) → IsStrictlySortedBy pair_cmp pairs → All (λ p. eqb n p.0 ≡ true → c ≤ p.1) pairs → RiseIds c (ids_under n pairs)
under_rises_from c n [] sorted all = tt
under_rises_from c n (p ∷ pairs) sorted all = cases (eqb n p.0) refl (under_rises_from (suc p.1) n pairs (sorted_tail pair_cmp p pairs sorted)) (under_rises_from c n pairs (sorted_tail pair_cmp p pairs sorted) (All-tail (λ r. eqb n r.0 ≡ true → c ≤ r.1) p pairs all))
  where
    cases : (b : Bool) → eqb n p.0 ≡ b → (All (λ r. eqb n r.0 ≡ true → suc p.1 ≤ r.1) pairs → RiseIds (suc p.1) (ids_under n pairs)) → RiseIds c (ids_under n pairs) → RiseIds c (ids_under n (p ∷ pairs))
    cases true e above rest = rw e (All-head (λ r. eqb n r.0 ≡ true → c ≤ r.1) p pairs all e, above (All-weaker (λ r. pair_cmp p r ≡ Less) (λ r. eqb n r.0 ≡ true → suc p.1 ≤ r.1) (λ r less f. later_above n p r less e f) pairs (All-after_first pair_cmp p pairs sorted)))
    cases false e above rest = rw e rest

pub under_rises : (n : ℕ) (pairs : List (ℕ × ℕ)) → IsStrictlySortedBy pair_cmp pairs → RiseIds 0 (ids_under n pairs)
under_rises n pairs sorted = under_rises_from 0 n pairs sorted (λ k d lt e. omega arith)

pub under_range : (n : ℕ) (pairs range : List (ℕ × ℕ)) → All (λ p. p.1 < 2 ^ 32) pairs → range ≡ filter (range_contains pair_cmp (Included (n, 0)) (Included (n, 4294967295))) pairs → ids_under n pairs ≡ map (λ p. p.1) range
under_range n pairs range small is = sym (ap (λ (l : List (ℕ × ℕ)). map (λ p. p.1) l) (is ∙ range_under n pairs small))

-- ---- what stands under a number behind an id

in_range_behind : (n behind : ℕ) (p : ℕ × ℕ) → p.1 < 2 ^ 32 → range_contains pair_cmp (Excluded (n, behind)) (Included (n, 4294967295)) p ≡ (eqb n p.0 && ltb behind p.1)
in_range_behind n behind p small = ⊎_elim
    (λ (e : n ≡ p.0). rw (le-ltb n p.0 (omega (arith, e)), eq-eqb n p.0 e, le-ltb 4294967295 p.1 (omega (arith, small))) (inside (ltb behind p.1) (eqb behind p.1) (eqb 4294967295 p.1)))
    (λ o. ⊎_elim
    (λ (lt : n < p.0). rw (lt-ltb n p.0 lt, ne_eqb n p.0 (λ e. omega (arith, lt, e))) refl)
    (λ (gt : p.0 < n). rw (le-ltb n p.0 (omega (arith, gt)), ne_eqb n p.0 (λ e. omega (arith, gt, e))) refl)
    o)
    (cases_order n p.0)
  where
    inside : (a b d : Bool) → (is_lt (cond a Less (cond b Equal Greater)) && not (is_lt (cond d Equal Greater))) ≡ a
    inside true b true = refl
    inside true b false = refl
    inside false true d = refl
    inside false false d = refl

find_under : (n behind : ℕ) (pairs : List (ℕ × ℕ)) → find (ltb behind) (ids_under n pairs) ≡ slice_get (map (λ p. p.1) (filter (λ p. eqb n p.0 && ltb behind p.1) pairs)) 0
find_under n behind [] = refl
find_under n behind (p ∷ pairs) = cases (eqb n p.0) refl (ltb behind p.1) refl (find_under n behind pairs)
  where
    cases : (b : Bool) → eqb n p.0 ≡ b → (d : Bool) → ltb behind p.1 ≡ d → find (ltb behind) (ids_under n pairs) ≡ slice_get (map (λ r. r.1) (filter (λ r. eqb n r.0 && ltb behind r.1) pairs)) 0
        → find (ltb behind) (ids_under n (p ∷ pairs)) ≡ slice_get (map (λ r. r.1) (filter (λ r. eqb n r.0 && ltb behind r.1) (p ∷ pairs))) 0
    cases true e true f more = rw (e, f) refl
    cases true e false f more = rw (e, f) more
    cases false e true f more = rw e more
    cases false e false f more = rw e more

pub under_behind : (n behind : ℕ) (pairs range : List (ℕ × ℕ)) → All (λ p. p.1 < 2 ^ 32) pairs → range ≡ filter (range_contains pair_cmp (Excluded (n, behind)) (Included (n, 4294967295))) pairs → find (ltb behind) (ids_under n pairs) ≡ slice_get (map (λ p. p.1) range) 0
under_behind n behind pairs range small is =
    let same = filter_within (range_contains pair_cmp (Excluded (n, behind)) (Included (n, 4294967295))) (λ p. eqb n p.0 && ltb behind p.1) (λ p. p.1 < 2 ^ 32) (in_range_behind n behind) pairs small in
    find_under n behind pairs ∙ sym (ap (λ (l : List (ℕ × ℕ)). slice_get (map (λ p. p.1) l) 0) (is ∙ same))
