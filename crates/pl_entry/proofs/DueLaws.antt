-- What the list of due activities holds, in which order, and that no other list does.
use Rattle.std.proofs.Common.{◌≡◌, ℕ, zero, suc, ◌<◌, ◌≤◌, eqb, ltb, leb, Bool, true, false, ◌&&◌, cond, List, [], ◌∷◌, length, map, Some, Result, Ok, Err, IfOk, refl, sym, ◌∙◌, ap, subst, arith, ◌⊎◌, inl, inr}
use Rattle.std.specs.Prelude.{All, AllPairs, Contains, filter, slice_index_or}
use Rattle.std.specs.List.{AllByRecursion}
use Rattle.std.specs.List.Sorted.{IsStrictlySortedBy}
use Rattle.std.specs.declared.cmp.Ordering.{Ordering}
use Rattle.std.specs.declared.cmp.Ordering.TheVariants.{Less, Equal, Greater}
use Rattle.std.specs.Ordering.{nat_cmp, match_ordering, ordering_reverse}
use Rattle.std.specs.Cmp.{IsTotalOrder, then_total, on_total, nat_cmp_total}
use Rattle.std.specs.BTreeSet.{insert_key}
use Rattle.std.proofs.lemmas.Grind.{common_steps}
use Rattle.std.proofs.lemmas.Bool.{cases_lt, and_parts, and_from, ltb-true, leb-true, eqb-true, lt-ltb, le-leb, eq-eqb}
use Rattle.std.proofs.lemmas.List.{nil_from_length}
use Rattle.std.proofs.lemmas.List.Elements.{All-nil, All-cons, All-head, All-tail, All-map, All-weaker, All-contains, All-filter, filter_passes, All-contains_itself}
use Rattle.std.proofs.lemmas.List.Kept.{AllPairs-cons}
use Rattle.std.proofs.lemmas.Map.Views.{All-insert_key}
use Rattle.std.proofs.lemmas.Map.Lookups.{exact_pairs, exact_unsigned}
use Rattle.std.proofs.lemmas.Option.{same_Some}
use Rattle.pl_model.specs.declared.whole.Model.{Model}
use Rattle.pl_plan.specs.declared.activity.Activity.{Activity}
use Rattle.pl_plan.specs.Activities.{AreRising, activity_of}
use Rattle.pl_plan.specs.Fitting.{kind_of, alternatives_of}
use Rattle.pl_plan.proofs.Ids.{found_at}
use Rattle.pl_plan.proofs.Climbs.{all_at}
use Rattle.pl_entry.specs.Due.{IsDue, is_due, start_of, start_cmp, with_starts, due_of, StartsBefore, AreDue}

start_total : IsTotalOrder start_cmp
start_total = then_total (on_total (λ (s : ℕ × ℕ). s.0) nat_cmp_total) (on_total (λ (s : ℕ × ℕ). s.1) nat_cmp_total)

start_exact : (x y : ℕ × ℕ) → start_cmp x y ≡ Equal → x ≡ y
start_exact = exact_pairs nat_cmp nat_cmp exact_unsigned exact_unsigned

pub contains_cons : {X : Type 0} → (y : X) (xs : List X) (q : X) → Contains xs q → Contains (y ∷ xs) q
contains_cons y xs q (k, lt, is) = (suc k, omega (arith, lt), is)

pub contains_first : {X : Type 0} → (xs : List X) (q : X) → Contains (q ∷ xs) q
contains_first xs q = (0, omega arith, refl)

-- ---- one start more

keeps : (k : ℕ × ℕ) (xs : List (ℕ × ℕ)) (q : ℕ × ℕ) → Contains xs q → Contains (insert_key start_cmp xs k) q
keeps k [] q (n, lt, is) = absurd (omega (arith, lt))
keeps k (x ∷ xs) q (zero, lt, is) = by (start_cmp k x)
  where
    by : (r : Ordering) → Contains (match_ordering r (k ∷ x ∷ xs) (x ∷ xs) (x ∷ insert_key start_cmp xs k)) q
    by Less = (1, omega arith, is)
    by _ = (0, omega arith, is)
keeps k (x ∷ xs) q (suc n, lt, is) = by (start_cmp k x) (keeps k xs q (n, omega (arith, lt), is))
  where
    by : (r : Ordering) → Contains (insert_key start_cmp xs k) q → Contains (match_ordering r (k ∷ x ∷ xs) (x ∷ xs) (x ∷ insert_key start_cmp xs k)) q
    by Less h = (suc (suc n), omega (arith, lt), is)
    by Equal h = (suc n, lt, is)
    by Greater h = contains_cons x (insert_key start_cmp xs k) q h

has_new : (k : ℕ × ℕ) (xs : List (ℕ × ℕ)) → Contains (insert_key start_cmp xs k) k
has_new k [] = contains_first [] k
has_new k (x ∷ xs) = by (start_cmp k x) refl (has_new k xs)
  where
    by : (r : Ordering) → start_cmp k x ≡ r → Contains (insert_key start_cmp xs k) k → Contains (match_ordering r (k ∷ x ∷ xs) (x ∷ xs) (x ∷ insert_key start_cmp xs k)) k
    by Less e h = contains_first (x ∷ xs) k
    by Equal e h = subst (λ y. Contains (y ∷ xs) k) (start_exact k x e) (contains_first xs k)
    by Greater e h = contains_cons x (insert_key start_cmp xs k) k h

each_insert : (P : ℕ × ℕ → Type 0) (k : ℕ × ℕ) (xs : List (ℕ × ℕ)) → AllByRecursion P xs → P k → AllByRecursion P (insert_key start_cmp xs k)
each_insert P k [] all p = (p, tt)
each_insert P k (x ∷ xs) all p = by (start_cmp k x) (each_insert P k xs all.1 p)
  where
    by : (r : Ordering) → AllByRecursion P (insert_key start_cmp xs k) → AllByRecursion P (match_ordering r (k ∷ x ∷ xs) (x ∷ xs) (x ∷ insert_key start_cmp xs k))
    by Less h = (p, all)
    by Equal h = all
    by Greater h = (all.0, h)

each_above : (k x : ℕ × ℕ) (xs : List (ℕ × ℕ)) → start_cmp k x ≡ Less → AllByRecursion (λ y. start_cmp x y ≡ Less) xs → AllByRecursion (λ y. start_cmp k y ≡ Less) xs
each_above k x [] e all = tt
each_above k x (y ∷ xs) e all = (start_total.trans k x y e all.0, each_above k x xs e all.1)

turned : (k x : ℕ × ℕ) → start_cmp k x ≡ Greater → start_cmp x k ≡ Less
turned k x e = start_total.antisymm x k ∙ ap ordering_reverse e

stays_sorted : (k : ℕ × ℕ) (xs : List (ℕ × ℕ)) → IsStrictlySortedBy start_cmp xs → IsStrictlySortedBy start_cmp (insert_key start_cmp xs k)
unfolding IsStrictlySortedBy
stays_sorted k [] s = (tt, tt)
stays_sorted k (x ∷ xs) s = by (start_cmp k x) refl (stays_sorted k xs s.1)
  where
    by : (r : Ordering) → start_cmp k x ≡ r → IsStrictlySortedBy start_cmp (insert_key start_cmp xs k) → IsStrictlySortedBy start_cmp (match_ordering r (k ∷ x ∷ xs) (x ∷ xs) (x ∷ insert_key start_cmp xs k))
    by Less e h = ((e, each_above k x xs e s.0), s)
    by Equal e h = s
    by Greater e h = (each_insert (λ y. start_cmp x y ≡ Less) k xs s.0 (turned k x e), h)

-- ---- all starts

all_kept : (ks xs : List (ℕ × ℕ)) (q : ℕ × ℕ) → Contains xs q → Contains (with_starts xs ks) q
all_kept [] xs q h = h
all_kept (k ∷ ks) xs q h = all_kept ks (insert_key start_cmp xs k) q (keeps k xs q h)

all_there : (ks xs : List (ℕ × ℕ)) (q : ℕ × ℕ) → Contains ks q → Contains (with_starts xs ks) q
all_there [] xs q (n, lt, is) = absurd (omega (arith, lt))
all_there (k ∷ ks) xs q (zero, lt, is) = all_kept ks (insert_key start_cmp xs k) q (subst (λ y. Contains (insert_key start_cmp xs y) q) (sym is) (has_new q xs))
all_there (k ∷ ks) xs q (suc n, lt, is) = all_there ks (insert_key start_cmp xs k) q (n, omega (arith, lt), is)

all_hold : (P : ℕ × ℕ → Type 0) (ks xs : List (ℕ × ℕ)) → All P xs → All P ks → All P (with_starts xs ks)
all_hold P [] xs all more = all
all_hold P (k ∷ ks) xs all more = all_hold P ks (insert_key start_cmp xs k) (All-insert_key start_cmp k P xs all (All-head P k ks more)) (All-tail P k ks more)

all_sorted : (ks xs : List (ℕ × ℕ)) → IsStrictlySortedBy start_cmp xs → IsStrictlySortedBy start_cmp (with_starts xs ks)
all_sorted [] xs s = s
all_sorted (k ∷ ks) xs s = all_sorted ks (insert_key start_cmp xs k) (stays_sorted k xs s)

sorted_none : IsStrictlySortedBy start_cmp []
unfolding IsStrictlySortedBy
sorted_none = tt

-- ---- due activities

no_alternatives : (model : Model) (a : Activity) → eqb (length (alternatives_of (kind_of model a))) 0 ≡ true → alternatives_of (kind_of model a) ≡ []
no_alternatives model a e = nil_from_length (alternatives_of (kind_of model a)) (eqb-true (length (alternatives_of (kind_of model a))) 0 e)

pub due_holds : (model : Model) (now c : ℕ) (a : Activity) → is_due model now c a ≡ true → IsDue model now c a
due_holds model now c a e =
    let first = and_parts (ltb a.start c) (leb a.start now && eqb (length (alternatives_of (kind_of model a))) 0) e in
    let second = and_parts (leb a.start now) (eqb (length (alternatives_of (kind_of model a))) 0) first.1 in
    record { committed = ltb-true a.start c first.0; started = leb-true a.start now second.0; basic = no_alternatives model a second.1 }

pub due_passes : (model : Model) (now c : ℕ) (a : Activity) → IsDue model now c a → is_due model now c a ≡ true
due_passes model now c a d =
    and_from (ltb a.start c) (leb a.start now && eqb (length (alternatives_of (kind_of model a))) 0) (lt-ltb a.start c d.committed)
    (and_from (leb a.start now) (eqb (length (alternatives_of (kind_of model a))) 0) (le-leb a.start now d.started) (eq-eqb (length (alternatives_of (kind_of model a))) 0 (ap (λ l. length l) d.basic)))

-- the start of an activity of which this holds
abbrev pub IsStartOf : List Activity → (Activity → Type 0) → ℕ × ℕ → Type 0
IsStartOf xs Q s = (a : Activity) × (activity_of s.1 xs ≡ Some a) × (a.start ≡ s.0) × (a.id ≡ s.1) × Q a

-- the starts of those that pass, in order
abbrev pub starts_of : (Activity → Bool) → List Activity → List (ℕ × ℕ)
starts_of p xs = with_starts [] (map start_of (filter p xs))

starts_hold : (p : Activity → Bool) (Q : Activity → Type 0) → ((a : Activity) → p a ≡ true → Q a) → (xs : List Activity) → AreRising xs → All (IsStartOf xs Q) (starts_of p xs)
starts_hold p Q holds xs rising =
    let found : All (λ a. activity_of a.id xs ≡ Some a) (filter p xs) = All-filter p (λ a. activity_of a.id xs ≡ Some a) xs (λ k d lt. found_at xs 0 k (slice_index_or xs k d).id d rising lt refl) in
    let each : All (λ a. IsStartOf xs Q (start_of a)) (filter p xs) = λ k d lt. (slice_index_or (filter p xs) k d, found k d lt, refl, refl, holds (slice_index_or (filter p xs) k d) (filter_passes p xs k d lt)) in
    all_hold (IsStartOf xs Q) (map start_of (filter p xs)) [] (All-nil (IsStartOf xs Q)) (All-map (IsStartOf xs Q) start_of (filter p xs) each)

start_in : (p : Activity → Bool) (xs : List Activity) (id : ℕ) (a : Activity) → activity_of id xs ≡ Some a → p a ≡ true → Contains (map start_of (filter p xs)) (start_of a)
start_in p [] id a is holds = absurd (cc)
start_in p (x ∷ xs) id a is holds = cases (eqb x.id id) refl (λ e. start_in p xs id a e holds)
  where
    later : (b : Bool) → Contains (map start_of (filter p xs)) (start_of a) → Contains (map start_of (cond b (x ∷ filter p xs) (filter p xs))) (start_of a)
    later true h = contains_cons (start_of x) (map start_of (filter p xs)) (start_of a) h
    later false h = h

    here : x ≡ a → Contains (map start_of (filter p (x ∷ xs))) (start_of a)
    here same = let passes : p x ≡ true = subst (λ y. p y ≡ true) (sym same) holds in rw passes (0, omega arith, ap start_of same)

    cases : (b : Bool) → eqb x.id id ≡ b → (activity_of id xs ≡ Some a → Contains (map start_of (filter p xs)) (start_of a)) → Contains (map start_of (filter p (x ∷ xs))) (start_of a)
    cases true e more =
        let found : Some x ≡ Some a = rw e at is in
        here (cc)
    cases false e more = let found : activity_of id xs ≡ Some a = rw e at is in later (p x) (more found)

id_in : (xs : List (ℕ × ℕ)) (q : ℕ × ℕ) → Contains xs q → Contains (map (λ s. s.1) xs) q.1
id_in [] q (k, lt, is) = absurd (omega (arith, lt))
id_in (x ∷ xs) q (zero, lt, is) = (0, omega arith, ap (λ s. s.1) is)
id_in (x ∷ xs) q (suc k, lt, is) = contains_cons x.1 (map (λ s. s.1) xs) q.1 (id_in xs q (k, omega (arith, lt), is))

-- ---- the order

abbrev pub Before : List Activity → ℕ → ℕ → Type 0
Before xs m n = (a b : Activity) → activity_of m xs ≡ Some a → activity_of n xs ≡ Some b → StartsBefore a b

earlier : (s t : ℕ × ℕ) → start_cmp s t ≡ Less → (s.0 < t.0) ⊎ ((s.0 ≡ t.0) × (s.1 < t.1))
earlier s t e = by (cases_lt s.0 t.0)
  where
    by : ((s.0 < t.0) ⊎ (t.0 ≤ s.0)) → (s.0 < t.0) ⊎ ((s.0 ≡ t.0) × (s.1 < t.1))
    by (inl lt) = inl lt
    by (inr le) = inr (grind (arith, common_steps, e, le), grind (arith, common_steps, e, le))

goes_before : (xs : List Activity) (Q : Activity → Type 0) (s t : ℕ × ℕ) → start_cmp s t ≡ Less → IsStartOf xs Q s → IsStartOf xs Q t → Before xs s.1 t.1
goes_before xs Q s t e (a, ea, sa, ia, da) (b, eb, sb, ib, db) x y fx fy =
    subst (λ z. StartsBefore z y) (same_Some a x (sym ea ∙ fx)) (subst (λ z. StartsBefore a z) (same_Some b y (sym eb ∙ fy)) (by (earlier s t e)))
  where
    by : ((s.0 < t.0) ⊎ ((s.0 ≡ t.0) × (s.1 < t.1))) → StartsBefore a b
    by (inl lt) = inl (omega (arith, lt, sa, sb))
    by (inr (is, lt)) = inr (sa ∙ is ∙ sym sb, omega (arith, lt, ia, ib))

all_later : (xs : List Activity) (Q : Activity → Type 0) (s : ℕ × ℕ) (ts : List (ℕ × ℕ)) → AllByRecursion (λ t. start_cmp s t ≡ Less) ts → IsStartOf xs Q s → All (IsStartOf xs Q) ts → All (λ t. Before xs s.1 t.1) ts
all_later xs Q s [] less one all = All-nil (λ t. Before xs s.1 t.1)
all_later xs Q s (t ∷ ts) less one all =
    All-cons (λ u. Before xs s.1 u.1) t ts (goes_before xs Q s t less.0 one (All-head (IsStartOf xs Q) t ts all)) (all_later xs Q s ts less.1 one (All-tail (IsStartOf xs Q) t ts all))

in_order : (xs : List Activity) (Q : Activity → Type 0) (ts : List (ℕ × ℕ)) → IsStrictlySortedBy start_cmp ts → All (IsStartOf xs Q) ts → AllPairs (Before xs) (map (λ s. s.1) ts)
unfolding IsStrictlySortedBy
in_order xs Q [] sorted all = λ i j d lt in_range. absurd (omega (arith, in_range))
in_order xs Q (t ∷ ts) sorted all =
    AllPairs-cons (Before xs) t.1 (map (λ s. s.1) ts) (All-map (Before xs t.1) (λ s. s.1) ts (all_later xs Q t ts sorted.0 (All-head (IsStartOf xs Q) t ts all) (All-tail (IsStartOf xs Q) t ts all)))
    (in_order xs Q ts sorted.1 (All-tail (IsStartOf xs Q) t ts all))

-- ---- those that pass

same_id : (xs : List Activity) (id : ℕ) (a : Activity) → activity_of id xs ≡ Some a → a.id ≡ id
same_id xs id a is = (all_at (λ b. Unit {0}) xs id a (λ k d lt. tt) is).1

pub listed : (p : Activity → Bool) (Q : Activity → Type 0) → ((a : Activity) → p a ≡ true → Q a) → (xs : List Activity) → AreRising xs → (id : ℕ) → Contains (map (λ s. s.1) (starts_of p xs)) id → (a : Activity) × (activity_of id xs ≡ Some a) × Q a
listed p Q holds xs rising id has =
    All-contains (λ n. (a : Activity) × (activity_of n xs ≡ Some a) × Q a) (map (λ s. s.1) (starts_of p xs)) id
    (All-map (λ n. (a : Activity) × (activity_of n xs ≡ Some a) × Q a) (λ s. s.1) (starts_of p xs)
    (All-weaker (IsStartOf xs Q) (λ s. (a : Activity) × (activity_of s.1 xs ≡ Some a) × Q a) (λ s h. (h.0, h.1, h.4)) (starts_of p xs) (starts_hold p Q holds xs rising))) has

pub lists : (p : Activity → Bool) (xs : List Activity) (id : ℕ) (a : Activity) → activity_of id xs ≡ Some a → p a ≡ true → Contains (map (λ s. s.1) (starts_of p xs)) id
lists p xs id a is passes =
    subst (λ n. Contains (map (λ s. s.1) (starts_of p xs)) n) (same_id xs id a is)
    (id_in (starts_of p xs) (start_of a) (all_there (map start_of (filter p xs)) [] (start_of a) (start_in p xs id a is passes)))

pub lists_in_order : (p : Activity → Bool) (Q : Activity → Type 0) → ((a : Activity) → p a ≡ true → Q a) → (xs : List Activity) → AreRising xs → AllPairs (Before xs) (map (λ s. s.1) (starts_of p xs))
lists_in_order p Q holds xs rising = in_order xs Q (starts_of p xs) (all_sorted (map start_of (filter p xs)) [] sorted_none) (starts_hold p Q holds xs rising)

-- ---- together

pub due_meets : (model : Model) (xs : List Activity) → AreRising xs → (now c : ℕ) → AreDue model xs now c (due_of model xs now c)
unfolding due_of
due_meets model xs rising now c = record {
  members = λ id. (listed (is_due model now c) (IsDue model now c) (due_holds model now c) xs rising id, λ w. lists (is_due model now c) xs id w.0 w.1 (due_passes model now c w.0 w.2));
  order = lists_in_order (is_due model now c) (IsDue model now c) (due_holds model now c) xs rising;
}

-- ---- no other list

pub all_behind : (R : ℕ → ℕ → Type 0) (x : ℕ) (xs : List ℕ) → AllPairs R (x ∷ xs) → All (R x) xs
all_behind R x xs pairs = λ k d lt. pairs 0 (suc k) d (omega arith) (omega (arith, lt))

pub pairs_behind : (R : ℕ → ℕ → Type 0) (x : ℕ) (xs : List ℕ) → AllPairs R (x ∷ xs) → AllPairs R xs
pairs_behind R x xs pairs = λ i j d lt in_range. pairs (suc i) (suc j) d (omega (arith, lt)) (omega (arith, in_range))

-- two have no order both ways
abbrev OneWay : (ℕ → ℕ → Type 0) → (ℕ → Type 0) → Type 0
OneWay R P = (m n : ℕ) → P m → P n → R m n → R n m → ⊥

tail_there : (R : ℕ → ℕ → Type 0) (P : ℕ → Type 0) → OneWay R P → (x : ℕ) (xs ys : List ℕ) → P x → All (R x) xs → ((q : ℕ) → Contains (x ∷ xs) q → Contains (x ∷ ys) q) → (q : ℕ) → Contains xs q → Contains ys q
tail_there R P apart x xs ys px later there q has = by (there q (contains_cons x xs q has))
  where
    by : Contains (x ∷ ys) q → Contains ys q
    by (zero, lt, is) =
        let r : R x x = subst (λ n. R x n) (sym is) (All-contains (R x) xs q later has) in
        absurd (apart x x px px r r)
    by (suc k, lt, is) = (k, omega (arith, lt), is)

none_has : (q : ℕ) → Contains [] q → ⊥
none_has q (k, lt, is) = omega (arith, lt)

same_list : (R : ℕ → ℕ → Type 0) (P : ℕ → Type 0) → OneWay R P → (xs ys : List ℕ) → All P xs → All P ys → AllPairs R xs → AllPairs R ys → ((q : ℕ) → Contains xs q → Contains ys q) → ((q : ℕ) → Contains ys q → Contains xs q) → xs ≡ ys
same_list R P apart [] [] px py rx ry there back = refl
same_list R P apart [] (y ∷ ys) px py rx ry there back = absurd (none_has y (back y (contains_first ys y)))
same_list R P apart (x ∷ xs) [] px py rx ry there back = absurd (none_has x (there x (contains_first xs x)))
same_list R P apart (x ∷ xs) (y ∷ ys) px py rx ry there back =
    joined same (same_list R P apart xs ys (All-tail P x xs px) (All-tail P y ys py) (pairs_behind R x xs rx) (pairs_behind R y ys ry) (there_behind same) (back_behind same))
  where
    p_x : P x
    p_x = All-head P x xs px

    p_y : P y
    p_y = All-head P y ys py

    heads : Contains (y ∷ ys) x → Contains (x ∷ xs) y → x ≡ y
    heads (zero, lt, is) other = sym is
    heads (suc k, lt, is) (zero, lt2, is2) = is2
    heads (suc k, lt, is) (suc j, lt2, is2) =
        let one : R y x = All-contains (R y) ys x (all_behind R y ys ry) (k, omega (arith, lt), is) in
        let two : R x y = All-contains (R x) xs y (all_behind R x xs rx) (j, omega (arith, lt2), is2) in
        absurd (apart x y p_x p_y two one)

    same : x ≡ y
    same = heads (there x (contains_first xs x)) (back y (contains_first ys y))

    there_behind : x ≡ y → (q : ℕ) → Contains xs q → Contains ys q
    there_behind e = tail_there R P apart x xs ys p_x (all_behind R x xs rx) (λ q h. subst (λ z. Contains (z ∷ ys) q) (sym e) (there q h))

    back_behind : x ≡ y → (q : ℕ) → Contains ys q → Contains xs q
    back_behind e = tail_there R P apart x ys xs p_x (subst (λ z. All (R z) ys) (sym e) (all_behind R y ys ry)) (λ q h. back q (subst (λ z. Contains (z ∷ ys) q) e h))

    joined : x ≡ y → xs ≡ ys → x ∷ xs ≡ y ∷ ys
    joined e tails = subst (λ z. x ∷ xs ≡ z ∷ ys) e (ap (λ l. x ∷ l) tails)

abbrev IsThere : List Activity → ℕ → Type 0
IsThere xs n = (a : Activity) × (activity_of n xs ≡ Some a)

not_both : (a b : Activity) → StartsBefore a b → StartsBefore b a → ⊥
not_both a b (inl lt) (inl lt2) = omega (arith, lt, lt2)
not_both a b (inl lt) (inr (is, lt2)) = omega (arith, lt, is)
not_both a b (inr (is, lt)) (inl lt2) = omega (arith, is, lt2)
not_both a b (inr (is, lt)) (inr (is2, lt2)) = omega (arith, lt, lt2)

one_way : (xs : List Activity) → OneWay (Before xs) (IsThere xs)
one_way xs m n (a, ea) (b, eb) there back = not_both a b (there a b ea eb) (back b a eb ea)

all_in : (model : Model) (xs : List Activity) (now c : ℕ) (ids : List ℕ) → AreDue model xs now c ids → All (IsThere xs) ids
all_in model xs now c ids are = All-weaker (Contains ids) (IsThere xs) (λ n h. let w = (are.members n).0 h in (w.0, w.1)) ids (All-contains_itself ids)

pub due_only : (model : Model) (xs : List Activity) → AreRising xs → (now c : ℕ) (ids : List ℕ) → AreDue model xs now c ids → ids ≡ due_of model xs now c
due_only model xs rising now c ids are =
    let due = due_meets model xs rising now c in
    same_list (Before xs) (IsThere xs) (one_way xs) ids (due_of model xs now c) (all_in model xs now c ids are) (all_in model xs now c (due_of model xs now c) due) are.order due.order
    (λ q h. (due.members q).1 ((are.members q).0 h)) (λ q h. (are.members q).1 ((due.members q).0 h))

pub due_of_result : (model : Model) (xs : List Activity) → AreRising xs → (now c : ℕ) → {V E : Type 0} → (items : V → List ℕ) (r : Result V E) → IfOk r (λ v. items v ≡ due_of model xs now c) → IfOk r (λ v. AreDue model xs now c (items v))
due_of_result model xs rising now c items (Ok v) e = subst (AreDue model xs now c) (sym e) (due_meets model xs rising now c)
due_of_result model xs rising now c items (Err x) e = tt
