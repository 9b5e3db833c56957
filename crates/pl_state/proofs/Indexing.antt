-- The musts by their starts.
use Rattle.std.proofs.Common.{◌≡◌, ℕ, zero, suc, ◌+◌, ◌-◌, ◌<◌, ◌≤◌, ◌&&◌, ◌||◌, Bool, true, false, cond, List, [], ◌∷◌, ◌++◌, length, get_or, refl, ap, sym, ◌∙◌, subst, arith, eqb, ltb, max, inl, inr, ◌⊎◌, Ordering, Less, Equal, Greater, is_lt, nat_cmp}
use Rattle.std.specs.Ordering.{ordering_then}
use Rattle.std.specs.List.Sorted.{IsSorted}
use Rattle.std.proofs.lemmas.Bool.{true≢false, and_parts, eqb-true, ltb-true, lt-ltb, le-ltb}
use Rattle.std.specs.List.{Contains}
use Rattle.std.proofs.Math.Bool.{and-false}
use Rattle.pl_points.specs.declared.span.Span.{Span}
use Rattle.pl_lists.specs.Lists.{front, back}
use Rattle.pl_lists.proofs.Numbers.{eqb_itself}
use Rattle.pl_points.specs.Standing.{without}
use Rattle.pl_points.proofs.Parting.{IsParted}
use Rattle.pl_state.specs.declared.key.Key.{Key}
use Rattle.pl_state.specs.declared.reservation.Must.{Must}
use Rattle.pl_state.specs.declared.reservation.Started.{Started}
use Rattle.pl_state.specs.Keys.{key_of, key_before, is_before, NoneBefore, AreRising, Has, many}
use Rattle.pl_state.specs.Musts.{must_of, must_key, same_must, with_must}
use Rattle.pl_state.specs.Starts.{started, start_key, same_started, with_started, IsIndex, AreKept}
use Rattle.pl_state.specs.Near.{touches, touched_keys}
use Rattle.pl_state.proofs.Keys.{behind_both, parted_before, sorted_with, sorted_without}
use Rattle.pl_state.proofs.Parts.{sorted_back}
use Rattle.pl_state.proofs.Renewing.{has_fails}

pub exact_must : (x y : Must) → same_must x y ≡ true → x ≡ y
exact_must x y e =
    let one = and_parts (eqb x.from y.from) _ e in
    let two = and_parts (eqb x.to y.to) _ one.1 in
    let three = and_parts (eqb x.id y.id) _ two.1 in
    let four = and_parts (eqb x.index y.index) _ three.1 in
    ap (λ n. must_of n x.to x.id x.index x.state) (eqb-true x.from y.from one.0)
    ∙ (ap (λ n. must_of y.from n x.id x.index x.state) (eqb-true x.to y.to two.0)
    ∙ (ap (λ n. must_of y.from y.to n x.index x.state) (eqb-true x.id y.id three.0)
    ∙ (ap (λ n. must_of y.from y.to y.id n x.state) (eqb-true x.index y.index four.0)
    ∙ ap (λ n. must_of y.from y.to y.id y.index n) (eqb-true x.state y.state four.1))))

pub exact_started : (x y : Started) → same_started x y ≡ true → x ≡ y
exact_started x y e = ap started (exact_must x.must y.must e)

pub knows_started : (x y : Started) → same_started x y ≡ true → start_key x ≡ start_key y
knows_started x y e = ap start_key (exact_started x y e)

has_with : {T : Type 0} (p : T → Bool) (x u : T) (xs : List T) → Has x (front p xs ++ u ∷ back p xs) → (u ≡ x) ⊎ Has x xs
has_with p x u [] has = elim has [
  | inl f ↦ inl f
  | inr g ↦ absurd g
]
has_with p x u (y ∷ ys) has = cases (p y) has (has_with p x u ys)
  where
    cases : (b : Bool) → Has x (cond b (y ∷ front p ys) [] ++ u ∷ cond b (back p ys) (y ∷ ys)) → (Has x (front p ys ++ u ∷ back p ys) → (u ≡ x) ⊎ Has x ys) → (u ≡ x) ⊎ Has x (y ∷ ys)
    cases true h more = elim h [
      | inl f ↦ inr (inl f)
      | inr g ↦ elim (more g) [
        | inl a ↦ inl a
        | inr b ↦ inr (inr b)
      ]
    ]
    cases false h more = h

has_without : {T : Type 0} (same : T → T → Bool) (x u : T) (xs : List T) → Has x (without same u xs) → Has x xs
has_without same x u [] has = has
has_without same x u (y ∷ ys) has = cases (same y u) has (has_without same x u ys)
  where
    cases : (b : Bool) → Has x (cond b ys (y ∷ without same u ys)) → (Has x (without same u ys) → Has x ys) → Has x (y ∷ ys)
    cases true h more = inr h
    cases false h more = elim h [
      | inl f ↦ inl f
      | inr g ↦ inr (more g)
    ]

-- the index with one more, and with one fewer
pub index_with : (n : ℕ) (u : Must) (xs : List Started) → IsIndex n xs → IsIndex (max n (u.to - u.from)) (with_started (started u) xs)
index_with n u xs index = record {
  sorted = sorted_with start_key (started u) xs index.sorted;
  short = λ s has. elim (has_with (is_before start_key (start_key (started u))) s (started u) xs has) [
    | inl f ↦ let long : u.to ≤ u.from + max n (u.to - u.from) = omega arith in subst (λ (v : Started). v.must.to ≤ v.must.from + max n (u.to - u.from)) f long
    | inr g ↦ omega (arith, index.short s g)
  ];
}

pub index_wider : (n m : ℕ) (xs : List Started) → n ≤ m → IsIndex n xs → IsIndex m xs
index_wider n m xs le index = record { sorted = index.sorted; short = λ s has. omega (arith, le, index.short s has) }

pub index_without : (n : ℕ) (u : Started) (xs : List Started) → IsIndex n xs → IsIndex n (without same_started u xs)
index_without n u xs index = record {
  sorted = sorted_without start_key same_started u xs index.sorted;
  short = λ s has. index.short s (has_without same_started s u xs has);
}

-- how often one stands, with one more and with one fewer
swap_sum : (a b c d : ℕ) → d ≡ b + c → a + d ≡ b + (a + c)
swap_sum a b c d e = omega (arith, e)

many_with : {T : Type 0} (same : T → T → Bool) (p : T → Bool) (u v : T) (xs : List T) → many same u (front p xs ++ v ∷ back p xs) ≡ cond (same v u) 1 0 + many same u xs
many_with same p u v [] = refl
many_with same p u v (x ∷ xs) = cases (p x) (many_with same p u v xs)
  where
    cases : (b : Bool) → many same u (front p xs ++ v ∷ back p xs) ≡ cond (same v u) 1 0 + many same u xs → many same u (cond b (x ∷ front p xs) [] ++ v ∷ cond b (back p xs) (x ∷ xs)) ≡ cond (same v u) 1 0 + (cond (same x u) 1 0 + many same u xs)
    cases true more = swap_sum (cond (same x u) 1 0) (cond (same v u) 1 0) (many same u xs) (many same u (front p xs ++ v ∷ back p xs)) more
    cases false more = refl

first_fewer : (a b c : ℕ) → a ≡ b → c ≡ (a + c) - b
first_fewer a b c e = omega (arith, e)

later_fewer : (a c m n : ℕ) → a ≡ 0 ⊎ c ≡ 0 → m ≡ n - c → a + m ≡ (a + n) - c
later_fewer a c m n none e = elim none [
  | inl f ↦ omega (arith, e, f)
  | inr f ↦ omega (arith, e, f)
]

many_without : {T : Type 0} (same : T → T → Bool) → ((x y : T) → same x y ≡ true → x ≡ y) → (u v : T) (xs : List T) → many same u (without same v xs) ≡ many same u xs - cond (same v u) 1 0
many_without same exact u v [] = omega arith
many_without same exact u v (x ∷ xs) = cases (same x v) refl (same v u) refl (many_without same exact u v xs)
  where
    cases : (b : Bool) → same x v ≡ b → (d : Bool) → same v u ≡ d → many same u (without same v xs) ≡ many same u xs - cond (same v u) 1 0
        → many same u (cond b xs (x ∷ without same v xs)) ≡ (cond (same x u) 1 0 + many same u xs) - cond (same v u) 1 0
    cases true e d f more = first_fewer (cond (same x u) 1 0) (cond (same v u) 1 0) (many same u xs) (ap (λ y. cond (same y u) 1 0) (exact x v e))
    cases false e true f more =
        let other : same x u ≡ false = sym (ap (same x) (exact v u f)) ∙ e in
        later_fewer (cond (same x u) 1 0) (cond (same v u) 1 0) (many same u (without same v xs)) (many same u xs) (inl (ap (λ b. cond b 1 0) other)) more
    cases false e false f more = later_fewer (cond (same x u) 1 0) (cond (same v u) 1 0) (many same u (without same v xs)) (many same u xs) (inr (ap (λ b. cond b 1 0) f)) more

pub kept_with : (u : Must) (ms : List Must) (xs : List Started) → AreKept ms xs → AreKept (with_must u ms) (with_started (started u) xs)
kept_with u ms xs kept = record {
  sorted = sorted_with must_key u ms kept.sorted;
  indexed = λ v.
      let one = many_with same_must (is_before must_key (must_key u)) v u ms in
      let other = many_with same_started (is_before start_key (start_key (started u))) (started v) (started u) xs in
      omega (arith, one, other, kept.indexed v);
}

-- one that came among the starts alone goes again
pub kept_undone : (u : Must) (ms : List Must) (xs : List Started) → AreKept ms xs → AreKept ms (without same_started (started u) (with_started (started u) xs))
kept_undone u ms xs kept = record {
  sorted = kept.sorted;
  indexed = λ v.
      let came = many_with same_started (is_before start_key (start_key (started u))) (started v) (started u) xs in
      let went = many_without same_started exact_started (started v) (started u) (with_started (started u) xs) in
      omega (arith, came, went, kept.indexed v);
}

pub kept_without : (u : Must) (ms : List Must) (xs : List Started) → AreKept ms xs → AreKept (without same_must u ms) (without same_started (started u) xs)
kept_without u ms xs kept = record {
  sorted = sorted_without must_key same_must u ms kept.sorted;
  indexed = λ v.
      let one = many_without same_must exact_must v u ms in
      let other = many_without same_started exact_started (started v) (started u) xs in
      omega (arith, one, other, kept.indexed v);
}

-- what stands is counted, and what is counted stands
has_many : {T : Type 0} (same : T → T → Bool) (u : T) (xs : List T) → same u u ≡ true → Has u xs → 1 ≤ many same u xs
has_many same u [] e has = absurd has
has_many same u (x ∷ xs) e has = elim has [
  | inl f ↦ let one : ◌≡◌ {A = ℕ} (cond (same x u) 1 0) 1 = ap (λ y. cond (same y u) 1 0) f ∙ ap (λ b. cond b 1 0) e in omega (arith, one)
  | inr g ↦ let more = has_many same u xs e g in omega (arith, more)
]

many_has : {T : Type 0} (same : T → T → Bool) → ((x y : T) → same x y ≡ true → x ≡ y) → (u : T) (xs : List T) → 1 ≤ many same u xs → Has u xs
many_has same exact u [] le = absurd (omega (arith, le))
many_has same exact u (x ∷ xs) le = cases (same x u) refl le (many_has same exact u xs)
  where
    cases : (b : Bool) → same x u ≡ b → 1 ≤ cond b 1 0 + many same u xs → (1 ≤ many same u xs → Has u xs) → Has u (x ∷ xs)
    cases true e l more = inl (exact x u e)
    cases false e l more = inr (more (omega (arith, l)))

must_itself : (u : Must) → same_must u u ≡ true
must_itself u = rw (eqb_itself u.from) (rw (eqb_itself u.to) (rw (eqb_itself u.id) (rw (eqb_itself u.index) (eqb_itself u.state))))

pub kept_has : (u : Must) (ms : List Must) (xs : List Started) → AreKept ms xs → Has u ms → Has (started u) xs
kept_has u ms xs kept has = many_has same_started exact_started (started u) xs (omega (arith, kept.indexed u, has_many same_must u ms (must_itself u) has))

pub kept_only : (u : Must) (ms : List Must) (xs : List Started) → AreKept ms xs → Has (started u) xs → Has u ms
kept_only u ms xs kept has = many_has same_must exact_must u ms (omega (arith, kept.indexed u, has_many same_started (started u) xs (must_itself u) has))

-- between the two places stands each that has moments of the window
pub has_behind : {T : Type 0} (p : T → Bool) (x : T) (xs : List T) → p x ≡ false → Has x xs → Has x (back p xs)
has_behind p x [] e has = has
has_behind p x (y ∷ ys) e has = cases (p y) refl has (has_behind p x ys e)
  where
    cases : (b : Bool) → p y ≡ b → Has x (y ∷ ys) → (Has x ys → Has x (back p ys)) → Has x (cond b (back p ys) (y ∷ ys))
    cases true f h more = elim h [
      | inl g ↦ absurd (true≢false (sym f ∙ (ap p g ∙ e)))
      | inr g ↦ more g
    ]
    cases false f h more = h

pub has_ahead : {T : Type 0} (p : T → Bool) (x : T) (xs : List T) → IsParted p xs → p x ≡ true → Has x xs → Has x (front p xs)
has_ahead p x [] parted e has = has
has_ahead p x (y ∷ ys) parted e has = cases (p y) refl has (has_ahead p x ys parted.1 e)
  where
    cases : (b : Bool) → p y ≡ b → Has x (y ∷ ys) → (Has x ys → Has x (front p ys)) → Has x (cond b (y ∷ front p ys) [])
    cases true f h more = elim h [
      | inl g ↦ inl g
      | inr g ↦ inr (more g)
    ]
    cases false f h more = absurd (true≢false (sym e ∙ has_fails p x (y ∷ ys) (f, parted.0 f) h))

-- a moment alone comes before or behind
before_moment : (s : Started) (a : ℕ) → s.must.from < a → is_before start_key (key_of a 0 0) s ≡ true
before_moment s a lt = rw (lt-ltb s.must.from a lt) refl

pub not_before_moment : (s : Started) (a : ℕ) → a ≤ s.must.from → is_before start_key (key_of a 0 0) s ≡ false
not_before_moment s a le = rw (le-ltb s.must.from a le) (cases (eqb s.must.from a) (eqb s.must.id 0))
  where
    cases : (b d : Bool) → (b && (ltb s.must.id 0 || (d && ltb s.must.index 0))) ≡ false
    cases false d = refl
    cases true d = rw (le-ltb s.must.id 0 (omega arith)) (rw (le-ltb s.must.index 0 (omega arith)) (and-false d))

has_touched : (near : Span) (xs : List Started) (m : Must) → touches near m ≡ true → Has (started m) xs → Has (must_key m) (touched_keys near xs)
has_touched near [] m e has = absurd has
has_touched near (x ∷ xs) m e has = elim has [
  | inl f ↦ first (touches near x.must) (ap (λ (s : Started). touches near s.must) f ∙ e) f
  | inr g ↦ later (touches near x.must) (has_touched near xs m e g)
]
  where
    first : (b : Bool) → b ≡ true → x ≡ started m → Has (must_key m) (cond b (must_key x.must ∷ []) [] ++ touched_keys near xs)
    first true e f = inl (ap (λ (s : Started). must_key s.must) f)
    first false e f = absurd (true≢false (sym e))

    later : (b : Bool) → Has (must_key m) (touched_keys near xs) → Has (must_key m) (cond b (must_key x.must ∷ []) [] ++ touched_keys near xs)
    later true h = inr h
    later false h = h

pub touched_here : (near : Span) (n : ℕ) (xs : List Started) (m : Must) → IsIndex n xs → Has (started m) xs → touches near m ≡ true
    → Has (must_key m) (touched_keys near (front (is_before start_key (key_of near.to 0 0)) (back (is_before start_key (key_of (near.from - n) 0 0)) xs)))
touched_here near n xs m index has e =
    let parts = and_parts (ltb m.from near.to) (ltb near.from m.to) e in
    let low : near.from - n ≤ m.from = omega (arith, index.short (started m) has, ltb-true near.from m.to parts.1) in
    let rest : List Started = back (is_before start_key (key_of (near.from - n) 0 0)) xs in
    has_touched near (front (is_before start_key (key_of near.to 0 0)) rest) m e
    (has_ahead (is_before start_key (key_of near.to 0 0)) (started m) rest (parted_before start_key (key_of near.to 0 0) rest (sorted_back start_key (is_before start_key (key_of (near.from - n) 0 0)) xs index.sorted)) (before_moment (started m) near.to (ltb-true m.from near.to parts.0))
    (has_behind (is_before start_key (key_of (near.from - n) 0 0)) (started m) xs (not_before_moment (started m) (near.from - n) low) has))

-- sorted by neighbours
pub contains_has : {T : Type 0} (x : T) (xs : List T) → Contains xs x → Has x xs
contains_has x [] has = absurd (omega (arith, has.1))
contains_has x (y ∷ ys) has = at has.0 has.1 has.2 (λ j lt e. contains_has x ys (j, lt, e))
  where
    at : (k : ℕ) → k < length (y ∷ ys) → get_or (y ∷ ys) k x ≡ x → ((j : ℕ) → j < length ys → get_or ys j x ≡ x → Has x ys) → Has x (y ∷ ys)
    at zero lt e more = inl e
    at (suc k) lt e more = inr (more k (omega (arith, lt)) e)

pub has_contains : {T : Type 0} (x : T) (xs : List T) → Has x xs → Contains xs x
has_contains x [] has = absurd has
has_contains x (y ∷ ys) has = elim has [
  | inl f ↦ (0, omega arith, f)
  | inr g ↦ let more = has_contains x ys g in (suc more.0, omega (arith, more.1), more.2)
]

none_next : (k j : Key) (ks : List Key) → key_before j k ≡ false → NoneBefore (λ i. i) j ks → NoneBefore (λ i. i) k ks
none_next k j [] e none = tt
none_next k j (i ∷ ks) e none = (behind_both i j k none.0 e, none_next k j ks e none.1)

pub rising_keys : (ks : List Key) → ((i : ℕ) (d : Key) → i + 1 < length ks → key_before (get_or ks (i + 1) d) (get_or ks i d) ≡ false) → AreRising ks
rising_keys [] next = tt
rising_keys (k ∷ []) next = (tt, tt)
rising_keys (k ∷ j ∷ ks) next =
    let more : AreRising (j ∷ ks) = rising_keys (j ∷ ks) (λ i d lt. later i d (next (i + 1) d (omega (arith, lt)))) in
    let one : key_before j k ≡ false = next 0 k (omega arith) in
    ((one, none_next k j ks one more.0), more)
  where
    later : (i : ℕ) (d : Key) → key_before (get_or (k ∷ j ∷ ks) ((i + 1) + 1) d) (get_or (k ∷ j ∷ ks) (i + 1) d) ≡ false → key_before (get_or (j ∷ ks) (i + 1) d) (get_or (j ∷ ks) i d) ≡ false
    later i d e =
        let one : (i + 1) + 1 ≡ suc (i + 1) = omega arith in
        let two : i + 1 ≡ suc i = omega arith in
        subst (λ n. key_before (get_or (j ∷ ks) (i + 1) d) (get_or (k ∷ j ∷ ks) n d) ≡ false) two (subst (λ n. key_before (get_or (k ∷ j ∷ ks) n d) (get_or (k ∷ j ∷ ks) (i + 1) d) ≡ false) one e)

then_lt : (a b : ℕ) (o : Ordering) → is_lt (ordering_then (nat_cmp a b) o) ≡ (ltb a b || (eqb a b && is_lt o))
then_lt a b o = cases (ltb a b) (eqb a b)
  where
    cases : (u v : Bool) → is_lt (ordering_then (cond u Less (cond v Equal Greater)) o) ≡ (u || (v && is_lt o))
    cases true v = refl
    cases false true = refl
    cases false false = refl

last_lt : (a b : ℕ) → is_lt (nat_cmp a b) ≡ ltb a b
last_lt a b = cases (ltb a b) (eqb a b)
  where
    cases : (u v : Bool) → is_lt (cond u Less (cond v Equal Greater)) ≡ u
    cases true v = refl
    cases false true = refl
    cases false false = refl

pub key_lt : (x y : Key) → is_lt (ordering_then (nat_cmp x.at y.at) (ordering_then (nat_cmp x.id y.id) (nat_cmp x.index y.index))) ≡ key_before x y
key_lt x y = then_lt x.at y.at (ordering_then (nat_cmp x.id y.id) (nat_cmp x.index y.index))
    ∙ ap (λ b. ltb x.at y.at || (eqb x.at y.at && b)) (then_lt x.id y.id (nat_cmp x.index y.index) ∙ ap (λ b. ltb x.id y.id || (eqb x.id y.id && b)) (last_lt x.index y.index))

-- the keys after a sort
pub sorted_keys : (cmp : Key → Key → Ordering) → ((x y : Key) → is_lt (cmp x y) ≡ key_before x y) → (ks : List Key) → IsSorted cmp ks → AreRising ks
sorted_keys cmp is ks sorted = rising_keys ks (λ i d lt. sym (is (get_or ks (i + 1) d) (get_or ks i d)) ∙ sorted i d (omega arith) lt)
