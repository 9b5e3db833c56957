-- Both lists that are told are sorted.
use Rattle.std.proofs.Common.{◌≡◌, ℕ, ◌+◌, ◌-◌, ◌≤◌, ◌<◌, ◌==◌, ◌≢◌, not, Bool, true, false, cond, List, [], ◌∷◌, ◌++◌, refl, ap, sym, ◌∙◌, arith, min, max, suc, inl, inr, eqb}
use Rattle.std.proofs.lemmas.Bool.{and_parts, eqb-true}
use Rattle.pl_points.specs.declared.span.Span.{Span}
use Rattle.pl_points.specs.Spans.{AreApart, spans_of}
use Rattle.pl_points.proofs.Maximal.{maximal_spans}
use Rattle.pl_state.specs.declared.key.Key.{Key}
use Rattle.pl_state.specs.declared.reservation.Setting.{Setting}
use Rattle.pl_state.specs.declared.reservation.Must.{Must}
use Rattle.pl_state.specs.declared.answer.BadSet.{BadSet}
use Rattle.pl_state.specs.declared.answer.BrokenMust.{BrokenMust}
use Rattle.pl_state.specs.Keys.{key_of, key_before, NoneBefore, Has, AreSorted}
use Rattle.pl_state.specs.Sorted.{NoneHas, AreDistinct, bad_key, broken_key}
use Rattle.pl_state.specs.Sets.{set_key, is_counted, bad_set, bad_from}
use Rattle.pl_state.specs.Musts.{must_key, broken_spans, broken_one, broken_all}
use Rattle.pl_state.specs.Timelines.{same_bad}
use Rattle.pl_state.specs.Near.{AreBadInOrder}
use Rattle.pl_state.proofs.Keys.{Follows, follows, not_before}
use Rattle.pl_state.proofs.Steps.{told}

none_over : (v : Bool) (q : BadSet) (k : Key) (l : List BadSet) → key_before (bad_key q) k ≡ false → NoneBefore bad_key k l → NoneBefore bad_key k (cond v (q ∷ []) [] ++ l)
none_over true q k l e none = (e, none)
none_over false q k l e none = none

bad_none : (al : ℕ → ℕ → Bool) (base h mo s : ℕ) (k : Key) (xs : List Setting) → NoneBefore set_key k xs → NoneBefore bad_key k (bad_from al base h mo s xs)
bad_none al base h mo s k [] none = tt
bad_none al base h mo s k (x ∷ xs) none = none_over (told al base h mo s x) (bad_set x) k (bad_from al base h mo (cond (is_counted base h x) x.state s) xs) none.0 (bad_none al base h mo (cond (is_counted base h x) x.state s) k xs none.1)

sorted_over : (v : Bool) (q : BadSet) (l : List BadSet) → NoneBefore bad_key (bad_key q) l → AreSorted bad_key l → AreSorted bad_key (cond v (q ∷ []) [] ++ l)
sorted_over true q l none sorted = (none, sorted)
sorted_over false q l none sorted = sorted

pub bad_sorted : (al : ℕ → ℕ → Bool) (base h mo s : ℕ) (xs : List Setting) → AreSorted set_key xs → AreSorted bad_key (bad_from al base h mo s xs)
bad_sorted al base h mo s [] sorted = tt
bad_sorted al base h mo s (x ∷ xs) sorted =
    let more = cond (is_counted base h x) x.state s in
    sorted_over (told al base h mo s x) (bad_set x) (bad_from al base h mo more xs) (bad_none al base h mo more (set_key x) xs sorted.0) (bad_sorted al base h mo more xs sorted.1)

-- all come behind the must's own
abbrev pub AreBehind : ℕ → ℕ → List BrokenMust → Type 0
AreBehind id index [] = Unit {0}
AreBehind id index (b ∷ bs) = (id ≤ b.id) × (b.id ≡ id → index < b.index) × AreBehind id index bs

behind_append : (id index : ℕ) (xs ys : List BrokenMust) → AreBehind id index xs → AreBehind id index ys → AreBehind id index (xs ++ ys)
behind_append id index [] ys one other = other
behind_append id index (x ∷ xs) ys one other = (one.0, one.1, behind_append id index xs ys one.2 other)

behind_spans : (id index : ℕ) (m : Must) (ss : List Span) → id ≤ m.id → (m.id ≡ id → index < m.index) → AreBehind id index (broken_spans m ss)
behind_spans id index m [] low later = tt
behind_spans id index m (s ∷ ss) low later = (low, later, behind_spans id index m ss low later)

none_spans : (m : Must) (f a b : ℕ) (ss : List Span) → AreApart a b ss → f ≤ a → NoneBefore broken_key (key_of m.id m.index f) (broken_spans m ss)
none_spans m f a b [] apart le = tt
none_spans m f a b (s ∷ ss) apart le = (
  not_before (key_of m.id m.index s.from) (key_of m.id m.index f) (omega arith, λ _. (omega arith, λ _. omega (arith, le, apart.0))),
  none_spans m f (suc s.to) b ss apart.3 (omega (arith, le, apart.0, apart.1)),
)

none_append : {T : Type 0} (key : T → Key) (k : Key) (xs ys : List T) → NoneBefore key k xs → NoneBefore key k ys → NoneBefore key k (xs ++ ys)
none_append key k [] ys one other = other
none_append key k (x ∷ xs) ys one other = (one.0, none_append key k xs ys one.1 other)

none_behind : (id index f : ℕ) (bs : List BrokenMust) → AreBehind id index bs → NoneBefore broken_key (key_of id index f) bs
none_behind id index f [] behind = tt
none_behind id index f (b ∷ bs) behind = (
  not_before (broken_key b) (key_of id index f) (behind.0, λ same. let lt = behind.1 same in (omega (arith, lt), λ equal. absurd (omega (arith, lt, equal)))),
  none_behind id index f bs behind.2,
)

spans_sorted : (m : Must) (a b : ℕ) (ss : List Span) (rest : List BrokenMust) → AreApart a b ss → AreBehind m.id m.index rest → AreSorted broken_key rest → AreSorted broken_key (broken_spans m ss ++ rest)
spans_sorted m a b [] rest apart behind sorted = sorted
spans_sorted m a b (s ∷ ss) rest apart behind sorted = (
  none_append broken_key (key_of m.id m.index s.from) (broken_spans m ss) rest (none_spans m s.from (suc s.to) b ss apart.3 (omega (arith, apart.1))) (none_behind m.id m.index s.from rest behind),
  spans_sorted m (suc s.to) b ss rest apart.3 behind sorted,
)

behind_all : (state : ℕ → ℕ) (mo h id index : ℕ) (ms : List Must) → NoneBefore must_key (key_of 0 id index) ms → NoneHas must_key (key_of 0 id index) ms → AreBehind id index (broken_all state mo h ms)
behind_all state mo h id index [] none other = tt
behind_all state mo h id index (m ∷ ms) none other =
    let later : Follows (must_key m) (key_of 0 id index) = follows (must_key m) (key_of 0 id index) none.0 in
    let place = later.1 refl in
    behind_append id index (broken_one state mo h m) (broken_all state mo h ms)
    (behind_spans id index m (spans_of (λ t. not (state t == m.state)) (max m.from mo) (min m.to h - max m.from mo)) place.0
    (λ same. let le : index ≤ m.index = place.1 same in
    let ne : m.index ≢ index = λ e. other.0 (ap (λ i. key_of 0 i m.index) same ∙ ap (λ x. key_of 0 id x) e) in
    omega (arith, le, ne)))
    (behind_all state mo h id index ms none.1 other.1)

pub broken_sorted : (state : ℕ → ℕ) (mo h : ℕ) (ms : List Must) → AreSorted must_key ms → AreDistinct must_key ms → AreSorted broken_key (broken_all state mo h ms)
broken_sorted state mo h [] sorted distinct = tt
broken_sorted state mo h (m ∷ ms) sorted distinct =
    let P : ℕ → Bool = λ t. not (state t == m.state) in
    let a : ℕ = max m.from mo in
    let n : ℕ = min m.to h - max m.from mo in
    spans_sorted m a (a + n) (spans_of P a n) (broken_all state mo h ms) (maximal_spans P a n).apart (behind_all state mo h m.id m.index ms sorted.0 distinct.0) (broken_sorted state mo h ms sorted.1 distinct.1)

-- sorted lists without two of one key that hold the same are equal
has_key : {T : Type 0} (key : T → Key) (k : Key) (x : T) (xs : List T) → NoneHas key k xs → Has x xs → key x ≡ k → ⊥
has_key key k x [] none has e = absurd has
has_key key k x (y ∷ ys) none has e = elim has [
  | inl f ↦ none.0 (ap key f ∙ e)
  | inr f ↦ has_key key k x ys none.1 f e
]

pub has_none : {T : Type 0} (key : T → Key) (k : Key) (x : T) (xs : List T) → NoneBefore key k xs → Has x xs → key_before (key x) k ≡ false
has_none key k x [] none has = absurd has
has_none key k x (y ∷ ys) none has = elim has [
  | inl f ↦ ap (λ z. key_before (key z) k) (sym f) ∙ none.0
  | inr f ↦ has_none key k x ys none.1 f
]

both_ways : (a b : Key) → key_before a b ≡ false → key_before b a ≡ false → a ≡ b
both_ways a b e f =
    let one = follows a b e in let two = follows b a f in
    let g : a.at ≡ b.at = omega (arith, one.0, two.0) in
    let p = one.1 g in let q = two.1 (sym g) in
    let h : a.id ≡ b.id = omega (arith, p.0, q.0) in
    let r = p.1 h in let s = q.1 (sym h) in
    let i : a.index ≡ b.index = omega (arith, r, s) in
    ap (λ n. key_of n a.id a.index) g ∙ (ap (λ n. key_of b.at n a.index) h ∙ ap (λ n. key_of b.at b.id n) i)

heads_same : {T : Type 0} (key : T → Key) (x y : T) (xs ys : List T) → AreSorted key (x ∷ xs) → AreSorted key (y ∷ ys) → AreDistinct key (y ∷ ys) → Has x (y ∷ ys) → Has y (x ∷ xs) → y ≡ x
heads_same key x y xs ys one two distinct has back = elim has [
  | inl f ↦ f
  | inr f ↦ elim back [
    | inl g ↦ sym g
    | inr g ↦ absurd (has_key key (key y) x ys distinct.0 f (both_ways (key x) (key y) (has_none key (key y) x ys two.0 f) (has_none key (key x) y xs one.0 g)))
  ]
]

tails_hold : {T : Type 0} (key : T → Key) (x y z : T) (xs ys : List T) → y ≡ x → NoneHas key (key x) xs → Has z xs → Has z (y ∷ ys) → Has z ys
tails_hold key x y z xs ys same none has full = elim full [
  | inl f ↦ absurd (has_key key (key x) z xs none has (ap key (sym f ∙ same)))
  | inr f ↦ f
]

pub same_lists : {T : Type 0} (key : T → Key) (xs ys : List T) → AreSorted key xs → AreSorted key ys → AreDistinct key xs → AreDistinct key ys → ((x : T) → Has x xs → Has x ys) → ((x : T) → Has x ys → Has x xs) → xs ≡ ys
same_lists key [] [] one two d e to from = refl
same_lists key [] (y ∷ ys) one two d e to from = absurd (from y (inl refl))
same_lists key (x ∷ xs) [] one two d e to from = absurd (to x (inl refl))
same_lists key (x ∷ xs) (y ∷ ys) one two d e to from =
    let f : y ≡ x = heads_same key x y xs ys one two e (to x (inl refl)) (from y (inl refl)) in
    ap (λ z. z ∷ xs) (sym f) ∙ ap (λ l. y ∷ l) (same_lists key xs ys one.1 two.1 d.1 e.1
    (λ z has. tails_hold key x y z xs ys f d.0 has (to z (inr has)))
    (λ z has. tails_hold key y x z ys xs (sym f) e.0 has (from z (inr has))))

-- sorted sets stand by rising moments
rising_from : (k : Key) (l : List BadSet) → NoneBefore bad_key k l → AreSorted bad_key l → AreBadInOrder k.at l
rising_from k [] none sorted = tt
rising_from k (x ∷ xs) none sorted = ((follows (bad_key x) k none.0).0, rising_from (bad_key x) xs sorted.0 sorted.1)

pub sorted_rising : (l : List BadSet) → AreSorted bad_key l → AreBadInOrder 0 l
sorted_rising [] sorted = tt
sorted_rising (x ∷ xs) sorted = (omega arith, rising_from (bad_key x) xs sorted.0 sorted.1)

pub knows_bad : (x y : BadSet) → same_bad x y ≡ true → bad_key x ≡ bad_key y
knows_bad x y e =
    let one = and_parts (eqb x.at y.at) _ e in
    let two = and_parts (eqb x.id y.id) _ one.1 in
    ap (λ n. key_of n x.id x.index) (eqb-true x.at y.at one.0) ∙ (ap (λ n. key_of y.at n x.index) (eqb-true x.id y.id two.0) ∙ ap (λ n. key_of y.at y.id n) (eqb-true x.index y.index two.1))
