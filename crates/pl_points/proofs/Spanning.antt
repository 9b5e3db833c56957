-- Lists of spans that lie apart, and the moments that they cover.
use Rattle.std.proofs.Common.{◌≡◌, ℕ, zero, suc, ◌<◌, ◌≤◌, Bool, true, false, ◌&&◌, ◌||◌, cond, List, [], ◌∷◌, ◌++◌, length, get_or, set, refl, ap, sym, ◌∙◌, arith, eqb, ltb, leb}
use Rattle.std.proofs.lemmas.Bool.{cond_both, eqb-true, eqb-false, eq-eqb, ne_eqb, and_parts, leb-true, ltb-true}
use Rattle.std.proofs.lemmas.Bool.Decides.{nat_tests}
use Rattle.std.proofs.lemmas.List.{get_or_default}
use Rattle.std.proofs.Math.Bool.{or-false, or_assoc}
use Rattle.pl_points.specs.declared.span.Span.{Span}
use Rattle.pl_points.specs.Spans.{within, covers, AreApart, span, joined}

pub within_two : (a b c x : ℕ) → a ≤ b → b ≤ c → within a c x ≡ (within a b x || within b c x)
within_two a b c x le more = grind (arith, nat_tests)

pub apart_later : (b c e : ℕ) (s : List Span) → b ≤ c → AreApart c e s → AreApart b e s
apart_later b c e [] le apart = tt
apart_later b c e (p ∷ s) le apart = (omega (arith, le, apart.0), apart.1, apart.2, apart.3)

pub apart_wider : (c e d : ℕ) (s : List Span) → e ≤ d → AreApart c e s → AreApart c d s
apart_wider c e d [] le apart = tt
apart_wider c e d (p ∷ s) le apart = (apart.0, apart.1, omega (arith, le, apart.2), apart_wider (suc p.to) e d s le apart.3)

pub covers-joined : (c a e : ℕ) (s t : List Span) → AreApart c a s → AreApart a e t → (x : ℕ) → covers (joined s t) x ≡ (covers s x || covers t x)
covers-joined c a e [] t left right x = refl
covers-joined c a e (p ∷ []) [] left right x = sym (or-false (within p.from p.to x || false))
covers-joined c a e (p ∷ []) (q ∷ t) left right x =
    let goal : List Span → Type 0 = λ l. covers l x ≡ ((within p.from p.to x || false) || (within q.from q.to x || covers t x)) in
    cond_both (eqb p.to q.from) (span p.from q.to ∷ t) (p ∷ q ∷ t) goal
    (λ e. rw (or-false (within p.from p.to x)) (one (eqb-true p.to q.from e) ∙ or_assoc (within p.from p.to x) (within q.from q.to x) (covers t x)))
    (λ e. rw (or-false (within p.from p.to x)) refl)
  where
    one : p.to ≡ q.from → (within p.from q.to x || covers t x) ≡ ((within p.from p.to x || within q.from q.to x) || covers t x)
    one e =
        let two : within p.from q.to x ≡ (within p.from p.to x || within p.to q.to x) = within_two p.from p.to q.to x (omega (arith, left.1)) (omega (arith, right.1, e)) in
        ap (λ b. b || covers t x) (two ∙ ap (λ n. within p.from p.to x || within n q.to x) e)
covers-joined c a e (p ∷ q ∷ s) t left right x =
    ap (λ b. within p.from p.to x || b) (covers-joined (suc p.to) a e (q ∷ s) t left.3 right x) ∙ sym (or_assoc (within p.from p.to x) (covers (q ∷ s) x) (covers t x))

pub apart-joined : (c a e : ℕ) (s t : List Span) → c ≤ a → a ≤ e → AreApart c a s → AreApart a e t → AreApart c e (joined s t)
apart-joined c a e [] t le more left right = apart_later c a e t le right
apart-joined c a e (p ∷ []) [] le more left right = (left.0, left.1, omega (arith, left.2, more), tt)
apart-joined c a e (p ∷ []) (q ∷ t) le more left right =
    cond_both (eqb p.to q.from) (span p.from q.to ∷ t) (p ∷ q ∷ t) (λ l. AreApart c e l)
    (λ f. (left.0, omega (arith, left.1, right.1, eqb-true p.to q.from f), right.2, right.3))
    (λ f. (left.0, left.1, omega (arith, left.2, more), (gap (eqb-false p.to q.from f), right.1, right.2, right.3)))
  where
    gap : (p.to ≡ q.from → ⊥) → suc p.to ≤ q.from
    gap h = grind (arith, h, left.2, right.0)
apart-joined c a e (p ∷ q ∷ s) t le more left right =
    (left.0, left.1, omega (arith, left.3.0, left.3.1, left.3.2, more), apart-joined (suc p.to) a e (q ∷ s) t (omega (arith, left.3.0, left.3.1, left.3.2)) more left.3 right)

-- one span after others: it widens the last where they touch
pub joined_set : (xs : List Span) (n : ℕ) (p : Span) (from to : ℕ) → length xs ≡ suc n → p ≡ get_or xs n p → p.to ≡ from → joined xs (span from to ∷ []) ≡ set xs n (span p.from to)
joined_set [] n p from to len is touch = absurd (omega (arith, len))
joined_set (x ∷ []) zero p from to len is touch =
    let e : eqb x.to from ≡ true = eq-eqb x.to from (ap (λ (q : Span). q.to) (sym is) ∙ touch) in
    rw e (ap (λ (q : Span). span q.from to ∷ []) (sym is))
joined_set (x ∷ []) (suc n) p from to len is touch = absurd (omega (arith, len))
joined_set (x ∷ y ∷ xs) zero p from to len is touch = absurd (omega (arith, len))
joined_set (x ∷ y ∷ xs) (suc n) p from to len is touch = ap (λ l. x ∷ l) (joined_set (y ∷ xs) n p from to (omega (arith, len)) is touch)

-- else it follows
pub joined_push : (xs : List Span) (q : Span) → ((n : ℕ) (p : Span) → length xs ≡ suc n → p ≡ get_or xs n p → p.to ≡ q.from → ⊥) → joined xs (q ∷ []) ≡ xs ++ q ∷ []
joined_push [] q apart = refl
joined_push (x ∷ []) q apart = let e : eqb x.to q.from ≡ false = ne_eqb x.to q.from (apart 0 x refl refl) in rw e refl
joined_push (x ∷ y ∷ xs) q apart = ap (λ l. x ∷ l) (joined_push (y ∷ xs) q (λ n p len is. apart (suc n) p (omega (arith, len)) is))

-- more spans than one
pub joined_cons : (xs : List Span) (q : Span) (t : List Span) → joined xs (q ∷ t) ≡ joined xs (q ∷ []) ++ t
joined_cons [] q t = refl
joined_cons (x ∷ []) q t = same (eqb x.to q.from)
  where
    same : (b : Bool) → cond b (span x.from q.to ∷ t) (x ∷ q ∷ t) ≡ cond b (span x.from q.to ∷ []) (x ∷ q ∷ []) ++ t
    same true = refl
    same false = refl
joined_cons (x ∷ y ∷ xs) q t = ap (λ l. x ∷ l) (joined_cons (y ∷ xs) q t)

-- what one piece adds
pub apart_piece : (a b : ℕ) (xs : List Span) → a < b → AreApart 0 a xs → AreApart 0 b (joined xs (span a b ∷ []))
apart_piece a b xs lt apart = apart-joined 0 a b xs (span a b ∷ []) (omega arith) (omega (arith, lt)) apart (omega arith, lt, omega arith, tt)

pub covers_piece : (a b : ℕ) (xs : List Span) → a < b → AreApart 0 a xs → (t : ℕ) → covers (joined xs (span a b ∷ [])) t ≡ (covers xs t || within a b t)
covers_piece a b xs lt apart t = covers-joined 0 a b xs (span a b ∷ []) apart (omega arith, lt, omega arith, tt) t ∙ ap (λ v. covers xs t || v) (or-false (within a b t))

pub read_same : (xs : List Span) (i : ℕ) (p q : Span) → i < length xs → p ≡ get_or xs i p → q ≡ get_or xs i q → p ≡ q
read_same xs i p q lt e f = e ∙ get_or_default xs i p q lt ∙ sym f

pub and_true : (a b : Bool) → b ≡ true → a ≡ (a && b)
and_true true b e = sym e
and_true false b e = refl

and_same : (w x v : Bool) → (w ≡ true → x ≡ v) → (w && v) ≡ (w && x)
and_same true x v h = sym (h refl)
and_same false x v h = refl

either_window : (c w v x : Bool) → ((c || (w && x)) || (v && x)) ≡ (c || ((w || v) && x))
either_window true w v x = refl
either_window false true true true = refl
either_window false true true false = refl
either_window false true false x = or-false x
either_window false false v x = refl

pub within_true : (a b t : ℕ) → within a b t ≡ true → (a ≤ t) × (t < b)
within_true a b t e = (leb-true a t (and_parts (leb a t) (ltb t b) e).0, ltb-true t b (and_parts (leb a t) (ltb t b) e).1)

-- one piece more of a window
pub piece_more : (a b d t : ℕ) (c x v : Bool) → a ≤ b → b ≤ d → (b ≤ t → t < d → x ≡ v) → ((c || (within a b t && x)) || (within b d t && v)) ≡ (c || (within a d t && x))
piece_more a b d t c x v le more same =
    ap (λ w. (c || (within a b t && x)) || w) (and_same (within b d t) x v (λ e. same (within_true b d t e).0 (within_true b d t e).1))
    ∙ (either_window c (within a b t) (within b d t) x ∙ ap (λ w. c || (w && x)) (sym (within_two a b d t le more)))
