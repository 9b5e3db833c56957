-- Sets in order, and the state that they leave.
use Rattle.std.proofs.Common.{◌≡◌, ℕ, zero, suc, ◌<◌, ◌≤◌, ◌+◌, ◌-◌, Bool, true, false, ◌&&◌, cond, List, [], ◌∷◌, ◌++◌, length, get_or, take, drop, refl, ap, sym, ◌∙◌, subst, arith, eqb, ltb, leb, inl, inr}
use Rattle.std.proofs.lemmas.Bool.{cond_both, or_cases, and_parts, or_parts, eqb-true, ltb-true, ltb-false, leb-true, leb-false, le-ltb, le-leb, lt-leb}
use Rattle.std.proofs.Math.Bool.{and-false}
use Rattle.std.proofs.Math.Seq.{take-add}
use Rattle.pl_lists.specs.Lists.{front, back}
use Rattle.pl_points.specs.Standing.{without}
use Rattle.pl_points.proofs.Parting.{drop_next}
use Rattle.pl_state.specs.declared.reservation.Setting.{Setting}
use Rattle.pl_state.specs.Sets.{set_before, same_setting, with_set, AreInOrder, is_passed, state_from}
use Rattle.pl_state.specs.Near.{next_moment}

pub order_later : (b c : ℕ) (xs : List Setting) → b ≤ c → AreInOrder c xs → AreInOrder b xs
order_later b c [] le ordered = tt
order_later b c (x ∷ xs) le ordered = (omega (arith, le, ordered.0), ordered.1)

pub before_earlier : (u x : Setting) → set_before u x ≡ true → x.at ≤ u.at
before_earlier u x e = elim (or_cases (ltb x.at u.at) _ e) [
  | inl f ↦ omega (arith, ltb-true x.at u.at f)
  | inr f ↦ omega (arith, eqb-true x.at u.at (and_parts (eqb x.at u.at) _ f).0)
]

pub not_before : (u x : Setting) → set_before u x ≡ false → u.at ≤ x.at
not_before u x e = ltb-false x.at u.at (or_parts (ltb x.at u.at) _ e).0

-- one more set leaves them in order
pub order_with : (c : ℕ) (u : Setting) (xs : List Setting) → c ≤ u.at → AreInOrder c xs → AreInOrder c (with_set u xs)
order_with c u [] le ordered = (le, tt)
order_with c u (x ∷ xs) le ordered = cases (set_before u x) refl (order_with x.at u xs)
  where
    cases : (v : Bool) → set_before u x ≡ v → (x.at ≤ u.at → AreInOrder x.at xs → AreInOrder x.at (with_set u xs)) → AreInOrder c (with_set u (x ∷ xs))
    cases true e more = rw e (ordered.0, more (before_earlier u x e) ordered.1)
    cases false e more = rw e (le, (not_before u x e, ordered.1))

pub order_without : (c : ℕ) (u : Setting) (xs : List Setting) → AreInOrder c xs → AreInOrder c (without same_setting u xs)
order_without c u [] ordered = tt
order_without c u (x ∷ xs) ordered = cond_both (same_setting x u) xs (x ∷ without same_setting u xs) (λ l. AreInOrder c l)
    (λ e. order_later c x.at xs ordered.0 ordered.1) (λ e. (ordered.0, order_without x.at u xs ordered.1))

-- sets that come later leave the state as it is
pub state_later : (base t v c : ℕ) (xs : List Setting) → AreInOrder c xs → t < c → state_from base t v xs ≡ v
state_later base t v c [] ordered lt = refl
state_later base t v c (x ∷ xs) ordered lt =
    let e : leb x.at t ≡ false = lt-leb x.at t (omega (arith, lt, ordered.0)) in
    let f : (ltb base x.at && leb x.at t) ≡ false = rw e (and-false (ltb base x.at)) in
    ap (λ b. state_from base t (cond b x.state v) xs) f ∙ state_later base t v x.at xs ordered.1 (omega (arith, lt, ordered.0))

-- from a moment on, before the next set
pub state_stays : (base v c at t : ℕ) (xs : List Setting) → AreInOrder c xs → at ≤ t → ((p : Setting) (more : List Setting) → back (is_passed at) xs ≡ p ∷ more → t < p.at) → state_from base t v xs ≡ state_from base at v xs
state_stays base v c at t [] ordered le under = refl
state_stays base v c at t (x ∷ xs) ordered le under = cases (is_passed at x) refl (λ w h. state_stays base w x.at at t xs ordered.1 le h)
  where
    cases : (b : Bool) → is_passed at x ≡ b → ((w : ℕ) → ((p : Setting) (more : List Setting) → back (is_passed at) xs ≡ p ∷ more → t < p.at) → state_from base t w xs ≡ state_from base at w xs) → state_from base t v (x ∷ xs) ≡ state_from base at v (x ∷ xs)
    cases true e more =
        let f : leb x.at t ≡ true = le-leb x.at t (omega (arith, le, leb-true x.at at e)) in
        rw f (rw e (more (cond (ltb base x.at && true) x.state v) (λ p rest is. under p rest (rw e is))))
    cases false e more =
        let gt : t < x.at = under x xs (rw e refl) in
        state_later base t v x.at (x ∷ xs) (omega arith, ordered.1) gt ∙ sym (state_later base at v x.at (x ∷ xs) (omega arith, ordered.1) (leb-false x.at at e))

order_at : (c : ℕ) (xs : List Setting) (n : ℕ) (p : Setting) → AreInOrder c xs → n < length xs → p ≡ get_or xs n p → c ≤ p.at
order_at c [] n p ordered lt is = absurd (omega (arith, lt))
order_at c (x ∷ xs) zero p ordered lt is = let e : p.at ≡ x.at = ap (λ (q : Setting). q.at) is in omega (arith, e, ordered.0)
order_at c (x ∷ xs) (suc n) p ordered lt is = omega (arith, ordered.0, order_at x.at xs n p ordered.1 (omega (arith, lt)) is)

passes : (at n : ℕ) (x : Setting) (xs : List Setting) → take (suc n) (x ∷ xs) ≡ front (is_passed at) (x ∷ xs) → (is_passed at x ≡ true) × (take n xs ≡ front (is_passed at) xs)
passes at n x xs e = cases (is_passed at x) refl
  where
    tails : (l k : List Setting) → x ∷ l ≡ x ∷ k → l ≡ k
    tails l k h = cc

    cases : (b : Bool) → is_passed at x ≡ b → (is_passed at x ≡ true) × (take n xs ≡ front (is_passed at) xs)
    cases true f = (f, tails (take n xs) (front (is_passed at) xs) (e ∙ rw f refl))
    cases false f = let h : x ∷ take n xs ≡ [] = e ∙ rw f refl in absurd (cc)

-- before the first set that is passed
pub state_none : (base v c at : ℕ) (xs : List Setting) → AreInOrder c xs → [] ≡ front (is_passed at) xs → state_from base at v xs ≡ v
state_none base v c at [] ordered before = refl
state_none base v c at (x ∷ xs) ordered before = cases (is_passed at x) refl
  where
    cases : (b : Bool) → is_passed at x ≡ b → state_from base at v (x ∷ xs) ≡ v
    cases true f = let h : [] ≡ x ∷ front (is_passed at) xs = before ∙ rw f refl in absurd (cc)
    cases false f = state_later base at v x.at (x ∷ xs) (omega arith, ordered.1) (leb-false x.at at f)

-- the last set that is passed gives the state
pub state_last : (base v c : ℕ) (xs : List Setting) (n at : ℕ) (p : Setting) → AreInOrder c xs → take (suc n) xs ≡ front (is_passed at) xs → n < length xs → p ≡ get_or xs n p → state_from base at v xs ≡ cond (ltb base p.at) p.state v
state_last base v c [] n at p ordered before lt is = absurd (omega (arith, lt))
state_last base v c (x ∷ xs) zero at p ordered before lt is =
    let h = passes at 0 x xs before in
    let same : x ≡ p = sym is in
    rw h.0 (state_none base (cond (ltb base x.at && true) x.state v) x.at at xs ordered.1 h.1 ∙ (and_yes (ltb base x.at) ∙ ap (λ (q : Setting). cond (ltb base q.at) q.state v) same))
  where
    and_yes : (b : Bool) → cond (b && true) x.state v ≡ cond b x.state v
    and_yes true = refl
    and_yes false = refl
state_last base v c (x ∷ xs) (suc n) at p ordered before lt is =
    let h = passes at (suc n) x xs before in
    rw h.0 (state_last base (cond (ltb base x.at && true) x.state v) x.at xs n at p ordered.1 h.1 (omega (arith, lt)) is ∙ settle (ltb base p.at) refl (order_at x.at xs n p ordered.1 (omega (arith, lt)) is))
  where
    settle : (b : Bool) → ltb base p.at ≡ b → x.at ≤ p.at → cond b p.state (cond (ltb base x.at && true) x.state v) ≡ cond b p.state v
    settle true e le = refl
    settle false e le = let f : ltb base x.at ≡ false = le-ltb base x.at (omega (arith, le, ltb-false base p.at e)) in rw f refl

-- the list without the first such item, by its place
pub without_at : {X : Type 0} (same : X → X → Bool) (u : X) (xs : List X) (i : ℕ) (p : X) → take i xs ++ without same u (drop i xs) ≡ without same u xs → i < length xs → p ≡ get_or xs i p → same p u ≡ true → take i xs ++ drop (suc i) xs ≡ without same u xs
without_at same u xs i p rest lt is yes_same =
    let e : drop i xs ≡ p ∷ drop (suc i) xs = drop_next xs i p lt ∙ ap (λ q. q ∷ drop (suc i) xs) (sym is) in
    let f : without same u (p ∷ drop (suc i) xs) ≡ drop (suc i) xs = rw yes_same refl in
    ap (λ l. take i xs ++ l) (sym f ∙ sym (ap (without same u) e)) ∙ rest

-- the next set after a moment is not before it
pub later_moment : (h m : ℕ) (xs : List Setting) → m ≤ h → m ≤ next_moment h (back (is_passed m) xs)
later_moment h m [] le = le
later_moment h m (x ∷ xs) le = cases (leb x.at m) refl (later_moment h m xs le)
  where
    cases : (b : Bool) → leb x.at m ≡ b → m ≤ next_moment h (back (is_passed m) xs) → m ≤ next_moment h (cond b (back (is_passed m) xs) (x ∷ xs))
    cases true e more = more
    cases false e more = omega (arith, le, leb-false x.at m e)

pub next_within : (h : ℕ) (xs : List Setting) → next_moment h xs ≤ h
next_within h [] = omega arith
next_within h (x ∷ xs) = omega arith

-- and it is behind the moment
moment_later : (h m : ℕ) (xs : List Setting) → m < h → m < next_moment h (back (is_passed m) xs)
moment_later h m [] lt = lt
moment_later h m (x ∷ xs) lt = cases (leb x.at m) refl (moment_later h m xs lt)
  where
    cases : (b : Bool) → leb x.at m ≡ b → m < next_moment h (back (is_passed m) xs) → m < next_moment h (cond b (back (is_passed m) xs) (x ∷ xs))
    cases true e more = more
    cases false e more = omega (arith, lt, leb-false x.at m e)

-- up to it the state stays as it is
pub stays_until : (base v at t h : ℕ) (xs : List Setting) → AreInOrder 0 xs → at ≤ t → t < next_moment h (back (is_passed at) xs) → state_from base t v xs ≡ state_from base at v xs
stays_until base v at t h xs ordered low high =
    state_stays base v 0 at t xs ordered low (λ p more is. omega (arith, high, ap (next_moment h) is))

-- the end of a piece
pub end_later : (h at end : ℕ) (l xs : List Setting) → end ≡ next_moment h l → l ≡ back (is_passed at) xs → at < h → at < end
end_later h at end l xs is rest lt = subst (λ n. at < n) (sym (is ∙ ap (next_moment h) rest)) (moment_later h at xs lt)

passed_both : (a z : ℕ) (xs : List Setting) → a ≤ z → (front (is_passed z) xs ≡ front (is_passed a) xs ++ front (is_passed z) (back (is_passed a) xs)) × (back (is_passed z) xs ≡ back (is_passed z) (back (is_passed a) xs))
passed_both a z [] le = (refl, refl)
passed_both a z (x ∷ xs) le = cases (leb x.at a) refl (passed_both a z xs le)
  where
    cases : (b : Bool) → leb x.at a ≡ b → (front (is_passed z) xs ≡ front (is_passed a) xs ++ front (is_passed z) (back (is_passed a) xs)) × (back (is_passed z) xs ≡ back (is_passed z) (back (is_passed a) xs))
        → (front (is_passed z) (x ∷ xs) ≡ cond b (x ∷ front (is_passed a) xs) [] ++ front (is_passed z) (cond b (back (is_passed a) xs) (x ∷ xs))) × (back (is_passed z) (x ∷ xs) ≡ back (is_passed z) (cond b (back (is_passed a) xs) (x ∷ xs)))
    cases true e more =
        let f : leb x.at z ≡ true = le-leb x.at z (omega (arith, le, leb-true x.at a e)) in
        (rw f (ap (λ l. x ∷ l) more.0), rw f more.1)
    cases false e more = (refl, refl)

-- those that are passed at a later moment, sought from the place of those at an earlier one
pub passed_on : (a z n m : ℕ) (xs : List Setting) → a ≤ z → n ≤ m → take n xs ≡ front (is_passed a) xs → drop n xs ≡ back (is_passed a) xs → take (m - n) (drop n xs) ≡ front (is_passed z) (drop n xs) → drop m xs ≡ back (is_passed z) (drop n xs)
    → (take m xs ≡ front (is_passed z) xs) × (drop m xs ≡ back (is_passed z) xs)
passed_on a z n m xs le on first rest next behind =
    let both = passed_both a z xs le in
    let same : m ≡ n + (m - n) = omega (arith, on) in (
      ap (λ k. take k xs) same ∙ take-add n (m - n) xs ∙ ap (λ l. l ++ take (m - n) (drop n xs)) first
          ∙ ap (λ l. front (is_passed a) xs ++ l) (next ∙ ap (front (is_passed z)) rest) ∙ sym both.0,
      behind ∙ ap (back (is_passed z)) rest ∙ sym both.1,
    )
