-- Where the state stays as it was when a set comes or goes, or the base is set, and which musts keep their spans.
use Rattle.std.proofs.Common.{◌≡◌, ℕ, ◌+◌, ◌-◌, ◌<◌, ◌≤◌, ◌==◌, ◌&&◌, not, Bool, true, false, cond, List, [], ◌∷◌, refl, ap, sym, ◌∙◌, arith, eqb, ltb, leb, min, max}
use Rattle.std.proofs.lemmas.Bool.{and_parts, eqb-true, ltb-false, leb-false, lt-ltb, le-ltb, le-leb, lt-leb}
use Rattle.std.proofs.Math.Bool.{and-false}
use Rattle.pl_points.specs.declared.span.Span.{Span}
use Rattle.pl_lists.specs.Lists.{back}
use Rattle.pl_points.specs.Spans.{spans_of, span}
use Rattle.pl_points.specs.Standing.{without}
use Rattle.pl_points.proofs.Maximal.{local}
use Rattle.pl_state.specs.declared.reservation.Setting.{Setting}
use Rattle.pl_state.specs.declared.reservation.Must.{Must}
use Rattle.pl_state.specs.Sets.{set_before, same_setting, with_set, AreInOrder, is_passed, state_from}
use Rattle.pl_state.specs.Musts.{broken_spans, broken_one}
use Rattle.pl_state.specs.Near.{touches, next_moment, rest_after}
use Rattle.pl_state.proofs.Orders.{not_before}

pub same_at : (x u : Setting) → same_setting x u ≡ true → x.at ≡ u.at
same_at x u e = eqb-true x.at u.at (and_parts (eqb x.at u.at) _ e).0

-- a set says nothing of the moments before it
skip_early : (base t v : ℕ) (u : Setting) (b : List Setting) → t < u.at → state_from base t v (u ∷ b) ≡ state_from base t v b
skip_early base t v u b lt =
    let e : leb u.at t ≡ false = lt-leb u.at t lt in
    let f : (ltb base u.at && leb u.at t) ≡ false = ap (λ c. ltb base u.at && c) e ∙ and-false (ltb base u.at) in
    ap (λ c. state_from base t (cond c u.state v) b) f

-- nor of those from the next set on
skip_late : (base t v h : ℕ) (u : Setting) (b : List Setting) → AreInOrder u.at b → t < h → next_moment h b ≤ t → state_from base t v (u ∷ b) ≡ state_from base t v b
skip_late base t v h u [] ordered lt le = absurd (omega (arith, lt, le))
skip_late base t v h u (y ∷ ys) ordered lt le = cases (ltb base y.at) refl
  where
    passed : leb y.at t ≡ true
    passed = le-leb y.at t (omega (arith, lt, le))

    cases : (c : Bool) → ltb base y.at ≡ c → state_from base t v (u ∷ y ∷ ys) ≡ state_from base t v (y ∷ ys)
    cases true e =
        let f : (ltb base y.at && leb y.at t) ≡ true = ap (λ c. c && leb y.at t) e ∙ passed in
        ap (λ c. state_from base t (cond c y.state (cond (ltb base u.at && leb u.at t) u.state v)) ys) f ∙ sym (ap (λ c. state_from base t (cond c y.state v) ys) f)
    cases false e =
        let g : (ltb base u.at && leb u.at t) ≡ false = ap (λ c. c && leb u.at t) (le-ltb base u.at (omega (arith, ordered.0, ltb-false base y.at e))) in
        ap (λ c. state_from base t (cond c u.state v) (y ∷ ys)) g

pub put_early : (base t v : ℕ) (u : Setting) (xs : List Setting) → t < u.at → state_from base t v xs ≡ state_from base t v (with_set u xs)
put_early base t v u [] lt = sym (skip_early base t v u [] lt)
put_early base t v u (x ∷ xs) lt = cases (set_before u x) refl (λ w. put_early base t w u xs lt)
  where
    cases : (c : Bool) → set_before u x ≡ c → ((w : ℕ) → state_from base t w xs ≡ state_from base t w (with_set u xs)) → state_from base t v (x ∷ xs) ≡ state_from base t v (with_set u (x ∷ xs))
    cases true e more = rw e (more (cond (ltb base x.at && leb x.at t) x.state v))
    cases false e more = rw e (sym (skip_early base t v u (x ∷ xs) lt))

pub put_late : (base t v c h : ℕ) (u : Setting) (xs : List Setting) → AreInOrder c xs → t < h → next_moment h (back (set_before u) xs) ≤ t → state_from base t v xs ≡ state_from base t v (with_set u xs)
put_late base t v c h u [] ordered lt le = absurd (omega (arith, lt, le))
put_late base t v c h u (x ∷ xs) ordered lt le = cases (set_before u x) refl le (λ w l. put_late base t w x.at h u xs ordered.1 lt l)
  where
    cases : (b : Bool) → set_before u x ≡ b → next_moment h (cond b (back (set_before u) xs) (x ∷ xs)) ≤ t → ((w : ℕ) → next_moment h (back (set_before u) xs) ≤ t → state_from base t w xs ≡ state_from base t w (with_set u xs)) → state_from base t v (x ∷ xs) ≡ state_from base t v (with_set u (x ∷ xs))
    cases true e l more = rw e (more (cond (ltb base x.at && leb x.at t) x.state v) l)
    cases false e l more = rw e (sym (skip_late base t v h u (x ∷ xs) (not_before u x e, ordered.1) lt l))

pub take_early : (base t v : ℕ) (u : Setting) (xs : List Setting) → t < u.at → state_from base t v xs ≡ state_from base t v (without same_setting u xs)
take_early base t v u [] lt = refl
take_early base t v u (x ∷ xs) lt = cases (same_setting x u) refl (λ w. take_early base t w u xs lt)
  where
    cases : (b : Bool) → same_setting x u ≡ b → ((w : ℕ) → state_from base t w xs ≡ state_from base t w (without same_setting u xs)) → state_from base t v (x ∷ xs) ≡ state_from base t v (without same_setting u (x ∷ xs))
    cases true e more = rw e (skip_early base t v x xs (omega (arith, lt, same_at x u e)))
    cases false e more = rw e (more (cond (ltb base x.at && leb x.at t) x.state v))

pub take_late : (base t v c h : ℕ) (u : Setting) (xs : List Setting) → AreInOrder c xs → t < h → next_moment h (rest_after same_setting u xs) ≤ t → state_from base t v xs ≡ state_from base t v (without same_setting u xs)
take_late base t v c h u [] ordered lt le = refl
take_late base t v c h u (x ∷ xs) ordered lt le = cases (same_setting x u) refl le (λ w l. take_late base t w x.at h u xs ordered.1 lt l)
  where
    cases : (b : Bool) → same_setting x u ≡ b → next_moment h (cond b xs (rest_after same_setting u xs)) ≤ t → ((w : ℕ) → next_moment h (rest_after same_setting u xs) ≤ t → state_from base t w xs ≡ state_from base t w (without same_setting u xs)) → state_from base t v (x ∷ xs) ≡ state_from base t v (without same_setting u (x ∷ xs))
    cases true e l more = rw e (skip_late base t v h x xs ordered.1 lt l)
    cases false e l more = rw e (more (cond (ltb base x.at && leb x.at t) x.state v) l)

-- behind the later of two bases they say the same
state_bases : (base m c t v : ℕ) (xs : List Setting) → AreInOrder c xs → base ≤ m → m < c → state_from base t v xs ≡ state_from m t v xs
state_bases base m c t v [] ordered le lt = refl
state_bases base m c t v (x ∷ xs) ordered le lt =
    let one : ltb m x.at ≡ true = lt-ltb m x.at (omega (arith, lt, ordered.0)) in
    let other : ltb base x.at ≡ true = lt-ltb base x.at (omega (arith, le, lt, ordered.0)) in
    ap (λ b. state_from base t (cond (b && leb x.at t) x.state v) xs) (other ∙ sym one) ∙ state_bases base m x.at t (cond (ltb m x.at && leb x.at t) x.state v) xs ordered.1 le (omega (arith, lt, ordered.0))

pub rebase_late : (base m c h t v w : ℕ) (xs : List Setting) → AreInOrder c xs → base ≤ m → m ≤ t → t < h → next_moment h (back (is_passed m) xs) ≤ t → state_from base t v xs ≡ state_from m t w xs
rebase_late base m c h t v w [] ordered le low lt late = absurd (omega (arith, lt, late))
rebase_late base m c h t v w (x ∷ xs) ordered le low lt late = cases (leb x.at m) refl late (λ k n l. rebase_late base m x.at h t k n xs ordered.1 le low lt l)
  where
    cases : (b : Bool) → leb x.at m ≡ b → next_moment h (cond b (back (is_passed m) xs) (x ∷ xs)) ≤ t → ((k n : ℕ) → next_moment h (back (is_passed m) xs) ≤ t → state_from base t k xs ≡ state_from m t n xs) → state_from base t v (x ∷ xs) ≡ state_from m t w (x ∷ xs)
    cases true e l more = more (cond (ltb base x.at && leb x.at t) x.state v) (cond (ltb m x.at && leb x.at t) x.state w) l
    cases false e l more =
        let gt : m < x.at = leb-false x.at m e in
        let passed : leb x.at t ≡ true = le-leb x.at t (omega (arith, lt, l)) in
        let one : (ltb base x.at && leb x.at t) ≡ true = ap (λ b. b && leb x.at t) (lt-ltb base x.at (omega (arith, le, gt))) ∙ passed in
        let other : (ltb m x.at && leb x.at t) ≡ true = ap (λ b. b && leb x.at t) (lt-ltb m x.at gt) ∙ passed in
        ap (λ b. state_from base t (cond b x.state v) xs) one ∙ (state_bases base m x.at t x.state xs ordered.1 le gt ∙ sym (ap (λ b. state_from m t (cond b x.state w) xs) other))

-- from the present moment up to the horizon the state changes in the window alone
pub record Stays (old new : ℕ → ℕ) (moment h from to : ℕ) : Type 0 where
  pub early : (t : ℕ) → moment ≤ t → t < h → t < from → old t ≡ new t
  pub late : (t : ℕ) → moment ≤ t → t < h → to ≤ t → old t ≡ new t

pub one_near : (old new : ℕ → ℕ) (moment h : ℕ) (near : Span) → Stays old new moment h near.from near.to → (m : Must) → touches near m ≡ false → broken_one old moment h m ≡ broken_one new moment h m
one_near old new moment h near stays m away = ap (broken_spans m) (local (λ t. not (old t == m.state)) (λ t. not (new t == m.state)) (max m.from moment) (min m.to h - max m.from moment) (λ t low high. ap (λ k. not (k == m.state)) (same t low high)))
  where
    same : (t : ℕ) → max m.from moment ≤ t → t < max m.from moment + (min m.to h - max m.from moment) → old t ≡ new t
    same t low high = cases (ltb m.from near.to) refl away
      where
        cases : (b : Bool) → ltb m.from near.to ≡ b → (b && ltb near.from m.to) ≡ false → old t ≡ new t
        cases true e f = stays.early t (omega (arith, low)) (omega (arith, low, high)) (omega (arith, low, high, ltb-false near.from m.to f))
        cases false e f = stays.late t (omega (arith, low)) (omega (arith, low, high)) (omega (arith, low, ltb-false m.from near.to e))

pub one_later : (state : ℕ → ℕ) (moment now h : ℕ) → moment ≤ now → (m : Must) → touches (span moment now) m ≡ false → broken_one state moment h m ≡ broken_one state now h m
one_later state moment now h le m away = cases (ltb m.from now) refl away
  where
    cases : (b : Bool) → ltb m.from now ≡ b → (b && ltb moment m.to) ≡ false → broken_one state moment h m ≡ broken_one state now h m
    cases true e f =
        let past : m.to ≤ moment = ltb-false moment m.to f in
        let one : min m.to h - max m.from moment ≡ 0 = omega (arith, past) in
        let other : min m.to h - max m.from now ≡ 0 = omega (arith, past, le) in
        ap (λ n. broken_spans m (spans_of (λ t. not (state t == m.state)) (max m.from moment) n)) one ∙ sym (ap (λ n. broken_spans m (spans_of (λ t. not (state t == m.state)) (max m.from now) n)) other)
    cases false e f =
        let same : max m.from moment ≡ max m.from now = omega (arith, le, ltb-false m.from now e) in
        ap (λ n. broken_spans m (spans_of (λ t. not (state t == m.state)) n (min m.to h - n))) same
