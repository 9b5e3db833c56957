-- What is told outside the window of a change.
use Rattle.std.proofs.Common.{◌≡◌, ℕ, ◌<◌, ◌≤◌, ◌&&◌, not, Bool, true, false, cond, List, [], ◌∷◌, ◌++◌, refl, ap, sym, ◌∙◌, arith, ltb, leb, min}
use Rattle.std.proofs.lemmas.Bool.{and_parts, ltb-true, ltb-false, leb-true, leb-false, lt-ltb, le-leb}
use Rattle.pl_lists.specs.Lists.{front, back}
use Rattle.pl_points.specs.Standing.{without}
use Rattle.pl_state.specs.declared.reservation.Setting.{Setting}
use Rattle.pl_state.specs.Sets.{set_before, same_setting, with_set, AreInOrder, is_passed, is_counted, bad_set, bad_from}
use Rattle.pl_state.specs.Near.{next_moment, rest_after, bad_before, bad_by}
use Rattle.pl_state.proofs.Orders.{not_before, before_earlier}
use Rattle.pl_state.proofs.Staying.{same_at}
use Rattle.pl_state.proofs.Steps.{told, told_below, back_over, front_same, front_none, none_late}

pub put_front : (al : ℕ → ℕ → Bool) (base h mo s a c : ℕ) (u : Setting) (xs : List Setting) → AreInOrder c xs → a ≤ u.at → front (bad_before a) (bad_from al base h mo s xs) ≡ front (bad_before a) (bad_from al base h mo s (with_set u xs))
put_front al base h mo s a c u [] ordered le = sym (front_none al base h mo s a u.at (u ∷ []) (omega arith, tt) le)
put_front al base h mo s a c u (x ∷ xs) ordered le = cases (set_before u x) refl (put_front al base h mo (cond (is_counted base h x) x.state s) a x.at u xs ordered.1 le)
  where
    next : ℕ
    next = cond (is_counted base h x) x.state s

    cases : (b : Bool) → set_before u x ≡ b → front (bad_before a) (bad_from al base h mo next xs) ≡ front (bad_before a) (bad_from al base h mo next (with_set u xs)) → front (bad_before a) (bad_from al base h mo s (x ∷ xs)) ≡ front (bad_before a) (bad_from al base h mo s (with_set u (x ∷ xs)))
    cases true e more = rw e (front_same (bad_before a) (told al base h mo s x) (bad_set x) (bad_from al base h mo next xs) (bad_from al base h mo next (with_set u xs)) more)
    cases false e more =
        let high : u.at ≤ x.at = not_before u x e in
        rw e (front_none al base h mo s a x.at (x ∷ xs) (omega arith, ordered.1) (omega (arith, le, high)) ∙ sym (front_none al base h mo s a u.at (u ∷ x ∷ xs) (omega arith, (high, ordered.1)) le))

-- a set says nothing of what comes behind the next one
skip_back : (al : ℕ → ℕ → Bool) (base h mo s z : ℕ) (u : Setting) (b : List Setting) → AreInOrder u.at b → min u.at h ≤ z → next_moment h b ≤ z → back (bad_by z) (bad_from al base h mo s b) ≡ back (bad_by z) (bad_from al base h mo s (u ∷ b))
skip_back al base h mo s z u [] ordered low le = sym (back_over (bad_by z) (told al base h mo s u) (bad_set u) [] (λ e. le-leb u.at z (omega (arith, low, told_below al base h mo s u e))))
skip_back al base h mo s z u (y ∷ ys) ordered low le =
    back_over (bad_by z) (told al base h mo s y) (bad_set y) (bad_from al base h mo (cond (is_counted base h y) y.state s) ys) (λ e. le-leb y.at z (omega (arith, le, told_below al base h mo s y e)))
    ∙ (cases (is_counted base h y) refl (is_counted base h u) refl
    ∙ (sym (back_over (bad_by z) (told al base h mo after y) (bad_set y) (bad_from al base h mo (cond (is_counted base h y) y.state after) ys) (λ e. le-leb y.at z (omega (arith, le, told_below al base h mo after y e))))
    ∙ sym (back_over (bad_by z) (told al base h mo s u) (bad_set u) (bad_from al base h mo after (y ∷ ys)) (λ e. le-leb u.at z (omega (arith, low, told_below al base h mo s u e))))))
  where
    after : ℕ
    after = cond (is_counted base h u) u.state s

    cases : (b : Bool) → is_counted base h y ≡ b → (d : Bool) → is_counted base h u ≡ d → back (bad_by z) (bad_from al base h mo (cond (is_counted base h y) y.state s) ys) ≡ back (bad_by z) (bad_from al base h mo (cond (is_counted base h y) y.state (cond (is_counted base h u) u.state s)) ys)
    cases true e d f = ap (λ b. back (bad_by z) (bad_from al base h mo (cond b y.state s) ys)) e ∙ sym (ap (λ b. back (bad_by z) (bad_from al base h mo (cond b y.state (cond (is_counted base h u) u.state s)) ys)) e)
    cases false e false f = ap (λ b. back (bad_by z) (bad_from al base h mo (cond (is_counted base h y) y.state (cond b u.state s)) ys)) (sym f)
    cases false e true f =
        let above : ltb base y.at ≡ true = lt-ltb base y.at (omega (arith, ordered.0, ltb-true base u.at (and_parts (ltb base u.at) _ f).0)) in
        let beyond : ltb y.at h ≡ false = sym (ap (λ b. b && ltb y.at h) above) ∙ e in
        let high : h ≤ y.at = ltb-false y.at h beyond in
        ap (back (bad_by z)) (none_late al base h mo (cond (is_counted base h y) y.state s) y.at ys ordered.1 high ∙ sym (none_late al base h mo (cond (is_counted base h y) y.state (cond (is_counted base h u) u.state s)) y.at ys ordered.1 high))

pub put_back : (al : ℕ → ℕ → Bool) (base h mo s z c : ℕ) (u : Setting) (xs : List Setting) → AreInOrder c xs → min u.at h ≤ z → next_moment h (back (set_before u) xs) ≤ z → back (bad_by z) (bad_from al base h mo s xs) ≡ back (bad_by z) (bad_from al base h mo s (with_set u xs))
put_back al base h mo s z c u [] ordered low le = skip_back al base h mo s z u [] tt low le
put_back al base h mo s z c u (x ∷ xs) ordered low le = cases (set_before u x) refl le (λ l. put_back al base h mo (cond (is_counted base h x) x.state s) z x.at u xs ordered.1 low l)
  where
    next : ℕ
    next = cond (is_counted base h x) x.state s

    cases : (b : Bool) → set_before u x ≡ b → next_moment h (cond b (back (set_before u) xs) (x ∷ xs)) ≤ z → (next_moment h (back (set_before u) xs) ≤ z → back (bad_by z) (bad_from al base h mo next xs) ≡ back (bad_by z) (bad_from al base h mo next (with_set u xs))) → back (bad_by z) (bad_from al base h mo s (x ∷ xs)) ≡ back (bad_by z) (bad_from al base h mo s (with_set u (x ∷ xs)))
    cases true e l more =
        let under : x.at ≤ u.at = before_earlier u x e in
        rw e (back_over (bad_by z) (told al base h mo s x) (bad_set x) (bad_from al base h mo next xs) (λ t. le-leb x.at z (omega (arith, low, under, told_below al base h mo s x t)))
        ∙ (more l ∙ sym (back_over (bad_by z) (told al base h mo s x) (bad_set x) (bad_from al base h mo next (with_set u xs)) (λ t. le-leb x.at z (omega (arith, low, under, told_below al base h mo s x t))))))
    cases false e l more = rw e (skip_back al base h mo s z u (x ∷ xs) (not_before u x e, ordered.1) low l)

pub take_front : (al : ℕ → ℕ → Bool) (base h mo s a c : ℕ) (u : Setting) (xs : List Setting) → AreInOrder c xs → a ≤ u.at → front (bad_before a) (bad_from al base h mo s xs) ≡ front (bad_before a) (bad_from al base h mo s (without same_setting u xs))
take_front al base h mo s a c u [] ordered le = refl
take_front al base h mo s a c u (x ∷ xs) ordered le = cases (same_setting x u) refl (take_front al base h mo (cond (is_counted base h x) x.state s) a x.at u xs ordered.1 le)
  where
    next : ℕ
    next = cond (is_counted base h x) x.state s

    cases : (b : Bool) → same_setting x u ≡ b → front (bad_before a) (bad_from al base h mo next xs) ≡ front (bad_before a) (bad_from al base h mo next (without same_setting u xs)) → front (bad_before a) (bad_from al base h mo s (x ∷ xs)) ≡ front (bad_before a) (bad_from al base h mo s (without same_setting u (x ∷ xs)))
    cases true e more =
        let high : a ≤ x.at = omega (arith, le, same_at x u e) in
        rw e (front_none al base h mo s a x.at (x ∷ xs) (omega arith, ordered.1) high ∙ sym (front_none al base h mo s a x.at xs ordered.1 high))
    cases false e more = rw e (front_same (bad_before a) (told al base h mo s x) (bad_set x) (bad_from al base h mo next xs) (bad_from al base h mo next (without same_setting u xs)) more)

-- no set behind the moment is the one
without_late : (c : ℕ) (u : Setting) (xs : List Setting) → AreInOrder c xs → u.at < c → without same_setting u xs ≡ xs
without_late c u [] ordered lt = refl
without_late c u (x ∷ xs) ordered lt = cases (same_setting x u) refl (without_late x.at u xs ordered.1 (omega (arith, lt, ordered.0)))
  where
    cases : (b : Bool) → same_setting x u ≡ b → without same_setting u xs ≡ xs → cond b xs (x ∷ without same_setting u xs) ≡ x ∷ xs
    cases true e more = absurd (omega (arith, lt, ordered.0, same_at x u e))
    cases false e more = ap (λ l. x ∷ l) more

pub take_back : (al : ℕ → ℕ → Bool) (base h mo s z c : ℕ) (u : Setting) (xs : List Setting) → AreInOrder c xs → min u.at h ≤ z → next_moment h (rest_after same_setting u xs) ≤ z → back (bad_by z) (bad_from al base h mo s xs) ≡ back (bad_by z) (bad_from al base h mo s (without same_setting u xs))
take_back al base h mo s z c u [] ordered low le = refl
take_back al base h mo s z c u (x ∷ xs) ordered low le = cases (same_setting x u) refl (ltb u.at x.at) refl le (λ l. take_back al base h mo (cond (is_counted base h x) x.state s) z x.at u xs ordered.1 low l)
  where
    next : ℕ
    next = cond (is_counted base h x) x.state s

    cases : (b : Bool) → same_setting x u ≡ b → (d : Bool) → ltb u.at x.at ≡ d → next_moment h (cond b xs (rest_after same_setting u xs)) ≤ z
        → (next_moment h (rest_after same_setting u xs) ≤ z → back (bad_by z) (bad_from al base h mo next xs) ≡ back (bad_by z) (bad_from al base h mo next (without same_setting u xs))) → back (bad_by z) (bad_from al base h mo s (x ∷ xs)) ≡ back (bad_by z) (bad_from al base h mo s (without same_setting u (x ∷ xs)))
    cases true e d f l more = rw e (sym (skip_back al base h mo s z x xs ordered.1 (omega (arith, low, same_at x u e)) l))
    cases false e true f l more = rw e (ap (λ k. back (bad_by z) (bad_from al base h mo s (x ∷ k))) (sym (without_late x.at u xs ordered.1 (ltb-true u.at x.at f))))
    cases false e false f l more =
        let under : x.at ≤ u.at = ltb-false u.at x.at f in
        rw e (back_over (bad_by z) (told al base h mo s x) (bad_set x) (bad_from al base h mo next xs) (λ t. le-leb x.at z (omega (arith, low, under, told_below al base h mo s x t)))
        ∙ (more l ∙ sym (back_over (bad_by z) (told al base h mo s x) (bad_set x) (bad_from al base h mo next (without same_setting u xs)) (λ t. le-leb x.at z (omega (arith, low, under, told_below al base h mo s x t))))))

-- behind the later of two bases the same is told
bad_bases : (al : ℕ → ℕ → Bool) (base m h mo s c : ℕ) (xs : List Setting) → AreInOrder c xs → base ≤ m → m < c → bad_from al base h mo s xs ≡ bad_from al m h mo s xs
bad_bases al base m h mo s c [] ordered le lt = refl
bad_bases al base m h mo s c (x ∷ xs) ordered le lt =
    let one : ltb m x.at ≡ true = lt-ltb m x.at (omega (arith, lt, ordered.0)) in
    let other : ltb base x.at ≡ true = lt-ltb base x.at (omega (arith, le, lt, ordered.0)) in
    ap (λ b. cond ((b && ltb x.at h) && (leb mo x.at && not (al s x.state))) (bad_set x ∷ []) [] ++ bad_from al base h mo (cond (b && ltb x.at h) x.state s) xs) (other ∙ sym one)
    ∙ ap (λ l. cond (is_counted m h x && (leb mo x.at && not (al s x.state))) (bad_set x ∷ []) [] ++ l) (bad_bases al base m h mo (cond (is_counted m h x) x.state s) x.at xs ordered.1 le (omega (arith, lt, ordered.0)))

pub rebase_back : (al : ℕ → ℕ → Bool) (base m h s w z c : ℕ) (xs : List Setting) → AreInOrder c xs → base ≤ m → m ≤ z → next_moment h (back (is_passed m) xs) ≤ z → back (bad_by z) (bad_from al base h m s xs) ≡ back (bad_by z) (bad_from al m h m w xs)
rebase_back al base m h s w z c [] ordered le low late = refl
rebase_back al base m h s w z c (x ∷ xs) ordered le low late = cases (leb x.at m) refl late (λ k n l. rebase_back al base m h k n z x.at xs ordered.1 le low l)
  where
    one : ℕ
    one = cond (is_counted base h x) x.state s

    other : ℕ
    other = cond (is_counted m h x) x.state w

    over : x.at ≤ z → back (bad_by z) (bad_from al base h m one xs) ≡ back (bad_by z) (bad_from al m h m other xs) → back (bad_by z) (bad_from al base h m s (x ∷ xs)) ≡ back (bad_by z) (bad_from al m h m w (x ∷ xs))
    over under e =
        back_over (bad_by z) (told al base h m s x) (bad_set x) (bad_from al base h m one xs) (λ _. le-leb x.at z under)
        ∙ (e ∙ sym (back_over (bad_by z) (told al m h m w x) (bad_set x) (bad_from al m h m other xs) (λ _. le-leb x.at z under)))

    beyond : (d : Bool) → ltb x.at h ≡ d → m < x.at → min x.at h ≤ z → back (bad_by z) (bad_from al base h m s (x ∷ xs)) ≡ back (bad_by z) (bad_from al m h m w (x ∷ xs))
    beyond true f gt l =
        let is_one : is_counted base h x ≡ true = ap (λ b. b && ltb x.at h) (lt-ltb base x.at (omega (arith, le, gt))) ∙ f in
        let is_other : is_counted m h x ≡ true = ap (λ b. b && ltb x.at h) (lt-ltb m x.at gt) ∙ f in
        over (omega (arith, l, ltb-true x.at h f))
        (ap (λ b. back (bad_by z) (bad_from al base h m (cond b x.state s) xs)) is_one
        ∙ (ap (back (bad_by z)) (bad_bases al base m h m x.state x.at xs ordered.1 le gt)
        ∙ sym (ap (λ b. back (bad_by z) (bad_from al m h m (cond b x.state w) xs)) is_other)))
    beyond false f gt l =
        let high : h ≤ x.at = ltb-false x.at h f in
        ap (back (bad_by z)) (none_late al base h m s x.at (x ∷ xs) (omega arith, ordered.1) high ∙ sym (none_late al m h m w x.at (x ∷ xs) (omega arith, ordered.1) high))

    cases : (b : Bool) → leb x.at m ≡ b → next_moment h (cond b (back (is_passed m) xs) (x ∷ xs)) ≤ z
        → ((k n : ℕ) → next_moment h (back (is_passed m) xs) ≤ z → back (bad_by z) (bad_from al base h m k xs) ≡ back (bad_by z) (bad_from al m h m n xs)) → back (bad_by z) (bad_from al base h m s (x ∷ xs)) ≡ back (bad_by z) (bad_from al m h m w (x ∷ xs))
    cases true e l more = over (omega (arith, low, leb-true x.at m e)) (more one other l)
    cases false e l more = beyond (ltb x.at h) refl (leb-false x.at m e) l

-- behind the later of two moments the same is told
bad_moments : (al : ℕ → ℕ → Bool) (base h mo now s c : ℕ) (xs : List Setting) → AreInOrder c xs → mo ≤ now → now ≤ c → bad_from al base h mo s xs ≡ bad_from al base h now s xs
bad_moments al base h mo now s c [] ordered le low = refl
bad_moments al base h mo now s c (x ∷ xs) ordered le low =
    let one : leb mo x.at ≡ true = le-leb mo x.at (omega (arith, le, low, ordered.0)) in
    let other : leb now x.at ≡ true = le-leb now x.at (omega (arith, low, ordered.0)) in
    ap (λ b. cond (is_counted base h x && (b && not (al s x.state))) (bad_set x ∷ []) [] ++ bad_from al base h mo (cond (is_counted base h x) x.state s) xs) (one ∙ sym other)
    ∙ ap (λ l. cond (is_counted base h x && (leb now x.at && not (al s x.state))) (bad_set x ∷ []) [] ++ l) (bad_moments al base h mo now (cond (is_counted base h x) x.state s) x.at xs ordered.1 le (omega (arith, low, ordered.0)))

pub advance_back : (al : ℕ → ℕ → Bool) (base h mo now s c : ℕ) (xs : List Setting) → AreInOrder c xs → mo ≤ now → back (bad_by now) (bad_from al base h mo s xs) ≡ back (bad_by now) (bad_from al base h now s xs)
advance_back al base h mo now s c [] ordered le = refl
advance_back al base h mo now s c (x ∷ xs) ordered le = cases (leb x.at now) refl (advance_back al base h mo now (cond (is_counted base h x) x.state s) x.at xs ordered.1 le)
  where
    next : ℕ
    next = cond (is_counted base h x) x.state s

    cases : (b : Bool) → leb x.at now ≡ b → back (bad_by now) (bad_from al base h mo next xs) ≡ back (bad_by now) (bad_from al base h now next xs) → back (bad_by now) (bad_from al base h mo s (x ∷ xs)) ≡ back (bad_by now) (bad_from al base h now s (x ∷ xs))
    cases true e more =
        back_over (bad_by now) (told al base h mo s x) (bad_set x) (bad_from al base h mo next xs) (λ _. e)
        ∙ (more ∙ sym (back_over (bad_by now) (told al base h now s x) (bad_set x) (bad_from al base h now next xs) (λ _. e)))
    cases false e more = ap (back (bad_by now)) (bad_moments al base h mo now s x.at (x ∷ xs) (omega arith, ordered.1) le (omega (arith, leb-false x.at now e)))
