-- Which of the steps that are not allowed a change leaves as they were.
use Rattle.std.proofs.Common.{◌≡◌, ℕ, zero, suc, drop, ◌<◌, ◌≤◌, ◌&&◌, not, Bool, true, false, cond, List, [], ◌∷◌, ◌++◌, refl, ap, sym, ◌∙◌, arith, ltb, leb}
use Rattle.std.proofs.lemmas.Bool.{and_parts, ltb-true, ltb-false, leb-true, leb-false, lt-ltb, le-ltb, le-leb, lt-leb}
use Rattle.std.proofs.lemmas.List.{append_assoc}
use Rattle.std.proofs.Math.Bool.{and-false}
use Rattle.pl_lists.specs.Lists.{front, back}
use Rattle.pl_points.proofs.Parting.{NonePass, IsParted}
use Rattle.pl_state.specs.declared.reservation.Setting.{Setting}
use Rattle.pl_state.specs.declared.answer.BadSet.{BadSet}
use Rattle.pl_state.specs.Sets.{AreInOrder, is_passed, is_allowed, is_counted, state_from, bad_set, bad_from}
use Rattle.pl_state.specs.Near.{comes_before, bad_before, bad_by, AreBadInOrder, state_before}

-- whether a set is told
abbrev pub told : (ℕ → ℕ → Bool) → ℕ → ℕ → ℕ → ℕ → Setting → Bool
told al base h mo s x = is_counted base h x && (leb mo x.at && not (al s x.state))

pub told_below : (al : ℕ → ℕ → Bool) (base h mo s : ℕ) (x : Setting) → told al base h mo s x ≡ true → x.at < h
told_below al base h mo s x e = ltb-true x.at h (and_parts (ltb base x.at) _ (and_parts (is_counted base h x) _ e).0).1

told_from : (al : ℕ → ℕ → Bool) (base h mo s : ℕ) (x : Setting) → told al base h mo s x ≡ true → mo ≤ x.at
told_from al base h mo s x e = leb-true mo x.at (and_parts (leb mo x.at) _ (and_parts (is_counted base h x) _ e).1).0

pub back_over : (p : BadSet → Bool) (v : Bool) (q : BadSet) (l : List BadSet) → (v ≡ true → p q ≡ true) → back p (cond v (q ∷ []) [] ++ l) ≡ back p l
back_over p true q l passes = rw (passes refl) refl
back_over p false q l passes = refl

front_over : (p : BadSet → Bool) (v : Bool) (q : BadSet) (l : List BadSet) → (v ≡ true → p q ≡ false) → front p l ≡ [] → front p (cond v (q ∷ []) [] ++ l) ≡ []
front_over p true q l fails none = rw (fails refl) refl
front_over p false q l fails none = none

front_keeps : (p : BadSet → Bool) (v : Bool) (q : BadSet) (l : List BadSet) → (v ≡ true → p q ≡ true) → front p (cond v (q ∷ []) [] ++ l) ≡ cond v (q ∷ []) [] ++ front p l
front_keeps p true q l passes = rw (passes refl) refl
front_keeps p false q l passes = refl

pub front_same : (p : BadSet → Bool) (v : Bool) (q : BadSet) (l k : List BadSet) → front p l ≡ front p k → front p (cond v (q ∷ []) [] ++ l) ≡ front p (cond v (q ∷ []) [] ++ k)
front_same p true q l k e = ap (λ r. cond (p q) (q ∷ r) []) e
front_same p false q l k e = e

-- none of the sets from the horizon on counts
pub none_late : (al : ℕ → ℕ → Bool) (base h mo s c : ℕ) (xs : List Setting) → AreInOrder c xs → h ≤ c → bad_from al base h mo s xs ≡ []
none_late al base h mo s c [] ordered le = refl
none_late al base h mo s c (x ∷ xs) ordered le =
    let e : is_counted base h x ≡ false = ap (λ b. ltb base x.at && b) (le-ltb x.at h (omega (arith, le, ordered.0))) ∙ and-false (ltb base x.at) in
    ap (λ b. cond (b && (leb mo x.at && not (al s x.state))) (bad_set x ∷ []) [] ++ bad_from al base h mo (cond b x.state s) xs) e ∙ none_late al base h mo s x.at xs ordered.1 (omega (arith, le, ordered.0))

pub front_none : (al : ℕ → ℕ → Bool) (base h mo s a c : ℕ) (xs : List Setting) → AreInOrder c xs → a ≤ c → front (bad_before a) (bad_from al base h mo s xs) ≡ []
front_none al base h mo s a c [] ordered le = refl
front_none al base h mo s a c (x ∷ xs) ordered le =
    front_over (bad_before a) (told al base h mo s x) (bad_set x) (bad_from al base h mo (cond (is_counted base h x) x.state s) xs) (λ _. le-ltb x.at a (omega (arith, le, ordered.0))) (front_none al base h mo (cond (is_counted base h x) x.state s) a x.at xs ordered.1 (omega (arith, le, ordered.0)))

-- none is told before the present moment
pub front_past : (al : ℕ → ℕ → Bool) (base h mo s a : ℕ) (xs : List Setting) → a ≤ mo → front (bad_before a) (bad_from al base h mo s xs) ≡ []
front_past al base h mo s a [] le = refl
front_past al base h mo s a (x ∷ xs) le =
    front_over (bad_before a) (told al base h mo s x) (bad_set x) (bad_from al base h mo (cond (is_counted base h x) x.state s) xs) (λ e. le-ltb x.at a (omega (arith, le, told_from al base h mo s x e))) (front_past al base h mo (cond (is_counted base h x) x.state s) a xs le)

bad_later : (b c : ℕ) (l : List BadSet) → b ≤ c → AreBadInOrder c l → AreBadInOrder b l
bad_later b c [] le ordered = tt
bad_later b c (x ∷ l) le ordered = (omega (arith, le, ordered.0), ordered.1)

none_bad_before : (at c : ℕ) (l : List BadSet) → at ≤ c → AreBadInOrder c l → NonePass (bad_before at) l
none_bad_before at c [] le ordered = tt
none_bad_before at c (x ∷ l) le ordered = (le-ltb x.at at (omega (arith, le, ordered.0)), none_bad_before at x.at l (omega (arith, le, ordered.0)) ordered.1)

pub parted_bad_before : (at c : ℕ) (l : List BadSet) → AreBadInOrder c l → IsParted (bad_before at) l
parted_bad_before at c [] ordered = tt
parted_bad_before at c (x ∷ l) ordered = ((λ f. none_bad_before at x.at l (ltb-false x.at at f) ordered.1), parted_bad_before at x.at l ordered.1)

none_bad_by : (at c : ℕ) (l : List BadSet) → at < c → AreBadInOrder c l → NonePass (bad_by at) l
none_bad_by at c [] lt ordered = tt
none_bad_by at c (x ∷ l) lt ordered = (lt-leb x.at at (omega (arith, lt, ordered.0)), none_bad_by at x.at l (omega (arith, lt, ordered.0)) ordered.1)

pub parted_bad_by : (at c : ℕ) (l : List BadSet) → AreBadInOrder c l → IsParted (bad_by at) l
parted_bad_by at c [] ordered = tt
parted_bad_by at c (x ∷ l) ordered = ((λ f. none_bad_by at x.at l (leb-false x.at at f) ordered.1), parted_bad_by at x.at l ordered.1)

pub bad_order_drop : (i c : ℕ) (l : List BadSet) → AreBadInOrder c l → AreBadInOrder 0 (drop i l)
bad_order_drop zero c l ordered = bad_later 0 c l (omega arith) ordered
bad_order_drop (suc i) c [] ordered = tt
bad_order_drop (suc i) c (x ∷ l) ordered = bad_order_drop i x.at l ordered.1

-- behind a later moment
pub back_both : (a z : ℕ) (l : List BadSet) → a ≤ z → back (bad_by z) (back (bad_before a) l) ≡ back (bad_by z) l
back_both a z [] le = refl
back_both a z (x ∷ l) le = cases (ltb x.at a) refl (back_both a z l le)
  where
    cases : (b : Bool) → ltb x.at a ≡ b → back (bad_by z) (back (bad_before a) l) ≡ back (bad_by z) l → back (bad_by z) (cond b (back (bad_before a) l) (x ∷ l)) ≡ back (bad_by z) (x ∷ l)
    cases true e more = let f : leb x.at z ≡ true = le-leb x.at z (omega (arith, le, ltb-true x.at a e)) in rw f more
    cases false e more = refl

state_before_late : (base a s c : ℕ) (xs : List Setting) → AreInOrder c xs → a ≤ c → state_before base a s xs ≡ s
state_before_late base a s c [] ordered le = refl
state_before_late base a s c (x ∷ xs) ordered le =
    let e : (ltb base x.at && ltb x.at a) ≡ false = ap (λ b. ltb base x.at && b) (le-ltb x.at a (omega (arith, le, ordered.0))) ∙ and-false (ltb base x.at) in
    ap (λ b. state_before base a (cond b x.state s) xs) e ∙ state_before_late base a s x.at xs ordered.1 (omega (arith, le, ordered.0))

-- nothing comes before the moment 0
pub state_before_none : (base s : ℕ) (xs : List Setting) → state_before base 0 s xs ≡ s
state_before_none base s [] = refl
state_before_none base s (x ∷ xs) =
    let e : (ltb base x.at && ltb x.at 0) ≡ false = ap (λ b. ltb base x.at && b) (le-ltb x.at 0 (omega arith)) ∙ and-false (ltb base x.at) in
    ap (λ b. state_before base 0 (cond b x.state s) xs) e ∙ state_before_none base s xs

next_test : (n t : ℕ) → ltb n (suc t) ≡ leb n t
next_test n t = cases (leb n t) refl
  where
    cases : (b : Bool) → leb n t ≡ b → ltb n (suc t) ≡ leb n t
    cases true e = lt-ltb n (suc t) (omega (arith, leb-true n t e)) ∙ sym e
    cases false e = le-ltb n (suc t) (omega (arith, leb-false n t e)) ∙ sym e

-- the sets before a moment are those that are passed at the moment before it
pub begun_next : (t : ℕ) (xs : List Setting) → front (comes_before (suc t)) xs ≡ front (is_passed t) xs
begun_next t [] = refl
begun_next t (x ∷ xs) = ap (λ b. cond b (x ∷ front (comes_before (suc t)) xs) []) (next_test x.at t) ∙ ap (λ l. cond (leb x.at t) (x ∷ l) []) (begun_next t xs)

-- the state before a moment is the one at the moment before it
pub state_before_next : (base t s : ℕ) (xs : List Setting) → state_before base (suc t) s xs ≡ state_from base t s xs
state_before_next base t s [] = refl
state_before_next base t s (x ∷ xs) = ap (λ b. state_before base (suc t) (cond (ltb base x.at && b) x.state s) xs) (next_test x.at t) ∙ state_before_next base t (cond (ltb base x.at && leb x.at t) x.state s) xs

back_stays : (al : ℕ → ℕ → Bool) (base h mo s z c : ℕ) (xs : List Setting) → AreInOrder c xs → z < c → back (bad_by z) (bad_from al base h mo s xs) ≡ bad_from al base h mo s xs
back_stays al base h mo s z c [] ordered lt = refl
back_stays al base h mo s z c (x ∷ xs) ordered lt = cases (told al base h mo s x) (back_stays al base h mo (cond (is_counted base h x) x.state s) z x.at xs ordered.1 (omega (arith, lt, ordered.0)))
  where
    rest : List BadSet
    rest = bad_from al base h mo (cond (is_counted base h x) x.state s) xs

    cases : (b : Bool) → back (bad_by z) rest ≡ rest → back (bad_by z) (cond b (bad_set x ∷ []) [] ++ rest) ≡ cond b (bad_set x ∷ []) [] ++ rest
    cases true more = let e : leb x.at z ≡ false = lt-leb x.at z (omega (arith, lt, ordered.0)) in rw e refl
    cases false more = more

bad_two : (al : ℕ → ℕ → Bool) (base h mo s z c : ℕ) (xs : List Setting) → AreInOrder c xs → bad_from al base h mo s xs ≡ bad_from al base h mo s (front (is_passed z) xs) ++ back (bad_by z) (bad_from al base h mo s xs)
bad_two al base h mo s z c [] ordered = refl
bad_two al base h mo s z c (x ∷ xs) ordered = cases (leb x.at z) refl (bad_two al base h mo (cond (is_counted base h x) x.state s) z x.at xs ordered.1)
  where
    next : ℕ
    next = cond (is_counted base h x) x.state s

    rest : List BadSet
    rest = bad_from al base h mo next xs

    head : List BadSet
    head = cond (told al base h mo s x) (bad_set x ∷ []) []

    cases : (b : Bool) → leb x.at z ≡ b → rest ≡ bad_from al base h mo next (front (is_passed z) xs) ++ back (bad_by z) rest → head ++ rest ≡ bad_from al base h mo s (cond b (x ∷ front (is_passed z) xs) []) ++ back (bad_by z) (head ++ rest)
    cases true e more =
        ap (λ l. head ++ l) more
        ∙ (sym (append_assoc head (bad_from al base h mo next (front (is_passed z) xs)) (back (bad_by z) rest))
        ∙ ap (λ l. (head ++ bad_from al base h mo next (front (is_passed z) xs)) ++ l) (sym (back_over (bad_by z) (told al base h mo s x) (bad_set x) rest (λ _. e))))
    cases false e more = sym (back_stays al base h mo s z x.at (x ∷ xs) (omega arith, ordered.1) (leb-false x.at z e))

-- what is told is that before the window, that of the sets in it, and that behind it
pub bad_parts : (al : ℕ → ℕ → Bool) (base h mo s a z c : ℕ) (xs : List Setting) → AreInOrder c xs → a ≤ z → a ≤ h
    → bad_from al base h mo s xs ≡ front (bad_before a) (bad_from al base h mo s xs) ++ (bad_from al base h mo (state_before base a s xs) (front (is_passed z) (back (comes_before a) xs)) ++ back (bad_by z) (bad_from al base h mo s xs))
bad_parts al base h mo s a z c [] ordered le under = refl
bad_parts al base h mo s a z c (x ∷ xs) ordered le under = cases (ltb x.at a) refl (λ k. bad_parts al base h mo k a z x.at xs ordered.1 le under)
  where
    next : ℕ
    next = cond (is_counted base h x) x.state s

    rest : List BadSet
    rest = bad_from al base h mo next xs

    head : List BadSet
    head = cond (told al base h mo s x) (bad_set x ∷ []) []

    middle : ℕ → List BadSet
    middle k = bad_from al base h mo (state_before base a k xs) (front (is_passed z) (back (comes_before a) xs))

    cases : (b : Bool) → ltb x.at a ≡ b
        → ((k : ℕ) → bad_from al base h mo k xs ≡ front (bad_before a) (bad_from al base h mo k xs) ++ (middle k ++ back (bad_by z) (bad_from al base h mo k xs)))
        → head ++ rest ≡ front (bad_before a) (head ++ rest) ++ (bad_from al base h mo (state_before base a (cond (ltb base x.at && b) x.state s) xs) (front (is_passed z) (cond b (back (comes_before a) xs) (x ∷ xs))) ++ back (bad_by z) (head ++ rest))
    cases true e more =
        let lt : x.at < a = ltb-true x.at a e in
        let same : (ltb base x.at && true) ≡ is_counted base h x = ap (λ b. ltb base x.at && b) (sym (lt-ltb x.at h (omega (arith, lt, under)))) in
        ap (λ l. head ++ l) (more next)
        ∙ (sym (append_assoc head (front (bad_before a) rest) (middle next ++ back (bad_by z) rest))
        ∙ (ap (λ l. l ++ (middle next ++ back (bad_by z) rest)) (sym (front_keeps (bad_before a) (told al base h mo s x) (bad_set x) rest (λ _. e)))
        ∙ (ap (λ l. front (bad_before a) (head ++ rest) ++ (middle next ++ l)) (sym (back_over (bad_by z) (told al base h mo s x) (bad_set x) rest (λ _. le-leb x.at z (omega (arith, lt, le)))))
        ∙ ap (λ b. front (bad_before a) (head ++ rest) ++ (middle (cond b x.state s) ++ back (bad_by z) (head ++ rest))) (sym same))))
    cases false e more =
        let high : a ≤ x.at = ltb-false x.at a e in
        let all : AreInOrder x.at (x ∷ xs) = (omega arith, ordered.1) in
        bad_two al base h mo s z x.at (x ∷ xs) all
        ∙ (ap (λ k. bad_from al base h mo k (front (is_passed z) (x ∷ xs)) ++ back (bad_by z) (head ++ rest)) (sym (ap (λ b. state_before base a (cond b x.state s) xs) (and-false (ltb base x.at)) ∙ state_before_late base a s x.at xs ordered.1 high))
        ∙ ap (λ l. l ++ (bad_from al base h mo (state_before base a (cond (ltb base x.at && false) x.state s) xs) (front (is_passed z) (x ∷ xs)) ++ back (bad_by z) (head ++ rest))) (sym (front_none al base h mo s a x.at (x ∷ xs) all high)))

-- where any step is allowed, none is told
pub none_told : (steps : List (ℕ × ℕ)) (base h mo s : ℕ) (xs : List Setting) → bad_from (is_allowed true steps) base h mo s xs ≡ []
none_told steps base h mo s [] = refl
none_told steps base h mo s (x ∷ xs) =
    let e : told (is_allowed true steps) base h mo s x ≡ false = ap (λ b. is_counted base h x && b) (and-false (leb mo x.at)) ∙ and-false (is_counted base h x) in
    ap (λ b. cond b (bad_set x ∷ []) [] ++ bad_from (is_allowed true steps) base h mo (cond (is_counted base h x) x.state s) xs) e ∙ none_told steps base h mo (cond (is_counted base h x) x.state s) xs
