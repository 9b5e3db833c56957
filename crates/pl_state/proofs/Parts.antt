-- Sorted lists, and where musts are broken, cut by a test of the key.
use Rattle.std.proofs.Common.{◌≡◌, ℕ, ◌-◌, ◌==◌, ◌||◌, not, Bool, true, false, cond, List, [], ◌∷◌, ◌++◌, refl, ap, sym, ◌∙◌, subst, min, max, eqb}
use Rattle.std.proofs.lemmas.Bool.{true≢false, and_parts, eqb-true}
use Rattle.std.proofs.Math.Bool.{or-false}
use Rattle.pl_points.specs.declared.span.Span.{Span}
use Rattle.pl_lists.specs.Lists.{front, back, is_among, left_out}
use Rattle.pl_points.specs.Spans.{spans_of}
use Rattle.pl_points.proofs.Parting.{NonePass, IsParted}
use Rattle.pl_state.specs.declared.key.Key.{Key}
use Rattle.pl_state.specs.declared.reservation.Must.{Must}
use Rattle.pl_state.specs.declared.answer.BrokenMust.{BrokenMust}
use Rattle.pl_state.specs.Keys.{key_of, key_before, NoneBefore, AreSorted}
use Rattle.pl_state.specs.Musts.{must_key, same_must, broken_spans, broken_one}
use Rattle.pl_state.specs.Timelines.{same_broken}
use Rattle.pl_state.specs.Near.{all_of, group_key, AllHave, IsKeyed}
use Rattle.pl_state.proofs.Keys.{before_itself}
use Rattle.pl_state.proofs.Lists.{in_append, left_append}

-- each passes
abbrev pub AllPass : {T : Type 0} → (T → Bool) → List T → Type 0
AllPass p [] = Unit {0}
AllPass p (x ∷ xs) = (p x ≡ true) × AllPass p xs

pub front_passes : {T : Type 0} (p : T → Bool) (xs : List T) → AllPass p (front p xs)
front_passes p [] = tt
front_passes p (x ∷ xs) = cases (p x) refl (front_passes p xs)
  where
    cases : (b : Bool) → p x ≡ b → AllPass p (front p xs) → AllPass p (cond b (x ∷ front p xs) [])
    cases true e more = (e, more)
    cases false e more = tt

pub back_none : {T : Type 0} (p : T → Bool) (xs : List T) → IsParted p xs → NonePass p (back p xs)
back_none p [] parted = tt
back_none p (x ∷ xs) parted = cases (p x) refl (back_none p xs parted.1)
  where
    cases : (b : Bool) → p x ≡ b → NonePass p (back p xs) → NonePass p (cond b (back p xs) (x ∷ xs))
    cases true e more = more
    cases false e more = (e, parted.0 e)

pub front_back : {T : Type 0} (p : T → Bool) (xs : List T) → front p xs ++ back p xs ≡ xs
front_back p [] = refl
front_back p (x ∷ xs) = cases (p x) (front_back p xs)
  where
    cases : (b : Bool) → front p xs ++ back p xs ≡ xs → cond b (x ∷ front p xs) [] ++ cond b (back p xs) (x ∷ xs) ≡ x ∷ xs
    cases true more = ap (λ l. x ∷ l) more
    cases false more = refl

pub stops : {T : Type 0} (p : T → Bool) (xs : List T) → NonePass p xs → (front p xs ≡ []) × (back p xs ≡ xs)
stops p [] none = (refl, refl)
stops p (x ∷ xs) none = (rw none.0 refl, rw none.0 refl)

pub sorted_back : {T : Type 0} (key : T → Key) (p : T → Bool) (xs : List T) → AreSorted key xs → AreSorted key (back p xs)
sorted_back key p [] sorted = tt
sorted_back key p (x ∷ xs) sorted = cases (p x) (sorted_back key p xs sorted.1)
  where
    cases : (b : Bool) → AreSorted key (back p xs) → AreSorted key (cond b (back p xs) (x ∷ xs))
    cases true more = more
    cases false more = sorted

-- items that are the same pass alike
abbrev pub PassAlike : {T : Type 0} → (T → T → Bool) → (T → Bool) → Type 0
PassAlike {T} same p = (x y : T) → same x y ≡ true → p x ≡ p y

in_passing : {T : Type 0} (same : T → T → Bool) (p : T → Bool) → PassAlike same p → (ys : List T) (x : T) → AllPass p ys → p x ≡ false → is_among same ys x ≡ false
in_passing same p alike [] x all e = refl
in_passing same p alike (y ∷ ys) x all e = cases (same y x) refl (in_passing same p alike ys x all.1 e)
  where
    cases : (b : Bool) → same y x ≡ b → is_among same ys x ≡ false → (b || is_among same ys x) ≡ false
    cases true f more = absurd (true≢false (sym all.0 ∙ (alike y x f ∙ e)))
    cases false f more = more

in_failing : {T : Type 0} (same : T → T → Bool) (p : T → Bool) → PassAlike same p → (ys : List T) (x : T) → NonePass p ys → p x ≡ true → is_among same ys x ≡ false
in_failing same p alike [] x none e = refl
in_failing same p alike (y ∷ ys) x none e = cases (same y x) refl (in_failing same p alike ys x none.1 e)
  where
    cases : (b : Bool) → same y x ≡ b → is_among same ys x ≡ false → (b || is_among same ys x) ≡ false
    cases true f more = absurd (true≢false (sym e ∙ (sym (alike y x f) ∙ none.0)))
    cases false f more = more

left_passing : {T : Type 0} (same : T → T → Bool) (p : T → Bool) → PassAlike same p → (ys zs xs : List T) → NonePass p zs → AllPass p xs → left_out same (ys ++ zs) xs ≡ left_out same ys xs
left_passing same p alike ys zs [] none all = refl
left_passing same p alike ys zs (x ∷ xs) none all =
    let e : is_among same (ys ++ zs) x ≡ is_among same ys x = in_append same ys zs x ∙ (ap (λ b. is_among same ys x || b) (in_failing same p alike zs x none all.0) ∙ or-false (is_among same ys x)) in
    ap (λ b. cond b (left_out same (ys ++ zs) xs) (x ∷ left_out same (ys ++ zs) xs)) e ∙ ap (λ l. cond (is_among same ys x) l (x ∷ l)) (left_passing same p alike ys zs xs none all.1)

left_failing : {T : Type 0} (same : T → T → Bool) (p : T → Bool) → PassAlike same p → (ys zs xs : List T) → AllPass p ys → NonePass p xs → left_out same (ys ++ zs) xs ≡ left_out same zs xs
left_failing same p alike ys zs [] all none = refl
left_failing same p alike ys zs (x ∷ xs) all none =
    let e : is_among same (ys ++ zs) x ≡ is_among same zs x = in_append same ys zs x ∙ ap (λ b. b || is_among same zs x) (in_passing same p alike ys x all none.0) in
    ap (λ b. cond b (left_out same (ys ++ zs) xs) (x ∷ left_out same (ys ++ zs) xs)) e ∙ ap (λ l. cond (is_among same zs x) l (x ∷ l)) (left_failing same p alike ys zs xs all none.1)

-- what a list leaves out of another is what each part leaves out of the other's
pub left_cut : {T : Type 0} (same : T → T → Bool) (p : T → Bool) → PassAlike same p → (xs ys : List T) → IsParted p xs → IsParted p ys → left_out same xs ys ≡ left_out same (front p xs) (front p ys) ++ left_out same (back p xs) (back p ys)
left_cut same p alike xs ys one other =
    let a = front p xs in
    let b = back p xs in
    let c = front p ys in
    let d = back p ys in
    ap (λ l. left_out same l ys) (sym (front_back p xs))
    ∙ (ap (left_out same (a ++ b)) (sym (front_back p ys))
    ∙ (left_append same (a ++ b) c d
    ∙ (ap (λ l. l ++ left_out same (a ++ b) d) (left_passing same p alike a b c (back_none p xs one) (front_passes p ys))
    ∙ ap (λ l. left_out same a c ++ l) (left_failing same p alike a b d (front_passes p xs) (back_none p ys other)))))

spans_have : (m : Must) (ss : List Span) → AllHave (must_key m) (broken_spans m ss)
spans_have m [] = tt
spans_have m (s ∷ ss) = (refl, spans_have m ss)

pub one_keyed : (state : ℕ → ℕ) (moment h : ℕ) → IsKeyed (broken_one state moment h)
one_keyed state moment h m = spans_have m (spans_of (λ t. not (state t == m.state)) (max m.from moment) (min m.to h - max m.from moment))

pub knows_broken : (x y : BrokenMust) → same_broken x y ≡ true → group_key x ≡ group_key y
knows_broken x y e =
    let one = and_parts (eqb x.id y.id) _ e in
    let two = and_parts (eqb x.index y.index) _ one.1 in
    ap (λ n. key_of 0 n x.index) (eqb-true x.id y.id one.0) ∙ ap (λ n. key_of 0 y.id n) (eqb-true x.index y.index two.0)

pub knows_must : (x y : Must) → same_must x y ≡ true → must_key x ≡ must_key y
knows_must x y e =
    let one = and_parts (eqb x.from y.from) _ e in
    let two = and_parts (eqb x.to y.to) _ one.1 in
    let three = and_parts (eqb x.id y.id) _ two.1 in
    let four = and_parts (eqb x.index y.index) _ three.1 in
    ap (λ n. key_of 0 n x.index) (eqb-true x.id y.id three.0) ∙ ap (λ n. key_of 0 y.id n) (eqb-true x.index y.index four.0)

over_front : (p : Key → Bool) (k : Key) (xs ys : List BrokenMust) → AllHave k xs → p k ≡ true
    → (front (λ b. p (group_key b)) (xs ++ ys) ≡ xs ++ front (λ b. p (group_key b)) ys) × (back (λ b. p (group_key b)) (xs ++ ys) ≡ back (λ b. p (group_key b)) ys)
over_front p k [] ys have e = (refl, refl)
over_front p k (x ∷ xs) ys have e =
    let f : p (group_key x) ≡ true = ap p have.0 ∙ e in
    let more = over_front p k xs ys have.1 e in
    (rw f (ap (λ l. x ∷ l) more.0), rw f more.1)

over_none : (p : Key → Bool) (k : Key) (xs ys : List BrokenMust) → AllHave k xs → p k ≡ false → NonePass (λ b. p (group_key b)) ys → NonePass (λ b. p (group_key b)) (xs ++ ys)
over_none p k [] ys have e none = none
over_none p k (x ∷ xs) ys have e none = (ap p have.0 ∙ e, over_none p k xs ys have.1 e none)

none_all : (p : Key → Bool) (F : Must → List BrokenMust) → IsKeyed F → (ms : List Must) → NonePass (λ m. p (must_key m)) ms → NonePass (λ b. p (group_key b)) (all_of F ms)
none_all p F keyed [] none = tt
none_all p F keyed (m ∷ ms) none = over_none p (must_key m) (F m) (all_of F ms) (keyed m) none.0 (none_all p F keyed ms none.1)

-- cutting the spans by a test of the key is cutting the musts by it
pub cut_all : (p : Key → Bool) (F : Must → List BrokenMust) → IsKeyed F → (ms : List Must) → IsParted (λ m. p (must_key m)) ms
    → (front (λ b. p (group_key b)) (all_of F ms) ≡ all_of F (front (λ m. p (must_key m)) ms)) × (back (λ b. p (group_key b)) (all_of F ms) ≡ all_of F (back (λ m. p (must_key m)) ms))
cut_all p F keyed [] parted = (refl, refl)
cut_all p F keyed (m ∷ ms) parted = cases (p (must_key m)) refl (cut_all p F keyed ms parted.1)
  where
    cases : (b : Bool) → p (must_key m) ≡ b
        → (front (λ b. p (group_key b)) (all_of F ms) ≡ all_of F (front (λ m. p (must_key m)) ms)) × (back (λ b. p (group_key b)) (all_of F ms) ≡ all_of F (back (λ m. p (must_key m)) ms))
        → (front (λ b. p (group_key b)) (F m ++ all_of F ms) ≡ all_of F (cond b (m ∷ front (λ m. p (must_key m)) ms) [])) × (back (λ b. p (group_key b)) (F m ++ all_of F ms) ≡ all_of F (cond b (back (λ m. p (must_key m)) ms) (m ∷ ms)))
    cases true e more =
        let over = over_front p (must_key m) (F m) (all_of F ms) (keyed m) e in
        (over.0 ∙ ap (λ l. F m ++ l) more.0, over.1 ∙ more.1)
    cases false e more = stops (λ b. p (group_key b)) (F m ++ all_of F ms) (over_none p (must_key m) (F m) (all_of F ms) (keyed m) e (none_all p F keyed ms (parted.0 e)))

-- the spans of sorted musts are sorted
none_have : (k j : Key) (xs ys : List BrokenMust) → AllHave j xs → key_before j k ≡ false → NoneBefore group_key k ys → NoneBefore group_key k (xs ++ ys)
none_have k j [] ys have e none = none
none_have k j (x ∷ xs) ys have e none = (ap (λ i. key_before i k) have.0 ∙ e, none_have k j xs ys have.1 e none)

none_groups : (F : Must → List BrokenMust) → IsKeyed F → (k : Key) (ms : List Must) → NoneBefore must_key k ms → NoneBefore group_key k (all_of F ms)
none_groups F keyed k [] none = tt
none_groups F keyed k (m ∷ ms) none = none_have k (must_key m) (F m) (all_of F ms) (keyed m) none.0 (none_groups F keyed k ms none.1)

sorted_group : (k : Key) (xs ys : List BrokenMust) → AllHave k xs → NoneBefore group_key k ys → AreSorted group_key ys → AreSorted group_key (xs ++ ys)
sorted_group k [] ys have none sorted = sorted
sorted_group k (x ∷ xs) ys have none sorted = (subst (λ j. NoneBefore group_key j (xs ++ ys)) (sym have.0) (none_have k k xs ys have.1 (before_itself k) none), sorted_group k xs ys have.1 none sorted)

pub all_sorted : (F : Must → List BrokenMust) → IsKeyed F → (ms : List Must) → AreSorted must_key ms → AreSorted group_key (all_of F ms)
all_sorted F keyed [] sorted = tt
all_sorted F keyed (m ∷ ms) sorted = sorted_group (must_key m) (F m) (all_of F ms) (keyed m) (none_groups F keyed (must_key m) ms sorted.0) (all_sorted F keyed ms sorted.1)
