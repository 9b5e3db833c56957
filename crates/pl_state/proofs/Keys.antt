-- Lists that are sorted by keys.
use Rattle.std.proofs.Common.{◌≡◌, ℕ, ◌≤◌, ◌&&◌, ◌||◌, not, Bool, true, false, cond, List, [], ◌∷◌, ◌++◌, take, drop, refl, ap, sym, ◌∙◌, subst, arith, eqb, ltb, inl, inr, zero, suc}
use Rattle.std.proofs.lemmas.Bool.{true≢false, and_parts, or_parts, or_cases, eqb-true, eqb-false, ltb-true, ltb-false, le-ltb}
use Rattle.pl_lists.specs.Lists.{front, back}
use Rattle.pl_points.specs.Standing.{without}
use Rattle.pl_points.proofs.Parting.{NonePass, IsParted}
use Rattle.pl_state.specs.declared.key.Key.{Key}
use Rattle.pl_state.specs.Keys.{key_before, NoneBefore, AreSorted}

-- not to come before, by numbers
abbrev pub IsNotBefore : ℕ → ℕ → Type 0 → Type 0
IsNotBefore a b rest = (b ≤ a) × (a ≡ b → rest)

abbrev pub Follows : Key → Key → Type 0
Follows a b = IsNotBefore a.at b.at (IsNotBefore a.id b.id (b.index ≤ a.index))

lex_false : (a b : ℕ) (more : Bool) → (ltb a b || (eqb a b && more)) ≡ false → IsNotBefore a b (more ≡ false)
lex_false a b more e =
    let parts = or_parts (ltb a b) _ e in
    (ltb-false a b parts.0, λ same. cases (eqb a b) refl parts.1 same)
  where
    cases : (v : Bool) → eqb a b ≡ v → (v && more) ≡ false → a ≡ b → more ≡ false
    cases true f g same = g
    cases false f g same = absurd (eqb-false a b f same)

false_lex : (a b : ℕ) (more : Bool) → IsNotBefore a b (more ≡ false) → (ltb a b || (eqb a b && more)) ≡ false
false_lex a b more h = rw (le-ltb a b h.0) (cases (eqb a b) refl)
  where
    cases : (v : Bool) → eqb a b ≡ v → (v && more) ≡ false
    cases true f = h.1 (eqb-true a b f)
    cases false f = refl

pub follows : (a b : Key) → key_before a b ≡ false → Follows a b
follows a b e =
    let one = lex_false a.at b.at _ e in
    (one.0, λ s. let two = lex_false a.id b.id _ (one.1 s) in (two.0, λ t. ltb-false a.index b.index (two.1 t)))

pub not_before : (a b : Key) → Follows a b → key_before a b ≡ false
not_before a b h = false_lex a.at b.at _ (h.0, λ s. false_lex a.id b.id _ ((h.1 s).0, λ t. le-ltb a.index b.index ((h.1 s).1 t)))

-- what comes behind the middle comes behind the first
pub follows_on : (a b c : Key) → Follows a b → Follows b c → Follows a c
follows_on a b c f g = (
  omega (arith, f.0, g.0),
  λ s. let one : a.at ≡ b.at = omega (arith, s, f.0, g.0) in let two : b.at ≡ c.at = omega (arith, s, f.0, g.0) in
      let p = f.1 one in let q = g.1 two in (
        omega (arith, p.0, q.0),
        λ t. let three : a.id ≡ b.id = omega (arith, t, p.0, q.0) in let four : b.id ≡ c.id = omega (arith, t, p.0, q.0) in
            omega (arith, p.1 three, q.1 four),
      ),
)

pub behind_both : (a b c : Key) → key_before a b ≡ false → key_before b c ≡ false → key_before a c ≡ false
behind_both a b c e f = not_before a c (follows_on a b c (follows a b e) (follows b c f))

pub follows_itself : (a : Key) → Follows a a
follows_itself a = (omega arith, λ _. (omega arith, λ _. omega arith))

pub before_itself : (k : Key) → key_before k k ≡ false
before_itself k = not_before k k (follows_itself k)

lex_true : (a b : ℕ) (more : Bool) → (ltb a b || (eqb a b && more)) ≡ true → IsNotBefore b a (more ≡ true)
lex_true a b more e = elim (or_cases (ltb a b) _ e) [
  | inl f ↦ let lt = ltb-true a b f in (omega (arith, lt), λ s. absurd (omega (arith, lt, s)))
  | inr f ↦ let both = and_parts (eqb a b) more f in let same = eqb-true a b both.0 in (omega (arith, same), λ s. both.1)
]

-- who comes before is followed
ahead : (a b : Key) → key_before a b ≡ true → Follows b a
ahead a b e =
    let one = lex_true a.at b.at _ e in
    (one.0, λ s. let two = lex_true a.id b.id _ (one.1 s) in (two.0, λ t. omega (arith, ltb-true a.index b.index (two.1 t))))

pub one_way : (a b : Key) → key_before a b ≡ true → key_before b a ≡ false
one_way a b e = not_before b a (ahead a b e)

none_pass : {T : Type 0} (key : T → Key) (u k : Key) (xs : List T) → key_before k u ≡ false → NoneBefore key k xs → NonePass (λ x. key_before (key x) u) xs
none_pass key u k [] e none = tt
none_pass key u k (x ∷ xs) e none = (behind_both (key x) k u none.0 e, none_pass key u k xs e none.1)

pub parted_before : {T : Type 0} (key : T → Key) (u : Key) (xs : List T) → AreSorted key xs → IsParted (λ x. key_before (key x) u) xs
parted_before key u [] sorted = tt
parted_before key u (x ∷ xs) sorted = ((λ e. none_pass key u (key x) xs e sorted.0), parted_before key u xs sorted.1)

-- with one more in its place they stay sorted
none_with : {T : Type 0} (key : T → Key) (k : Key) (u : T) (xs : List T) → key_before (key u) k ≡ false → NoneBefore key k xs → NoneBefore key k (front (λ x. key_before (key x) (key u)) xs ++ u ∷ back (λ x. key_before (key x) (key u)) xs)
none_with key k u [] e none = (e, tt)
none_with key k u (x ∷ xs) e none = cases (key_before (key x) (key u)) refl (none_with key k u xs e none.1)
  where
    cases : (b : Bool) → key_before (key x) (key u) ≡ b → NoneBefore key k (front (λ x. key_before (key x) (key u)) xs ++ u ∷ back (λ x. key_before (key x) (key u)) xs) → NoneBefore key k (cond b (x ∷ front (λ x. key_before (key x) (key u)) xs) [] ++ u ∷ cond b (back (λ x. key_before (key x) (key u)) xs) (x ∷ xs))
    cases true f more = (none.0, more)
    cases false f more = (e, none)

none_later : {T : Type 0} (key : T → Key) (a b : Key) (xs : List T) → key_before b a ≡ false → NoneBefore key b xs → NoneBefore key a xs
none_later key a b [] e none = tt
none_later key a b (x ∷ xs) e none = (behind_both (key x) b a none.0 e, none_later key a b xs e none.1)

pub sorted_with : {T : Type 0} (key : T → Key) (u : T) (xs : List T) → AreSorted key xs → AreSorted key (front (λ x. key_before (key x) (key u)) xs ++ u ∷ back (λ x. key_before (key x) (key u)) xs)
sorted_with key u [] sorted = (tt, tt)
sorted_with key u (x ∷ xs) sorted = cases (key_before (key x) (key u)) refl (sorted_with key u xs sorted.1)
  where
    cases : (b : Bool) → key_before (key x) (key u) ≡ b → AreSorted key (front (λ x. key_before (key x) (key u)) xs ++ u ∷ back (λ x. key_before (key x) (key u)) xs) → AreSorted key (cond b (x ∷ front (λ x. key_before (key x) (key u)) xs) [] ++ u ∷ cond b (back (λ x. key_before (key x) (key u)) xs) (x ∷ xs))
    cases true f more = (none_with key (key x) u xs (one_way (key x) (key u) f) sorted.0, more)
    cases false f more = ((f, none_later key (key u) (key x) xs f sorted.0), sorted)

none_without : {T : Type 0} (key : T → Key) (same : T → T → Bool) (k : Key) (u : T) (xs : List T) → NoneBefore key k xs → NoneBefore key k (without same u xs)
none_without key same k u [] none = tt
none_without key same k u (x ∷ xs) none = cases (same x u) (none_without key same k u xs none.1)
  where
    cases : (b : Bool) → NoneBefore key k (without same u xs) → NoneBefore key k (cond b xs (x ∷ without same u xs))
    cases true more = none.1
    cases false more = (none.0, more)

pub sorted_without : {T : Type 0} (key : T → Key) (same : T → T → Bool) (u : T) (xs : List T) → AreSorted key xs → AreSorted key (without same u xs)
sorted_without key same u [] sorted = tt
sorted_without key same u (x ∷ xs) sorted = cases (same x u) (sorted_without key same u xs sorted.1)
  where
    cases : (b : Bool) → AreSorted key (without same u xs) → AreSorted key (cond b xs (x ∷ without same u xs))
    cases true more = sorted.1
    cases false more = (none_without key same (key x) u xs sorted.0, more)

pub sorted_drop : {T : Type 0} (key : T → Key) (i : ℕ) (xs : List T) → AreSorted key xs → AreSorted key (drop i xs)
sorted_drop key zero xs sorted = sorted
sorted_drop key (suc i) [] sorted = tt
sorted_drop key (suc i) (x ∷ xs) sorted = sorted_drop key i xs sorted.1

none_upto : {T : Type 0} (key : T → Key) (u k : Key) (xs : List T) → key_before u k ≡ true → NoneBefore key k xs → NonePass (λ x. not (key_before u (key x))) xs
none_upto key u k [] e none = tt
none_upto key u k (x ∷ xs) e none = (cases (key_before u (key x)) refl, none_upto key u k xs e none.1)
  where
    cases : (b : Bool) → key_before u (key x) ≡ b → not b ≡ false
    cases true f = refl
    cases false f = absurd (true≢false (sym e ∙ behind_both u (key x) k f none.0))

pub parted_upto : {T : Type 0} (key : T → Key) (u : Key) (xs : List T) → AreSorted key xs → IsParted (λ x. not (key_before u (key x))) xs
parted_upto key u [] sorted = tt
parted_upto key u (x ∷ xs) sorted = (cases (key_before u (key x)) refl, parted_upto key u xs sorted.1)
  where
    cases : (b : Bool) → key_before u (key x) ≡ b → not b ≡ false → NonePass (λ x. not (key_before u (key x))) xs
    cases true f g = none_upto key u (key x) xs f sorted.0
    cases false f g = absurd (true≢false g)

-- a place found by an equal key in an equal list
pub placed : {T : Type 0} (key : T → Key) (u : T) (k : Key) (xs l : List T) (i : ℕ) → l ≡ xs → k ≡ key u → take i l ≡ front (λ x. key_before (key x) k) l → drop i l ≡ back (λ x. key_before (key x) k) l
    → (take i xs ≡ front (λ x. key_before (key x) (key u)) xs) × (drop i xs ≡ back (λ x. key_before (key x) (key u)) xs)
placed key u k xs l i same is before rest = (
  subst (λ q. take i xs ≡ front (λ x. key_before (key x) q) xs) is (subst (λ q. take i q ≡ front (λ x. key_before (key x) k) q) same before),
  subst (λ q. drop i xs ≡ back (λ x. key_before (key x) q) xs) is (subst (λ q. drop i q ≡ back (λ x. key_before (key x) k) q) same rest),
)

pub put_in : {T : Type 0} (key : T → Key) (u : T) (xs new : List T) (i : ℕ) → (take i xs ≡ front (λ x. key_before (key x) (key u)) xs) × (drop i xs ≡ back (λ x. key_before (key x) (key u)) xs) → new ≡ take i xs ++ u ∷ drop i xs
    → new ≡ front (λ x. key_before (key x) (key u)) xs ++ u ∷ back (λ x. key_before (key x) (key u)) xs
put_in key u xs new i p is = is ∙ (ap (λ l. l ++ u ∷ drop i xs) p.0 ∙ ap (λ l. front (λ x. key_before (key x) (key u)) xs ++ u ∷ l) p.1)
