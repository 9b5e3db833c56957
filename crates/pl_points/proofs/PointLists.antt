-- Sums, merges and places of change points.
use Rattle.std.proofs.Common.{◌≡◌, ℕ, zero, suc, ◌+◌, ◌*◌, ◌^◌, ◌<◌, ◌≤◌, Bool, true, false, List, [], ◌∷◌, ◌++◌, length, get_or, take, drop, refl, ap, sym, ◌∙◌, subst, arith, cond, ℤ, pos, ◌+ℤ◌, ◌≤ℤ◌, neg_ℤ, eqb, leb, Some, None, Option, Result, Ok, Err, OnOk, OnErr, ◌-◌}
use Rattle.std.specs.Ordering.{int_eq}
use Rattle.std.proofs.lemmas.Bool.{false≢true, cond_both, lt-ltb, le-ltb, ltb-true, ltb-false, eq-eqb, ne_eqb, eqb-true, eqb-false, leb-true, leb-false, le-leb, lt-leb}
use Rattle.std.proofs.lemmas.Bool.Decides.{Decides-int_eq}
use Rattle.std.proofs.lemmas.Int.{ints, to_z-of_z}
use mir.Val.{to_z, of_z, SFits}
use mir.Syntax.{w64}
use Rattle.std.proofs.lemmas.List.{length-drop, get_or-drop, get_or_default, drop_all}
use Rattle.pl_lists.specs.Lists.{front, back}
use Rattle.pl_points.specs.Sums.{IsSmall}
use Rattle.pl_points.specs.Points.{Point, sum_to, first_from, is_before, put, merged, RiseFrom, AreSmall, ArePoints, SmallFrom, IsNear, AreNear}
use Rattle.pl_points.proofs.Parting.{NonePass, IsParted, back_fails, drop_next}

abbrev pub IsSmall2 : ℤ → Type 0
IsSmall2 z = IsNear z

none_before : (at c : ℕ) (ps : List Point) → at ≤ c → RiseFrom c ps → NonePass (is_before at) ps
none_before at c [] le rising = tt
none_before at c (p ∷ ps) le rising = (le-ltb p.0 at (omega (arith, rising.0)), none_before at (suc p.0) ps (omega (arith, rising.0)) rising.2)

pub parted_points : (at c : ℕ) (ps : List Point) → RiseFrom c ps → IsParted (is_before at) ps
parted_points at c [] rising = tt
parted_points at c (p ∷ ps) rising = ((λ e. none_before at (suc p.0) ps (omega (arith, ltb-false p.0 at e)) rising.2), parted_points at (suc p.0) ps rising.2)

-- the first point is the first of what follows those before the moment
abbrev pub head_of : List Point → Option Point
head_of [] = None
head_of (p ∷ ps) = Some p

merged_past : (at : ℕ) (d : ℤ) (ps : List Point) → merged at d ps ≡ front (is_before at) ps ++ merged at d (back (is_before at) ps)
merged_past at d [] = refl
merged_past at d (p ∷ ps) = cases (is_before at p) refl (merged_past at d ps)
  where
    cases : (b : Bool) → is_before at p ≡ b → merged at d ps ≡ front (is_before at) ps ++ merged at d (back (is_before at) ps) → merged at d (p ∷ ps) ≡ front (is_before at) (p ∷ ps) ++ merged at d (back (is_before at) (p ∷ ps))
    cases true e more = rw e (ap (λ l. p ∷ l) more)
    cases false e more = rw e (rw e refl)

-- a delta for a moment that has a point
pub merged_found : (ps : List Point) (i at : ℕ) (d : ℤ) (p : Point) → take i ps ≡ front (is_before at) ps → drop i ps ≡ back (is_before at) ps → i < length ps → p ≡ get_or ps i p → p.0 ≡ at
    → merged at d ps ≡ take i ps ++ put at (p.1 +ℤ d) (drop (suc i) ps)
merged_found ps i at d p before rest lt is here =
    let next : drop i ps ≡ p ∷ drop (suc i) ps = drop_next ps i p lt ∙ ap (λ q. q ∷ drop (suc i) ps) (sym is) in
    let test : is_before at p ≡ false = le-ltb p.0 at (omega (arith, here)) in
    let same : eqb p.0 at ≡ true = eq-eqb p.0 at here in
    let step : merged at d (p ∷ drop (suc i) ps) ≡ put at (p.1 +ℤ d) (drop (suc i) ps) = rw test (rw same refl) in
    merged_past at d ps ∙ ap (λ l. l ++ merged at d (back (is_before at) ps)) (sym before) ∙ ap (λ l. take i ps ++ merged at d l) (sym rest ∙ next) ∙ ap (λ l. take i ps ++ l) step

-- a delta for a moment that has none
pub merged_missing : (ps : List Point) (i at : ℕ) (d : ℤ) → take i ps ≡ front (is_before at) ps → drop i ps ≡ back (is_before at) ps → ((p : Point) → i < length ps → p ≡ get_or ps i p → p.0 ≡ at → ⊥)
    → merged at d ps ≡ take i ps ++ put at d (drop i ps)
merged_missing ps i at d before rest apart =
    merged_past at d ps ∙ ap (λ l. l ++ merged at d (back (is_before at) ps)) (sym before) ∙ ap (λ l. take i ps ++ merged at d l) (sym rest) ∙ ap (λ l. take i ps ++ l) (there (drop i ps) refl)
  where
    there : (l : List Point) → drop i ps ≡ l → merged at d l ≡ put at d l
    there [] e = refl
    there (q ∷ more) e =
        let fails : is_before at q ≡ false = back_fails (is_before at) ps q more (sym rest ∙ e) in
        let lt : i < length ps = in_range q more e in
        let is : q ≡ get_or ps i q = read q more e in
        let other : eqb q.0 at ≡ false = ne_eqb q.0 at (apart q lt is) in
        rw fails (rw other refl)
      where
        in_range : (q : Point) (more : List Point) → drop i ps ≡ q ∷ more → i < length ps
        in_range q more e = omega (arith, length-drop i ps, ap length e)

        read : (q : Point) (more : List Point) → drop i ps ≡ q ∷ more → q ≡ get_or ps i q
        read q more e = sym (ap (λ l. get_or l 0 q) e) ∙ (get_or-drop i ps 0 q ∙ ap (λ n. get_or ps n q) (omega arith))

cond_zero : (b : Bool) (d : ℤ) → d ≡ pos 0 → cond b d (pos 0) ≡ pos 0
cond_zero true d e = e
cond_zero false d e = refl

cond_add : (b : Bool) (x y : ℤ) → cond b (x +ℤ y) (pos 0) ≡ cond b x (pos 0) +ℤ cond b y (pos 0)
cond_add true x y = refl
cond_add false x y = refl

sum_to-put : (at : ℕ) (d : ℤ) (ps : List Point) (t : ℕ) → sum_to (put at d ps) t ≡ cond (leb at t) d (pos 0) +ℤ sum_to ps t
sum_to-put at d ps t = cond_both (int_eq d (pos 0)) ps ((at, d) ∷ ps) (λ l. sum_to l t ≡ cond (leb at t) d (pos 0) +ℤ sum_to ps t)
    (λ e. omega (arith, ints, cond_zero (leb at t) d ((Decides-int_eq d (pos 0)).0 e))) (λ e. refl)

-- what the sums are after a merge
pub sum_to-merged : (at : ℕ) (d : ℤ) (ps : List Point) (t : ℕ) → sum_to (merged at d ps) t ≡ sum_to ps t +ℤ cond (leb at t) d (pos 0)
sum_to-merged at d [] t = omega (arith, ints, sum_to-put at d [] t)
sum_to-merged at d (p ∷ ps) t =
    let P : List Point → Type 0 = λ l. sum_to l t ≡ sum_to (p ∷ ps) t +ℤ cond (leb at t) d (pos 0) in
    cond_both (is_before at p) (p ∷ merged at d ps) (cond (eqb p.0 at) (put at (p.1 +ℤ d) ps) (put at d (p ∷ ps))) P
    (λ e. omega (arith, ints, sum_to-merged at d ps t))
    (λ e. cond_both (eqb p.0 at) (put at (p.1 +ℤ d) ps) (put at d (p ∷ ps)) P
    (λ f. same (eqb-true p.0 at f))
    (λ f. omega (arith, ints, sum_to-put at d (p ∷ ps) t)))
  where
    same : p.0 ≡ at → sum_to (put at (p.1 +ℤ d) ps) t ≡ sum_to (p ∷ ps) t +ℤ cond (leb at t) d (pos 0)
    same f =
        let g : cond (leb p.0 t) p.1 (pos 0) ≡ cond (leb at t) p.1 (pos 0) = ap (λ n. cond (leb n t) p.1 (pos 0)) f in
        omega (arith, ints, sum_to-put at (p.1 +ℤ d) ps t, cond_add (leb at t) p.1 d, g)

pub rising_later : (b c : ℕ) (ps : List Point) → b ≤ c → RiseFrom c ps → RiseFrom b ps
rising_later b c [] le rising = tt
rising_later b c (p ∷ ps) le rising = (omega (arith, le, rising.0), rising.1, rising.2)

rising_put : (c at : ℕ) (d : ℤ) (ps : List Point) → c ≤ at → RiseFrom (suc at) ps → RiseFrom c (put at d ps)
rising_put c at d ps le rising = cond_both (int_eq d (pos 0)) ps ((at, d) ∷ ps) (λ l. RiseFrom c l)
    (λ e. rising_later c (suc at) ps (omega (arith, le)) rising) (λ e. (le, e, rising))

pub rising-merged : (c at : ℕ) (d : ℤ) (ps : List Point) → c ≤ at → RiseFrom c ps → RiseFrom c (merged at d ps)
rising-merged c at d [] le rising = rising_put c at d [] le tt
rising-merged c at d (p ∷ ps) le rising =
    let P : List Point → Type 0 = λ l. RiseFrom c l in
    cond_both (is_before at p) (p ∷ merged at d ps) (cond (eqb p.0 at) (put at (p.1 +ℤ d) ps) (put at d (p ∷ ps))) P
    (λ e. (rising.0, rising.1, rising-merged (suc p.0) at d ps (ltb-true p.0 at e) rising.2))
    (λ e. cond_both (eqb p.0 at) (put at (p.1 +ℤ d) ps) (put at d (p ∷ ps)) P
    (λ f. rising_put c at (p.1 +ℤ d) ps le (rising_later (suc at) (suc p.0) ps (omega (arith, eqb-true p.0 at f)) rising.2))
    (λ f. rising_put c at d (p ∷ ps) le (above (ltb-false p.0 at e) (eqb-false p.0 at f), rising.1, rising.2)))
  where
    above : at ≤ p.0 → (p.0 ≡ at → ⊥) → suc at ≤ p.0
    above h k = grind (arith, h, k)

-- the first point at or after a moment
pub first_is_head : (at : ℕ) (ps : List Point) → first_from ps at ≡ head_of (back (is_before at) ps)
first_is_head at [] = refl
first_is_head at (p ∷ ps) = cases (leb at p.0) refl (first_is_head at ps)
  where
    cases : (b : Bool) → leb at p.0 ≡ b → first_from ps at ≡ head_of (back (is_before at) ps) → first_from (p ∷ ps) at ≡ head_of (back (is_before at) (p ∷ ps))
    cases true e more = let f : is_before at p ≡ false = le-ltb p.0 at (leb-true at p.0 e) in rw e (rw f refl)
    cases false e more = let f : is_before at p ≡ true = lt-ltb p.0 at (leb-false at p.0 e) in rw e (rw f more)

-- before the first moment nothing adds up
pub sum_before : (c : ℕ) (ps : List Point) (t : ℕ) → RiseFrom c ps → t < c → sum_to ps t ≡ pos 0
sum_before c [] t rising lt = refl
sum_before c (p ∷ ps) t rising lt =
    let e : leb p.0 t ≡ false = lt-leb p.0 t (omega (arith, lt, rising.0)) in
    rw e (omega (arith, ints, sum_before (suc p.0) ps t rising.2 (omega (arith, lt, rising.0))))

small_from : (c : ℕ) (s : ℤ) (ps : List Point) → IsSmall s → RiseFrom c ps → ((t : ℕ) → IsSmall (s +ℤ sum_to ps t)) → SmallFrom s ps
small_from c s [] small rising all = small
small_from c s (p ∷ ps) small rising all = (small, small_from (suc p.0) (s +ℤ p.1) ps (here p.0 (sum_before (suc p.0) ps p.0 rising.2 (omega arith))) rising.2 later)
  where
    here : (t : ℕ) → sum_to ps p.0 ≡ pos 0 → IsSmall (s +ℤ p.1)
    here t none =
        let e : leb p.0 p.0 ≡ true = le-leb p.0 p.0 (omega arith) in
        let f : s +ℤ sum_to (p ∷ ps) p.0 ≡ s +ℤ p.1 = rw e (omega (arith, ints, none)) in
        subst (λ z. IsSmall z) f (all p.0)

    later : (t : ℕ) → IsSmall ((s +ℤ p.1) +ℤ sum_to ps t)
    later t = cases (leb p.0 t) refl
      where
        cases : (b : Bool) → leb p.0 t ≡ b → IsSmall ((s +ℤ p.1) +ℤ sum_to ps t)
        cases true e =
            let f : s +ℤ sum_to (p ∷ ps) t ≡ (s +ℤ p.1) +ℤ sum_to ps t = rw e (omega (arith, ints)) in
            subst (λ z. IsSmall z) f (all t)
        cases false e =
            let none : sum_to ps t ≡ pos 0 = sum_before (suc p.0) ps t rising.2 (omega (arith, leb-false p.0 t e)) in
            let f : s +ℤ p.1 ≡ (s +ℤ p.1) +ℤ sum_to ps t = omega (arith, ints, none) in
            subst (λ z. IsSmall z) f (here p.0 (sum_before (suc p.0) ps p.0 rising.2 (omega arith)))

pub small_along : (ps : List Point) → ArePoints ps → SmallFrom (pos 0) ps
small_along ps are = small_from 0 (pos 0) ps (omega (arith, ints), omega (arith, ints)) are.rising (λ t.
    let f : sum_to ps t ≡ pos 0 +ℤ sum_to ps t = omega (arith, ints) in
    subst (λ z. IsSmall z) f (are.small t))

-- so is each delta, up to the bound twice
pub delta_small : (ps : List Point) (s : ℤ) (i : ℕ) (p : Point) → SmallFrom s ps → i < length ps → p ≡ get_or ps i p → IsSmall2 p.1
delta_small [] s i p small lt is = absurd (omega (arith, lt))
delta_small (q ∷ ps) s zero p small lt is = same (head ps small.1) (sym is)
  where
    head : (ps : List Point) → SmallFrom (s +ℤ q.1) ps → IsSmall (s +ℤ q.1)
    head [] h = h
    head (r ∷ ps) h = h.0

    same : IsSmall (s +ℤ q.1) → q ≡ p → IsSmall2 p.1
    same h e = subst (λ (r : Point). IsSmall2 r.1) e (omega (arith, ints, h.0, h.1, small.0.0, small.0.1), omega (arith, ints, h.0, h.1, small.0.0, small.0.1))
delta_small (q ∷ ps) s (suc i) p small lt is = delta_small ps (s +ℤ q.1) i p small.1 (omega (arith, lt)) is

-- and a delta that leaves the sums small
pub merged_small : (at : ℕ) (d : ℤ) (ps : List Point) → AreSmall ps → AreSmall (merged at d ps) → IsSmall2 d
merged_small at d ps old new =
    let e : leb at at ≡ true = le-leb at at (omega arith) in
    let f : cond (leb at at) d (pos 0) ≡ d = rw e refl in
    (omega (arith, ints, sum_to-merged at d ps at, f, (old at).0, (old at).1, (new at).0, (new at).1), omega (arith, ints, sum_to-merged at d ps at, f, (old at).0, (old at).1, (new at).0, (new at).1))

pub points-merged : (at : ℕ) (d : ℤ) (ps : List Point) → ArePoints ps → AreSmall (merged at d ps) → ArePoints (merged at d ps)
points-merged at d ps are small = record { rising = rising-merged 0 at d ps (omega arith) are.rising; small = small }

length-put : (at : ℕ) (d : ℤ) (ps : List Point) → length (put at d ps) ≤ suc (length ps)
length-put at d ps = cond_both (int_eq d (pos 0)) ps ((at, d) ∷ ps) (λ l. length l ≤ suc (length ps)) (λ e. omega arith) (λ e. omega arith)

pub length-merged : (at : ℕ) (d : ℤ) (ps : List Point) → length (merged at d ps) ≤ suc (length ps)
length-merged at d [] = length-put at d []
length-merged at d (p ∷ ps) =
    let P : List Point → Type 0 = λ l. length l ≤ suc (suc (length ps)) in
    cond_both (is_before at p) (p ∷ merged at d ps) (cond (eqb p.0 at) (put at (p.1 +ℤ d) ps) (put at d (p ∷ ps))) P
    (λ e. omega (arith, length-merged at d ps))
    (λ e. cond_both (eqb p.0 at) (put at (p.1 +ℤ d) ps) (put at d (p ∷ ps)) P
    (λ f. omega (arith, length-put at (p.1 +ℤ d) ps)) (λ f. omega (arith, length-put at d (p ∷ ps))))

pub rising_drop : (c i : ℕ) (ps : List Point) → RiseFrom c ps → RiseFrom c (drop i ps)
rising_drop c zero ps rising = rising
rising_drop c (suc i) [] rising = tt
rising_drop c (suc i) (p ∷ ps) rising = rising_drop c i ps (rising_later c (suc p.0) ps (omega (arith, rising.0)) rising.2)

pub put_some : (at : ℕ) (d : ℤ) (ps : List Point) → (d ≡ pos 0 → ⊥) → put at d ps ≡ (at, d) ∷ ps
put_some at d ps some = cond_both (int_eq d (pos 0)) ps ((at, d) ∷ ps) (λ l. l ≡ (at, d) ∷ ps) (λ e. absurd (some ((Decides-int_eq d (pos 0)).0 e))) (λ e. refl)

fits2 : (z : ℤ) → IsSmall2 z → SFits w64 z
fits2 z small = omega (arith, ints, small.0, small.1)

pub sum_is : (x d : ℤ) → IsSmall2 x → IsSmall2 d → to_z w64 (of_z w64 (to_z w64 (of_z w64 x) +ℤ to_z w64 (of_z w64 d))) ≡ x +ℤ d
sum_is x d small other =
    let e : to_z w64 (of_z w64 x) ≡ x = to_z-of_z w64 x (fits2 x small) in
    let f : to_z w64 (of_z w64 d) ≡ d = to_z-of_z w64 d (fits2 d other) in
    let fits : SFits w64 (x +ℤ d) = omega (arith, ints, small.0, small.1, other.0, other.1) in
    rw e (rw f (to_z-of_z w64 (x +ℤ d) fits))

pub same_read : (ps : List Point) (i : ℕ) (p q : Point) → i < length ps → p ≡ get_or ps i p → q ≡ get_or ps i q → p ≡ q
same_read ps i p q lt e f = e ∙ get_or_default ps i p q lt ∙ sym f

-- what holds in either case
pub either : {T E : Type 0} {A B C : Type 0} (r : Result T E) → OnOk r A → OnErr r B → (A → C) → (B → C) → C
either (Ok x) a b f g = f a
either (Err e) a b f g = g b

-- what is asked of a vector of points
abbrev pub Kept : List Point → Type 0
Kept ps = ArePoints ps × (length ps < 2 ^ 32)

pub kept_merged : (at : ℕ) (d : ℤ) (ps : List Point) → Kept ps → length ps < 2 ^ 32 - 1 → AreSmall (merged at d ps) → Kept (merged at d ps)
kept_merged at d ps kept few small = (points-merged at d ps kept.0 small, omega (arith, length-merged at d ps, few))

-- one point more of a running sum
pub sum_step : (s : ℤ) (ps : List Point) (i j at : ℕ) (p : Point) → i < length ps → j ≡ i + 1 → p ≡ get_or ps i p → SmallFrom s (drop i ps)
    → IsSmall2 p.1 × (IsSmall s × (SmallFrom (s +ℤ p.1) (drop j ps) × (p.0 ≤ at → s +ℤ sum_to (drop i ps) at ≡ (s +ℤ p.1) +ℤ sum_to (drop j ps) at)))
sum_step s ps i j at p lt next is small =
    let same : suc i ≡ j = omega (arith, next) in
    let e : drop i ps ≡ p ∷ drop j ps = drop_next ps i p lt ∙ ap (λ q. q ∷ drop (suc i) ps) (sym is) ∙ ap (λ n. p ∷ drop n ps) same in
    let along : SmallFrom s (p ∷ drop j ps) = subst (λ l. SmallFrom s l) e small in (
      delta_small (p ∷ drop j ps) s 0 p along (omega arith) refl,
      (
        along.0,
        (
          along.1,
          λ le.
              ap (λ l. s +ℤ sum_to l at) e ∙ added le,
        ),
      ),
    )
  where
    added : p.0 ≤ at → s +ℤ sum_to (p ∷ drop j ps) at ≡ (s +ℤ p.1) +ℤ sum_to (drop j ps) at
    added le = let t : leb p.0 at ≡ true = le-leb p.0 at le in rw t (omega (arith, ints))

-- from a point that lies later, nothing adds up
pub sum_over : (ps : List Point) (i at : ℕ) (p : Point) → RiseFrom 0 ps → i < length ps → p ≡ get_or ps i p → at < p.0 → sum_to (drop i ps) at ≡ pos 0
sum_over ps i at p rising lt is later =
    let e : drop i ps ≡ p ∷ drop (suc i) ps = drop_next ps i p lt ∙ ap (λ q. q ∷ drop (suc i) ps) (sym is) in
    let rest : RiseFrom 0 (p ∷ drop (suc i) ps) = subst (λ l. RiseFrom 0 l) e (rising_drop 0 i ps rising) in
    ap (λ l. sum_to l at) e ∙ sum_before p.0 (p ∷ drop (suc i) ps) at (omega arith, rest.1, rest.2) later

pub head_some : (at : ℕ) (ps : List Point) (i : ℕ) (p : Point) → drop i ps ≡ back (is_before at) ps → i < length ps → p ≡ get_or ps i p → first_from ps at ≡ Some p
head_some at ps i p rest lt is =
    first_is_head at ps ∙ ap head_of (sym rest ∙ drop_next ps i p lt) ∙ ap Some (sym is)

pub head_none : (at : ℕ) (ps : List Point) (i : ℕ) → drop i ps ≡ back (is_before at) ps → length ps ≤ i → first_from ps at ≡ None
head_none at ps i rest le = first_is_head at ps ∙ ap head_of (sym rest ∙ drop_all i ps le)

-- a running sum that is small, and a delta
pub fits_here : (s x : ℤ) → IsSmall s → IsSmall2 x → SFits w64 (s +ℤ to_z w64 (of_z w64 x))
fits_here s x small other = omega (arith, ints, small.0, small.1, other.0, other.1)

pub adds_here : (s x : ℤ) → IsSmall s → IsSmall2 x → to_z w64 (of_z w64 (s +ℤ to_z w64 (of_z w64 x))) ≡ s +ℤ x
adds_here s x small other =
    let f : to_z w64 (of_z w64 x) ≡ x = to_z-of_z w64 x (fits2 x other) in
    let fits : SFits w64 (s +ℤ x) = omega (arith, ints, small.0, small.1, other.0, other.1) in
    rw f (to_z-of_z w64 (s +ℤ x) fits)

-- sums along points that follow a small sum are near without it
pub small_near : (o r : ℤ) (ps : List Point) → IsSmall o → SmallFrom (o +ℤ r) ps → AreNear r ps
small_near o r [] small all = (omega (arith, ints, small.0, small.1, all.0, all.1), omega (arith, ints, small.0, small.1, all.0, all.1))
small_near o r (p ∷ ps) small all =
    let same : (o +ℤ r) +ℤ p.1 ≡ o +ℤ (r +ℤ p.1) = omega (arith, ints) in
    ((omega (arith, ints, small.0, small.1, all.0.0, all.0.1), omega (arith, ints, small.0, small.1, all.0.0, all.0.1)), small_near o (r +ℤ p.1) ps small (subst (λ z. SmallFrom z ps) same all.1))

pub near_head : (s : ℤ) (ps : List Point) → AreNear s ps → IsNear s
near_head s [] near = near
near_head s (p ∷ ps) near = near.0

-- within 4 * 10^15 of 0
abbrev pub IsSmall4 : ℤ → Type 0
IsSmall4 z = (neg_ℤ (pos (4 * 10 ^ 15)) ≤ℤ z) × (z ≤ℤ pos (4 * 10 ^ 15))

pub near_delta : (ps : List Point) (s : ℤ) (i : ℕ) (p : Point) → AreNear s ps → i < length ps → p ≡ get_or ps i p → IsSmall4 p.1
near_delta [] s i p near lt is = absurd (omega (arith, lt))
near_delta (q ∷ ps) s zero p near lt is =
    let h : IsNear (s +ℤ q.1) = near_head (s +ℤ q.1) ps near.1 in
    subst (λ (r : Point). IsSmall4 r.1) (sym is) (omega (arith, ints, h.0, h.1, near.0.0, near.0.1), omega (arith, ints, h.0, h.1, near.0.0, near.0.1))
near_delta (q ∷ ps) s (suc i) p near lt is = near_delta ps (s +ℤ q.1) i p near.1 (omega (arith, lt)) is

pub near_fits : (x d : ℤ) → IsSmall4 x → IsNear d → SFits w64 (to_z w64 (of_z w64 x) +ℤ to_z w64 (of_z w64 d))
near_fits x d small other = omega (arith, ints, small.0, small.1, other.0, other.1)

pub near_is : (x d : ℤ) → IsSmall4 x → IsNear d → to_z w64 (of_z w64 (to_z w64 (of_z w64 x) +ℤ to_z w64 (of_z w64 d))) ≡ x +ℤ d
near_is x d small other =
    let one : SFits w64 x = omega (arith, ints, small.0, small.1) in
    let two : SFits w64 d = omega (arith, ints, other.0, other.1) in
    let e : to_z w64 (of_z w64 x) ≡ x = to_z-of_z w64 x one in
    let f : to_z w64 (of_z w64 d) ≡ d = to_z-of_z w64 d two in
    let fits : SFits w64 (x +ℤ d) = omega (arith, ints, small.0, small.1, other.0, other.1) in
    rw e (rw f (to_z-of_z w64 (x +ℤ d) fits))

-- a running sum that is near, and a point
pub near_step : (s : ℤ) (ps : List Point) (i j : ℕ) (p : Point) → i < length ps → j ≡ i + 1 → p ≡ get_or ps i p → AreNear s (drop i ps)
    → SFits w64 (s +ℤ to_z w64 (of_z w64 p.1)) × ((to_z w64 (of_z w64 (s +ℤ to_z w64 (of_z w64 p.1))) ≡ s +ℤ p.1) × ((drop i ps ≡ p ∷ drop j ps) × AreNear (s +ℤ p.1) (drop j ps)))
near_step s ps i j p lt next is near =
    let same : suc i ≡ j = omega (arith, next) in
    let e : drop i ps ≡ p ∷ drop j ps = drop_next ps i p lt ∙ ap (λ q. q ∷ drop (suc i) ps) (sym is) ∙ ap (λ n. p ∷ drop n ps) same in
    let along : AreNear s (p ∷ drop j ps) = subst (λ l. AreNear s l) e near in
    let small : IsSmall4 p.1 = near_delta (p ∷ drop j ps) s 0 p along (omega arith) refl in
    let here : IsNear s = along.0 in
    let one : SFits w64 p.1 = omega (arith, ints, small.0, small.1) in
    let f : to_z w64 (of_z w64 p.1) ≡ p.1 = to_z-of_z w64 p.1 one in
    let fits : SFits w64 (s +ℤ p.1) = omega (arith, ints, small.0, small.1, here.0, here.1) in
    let fits' : SFits w64 (s +ℤ to_z w64 (of_z w64 p.1)) = omega (arith, ints, small.0, small.1, here.0, here.1, f) in
    let is' : to_z w64 (of_z w64 (s +ℤ to_z w64 (of_z w64 p.1))) ≡ s +ℤ p.1 = rw f (to_z-of_z w64 (s +ℤ p.1) fits) in
    (fits', (is', (e, along.1)))

first_sum : (c : ℕ) (p : Point) (ps : List Point) → RiseFrom c (p ∷ ps) → sum_to (p ∷ ps) p.0 ≡ p.1
first_sum c p ps rising =
    let e : leb p.0 p.0 ≡ true = le-leb p.0 p.0 (omega arith) in
    rw e (omega (arith, ints, sum_before (suc p.0) ps p.0 rising.2 (omega arith)))

some_sum : (c : ℕ) (p : Point) (ps : List Point) → RiseFrom c (p ∷ ps) → sum_to (p ∷ ps) p.0 ≡ pos 0 → ⊥
some_sum c p ps rising none = false≢true (sym rising.1 ∙ (Decides-int_eq p.1 (pos 0)).1 (sym (first_sum c p ps rising) ∙ none))

first_le : (q : Point) (qs : List Point) (p : Point) (ps : List Point) (d c : ℕ) → RiseFrom c (q ∷ qs) → RiseFrom d (p ∷ ps) → ((t : ℕ) → sum_to (q ∷ qs) t ≡ sum_to (p ∷ ps) t) → p.0 ≤ q.0
first_le q qs p ps d c one two sums = cases (leb p.0 q.0) refl
  where
    cases : (v : Bool) → leb p.0 q.0 ≡ v → p.0 ≤ q.0
    cases true e = leb-true p.0 q.0 e
    cases false e = absurd (some_sum c q qs one (sums q.0 ∙ sum_before p.0 (p ∷ ps) q.0 (omega arith, two.1, two.2) (leb-false p.0 q.0 e)))

-- rising points are determined by their sums
pub same_points : (c e : ℕ) (ps qs : List Point) → RiseFrom c ps → RiseFrom e qs → ((t : ℕ) → sum_to ps t ≡ sum_to qs t) → ps ≡ qs
same_points c e [] [] one two sums = refl
same_points c e [] (q ∷ qs) one two sums = absurd (some_sum e q qs two (sym (sums q.0)))
same_points c e (p ∷ ps) [] one two sums = absurd (some_sum c p ps one (sums p.0))
same_points c e (p ∷ ps) (q ∷ qs) one two sums =
    let low : p.0 ≤ q.0 = first_le q qs p ps c e two one (λ t. sym (sums t)) in
    let high : q.0 ≤ p.0 = first_le p ps q qs e c one two sums in
    let moment : p.0 ≡ q.0 = omega (arith, low, high) in
    let delta : p.1 ≡ q.1 = omega (arith, ints, sums p.0, first_sum c p ps one, ap (sum_to (q ∷ qs)) moment, first_sum e q qs two) in
    let rest : ps ≡ qs = same_points (suc p.0) (suc q.0) ps qs one.2 two.2 (λ t. later t moment delta (sums t) (leb p.0 t) refl) in
    ap (λ n. (n, p.1) ∷ ps) moment ∙ ap (λ z. (q.0, z) ∷ ps) delta ∙ ap (λ l. q ∷ l) rest
  where
    later : (t : ℕ) → p.0 ≡ q.0 → p.1 ≡ q.1 → sum_to (p ∷ ps) t ≡ sum_to (q ∷ qs) t → (v : Bool) → leb p.0 t ≡ v → sum_to ps t ≡ sum_to qs t
    later t moment delta sum true e =
        let f : leb q.0 t ≡ true = ap (λ n. leb n t) (sym moment) ∙ e in
        let g : cond (leb p.0 t) p.1 (pos 0) ≡ p.1 = rw e refl in
        let h : cond (leb q.0 t) q.1 (pos 0) ≡ q.1 = rw f refl in
        omega (arith, ints, sum, g, h, delta)
    later t moment delta sum false e =
        let lt : t < p.0 = leb-false p.0 t e in
        sum_before (suc p.0) ps t one.2 (omega (arith, lt)) ∙ sym (sum_before (suc q.0) qs t two.2 (omega (arith, lt, moment)))
