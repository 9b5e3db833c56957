-- The first point after which a sum is outside, and how many points lie ahead.
use Rattle.std.proofs.Common.{◌≡◌, ℕ, zero, suc, ◌+◌, ◌<◌, ◌≤◌, Bool, true, false, List, [], ◌∷◌, length, get_or, drop, refl, ap, sym, ◌∙◌, subst, arith, cond, ℤ, pos, ◌+ℤ◌, leb, Some, Option}
use Rattle.std.proofs.lemmas.Bool.{cond_both, lt-ltb, le-ltb, ltb-true, ltb-false, le-leb, lt-leb}
use Rattle.std.proofs.lemmas.Int.{ints}
use Rattle.std.specs.Prelude.{int_lt}
use Rattle.std.proofs.lemmas.List.{length-drop}
use Rattle.std.proofs.Math.Bool.{or-true}
use Rattle.pl_lists.specs.Lists.{back}
use Rattle.pl_points.specs.Points.{Point, sum_to, sum_below, is_before, is_out, outside_among, first_outside, leaving, points_from, ahead_of, RiseFrom, SmallFrom}
use Rattle.pl_points.proofs.Parting.{drop_next}
use Rattle.pl_points.proofs.PointLists.{sum_before}

pub back_le : {T : Type 0} (p : T → Bool) (xs : List T) → length (back p xs) ≤ length xs
back_le p [] = omega arith
back_le p (x ∷ xs) = cond_both (p x) (back p xs) (x ∷ xs) (λ l. length l ≤ suc (length xs)) (λ e. omega (arith, back_le p xs)) (λ e. omega arith)

pub points_fall : (ps : List Point) (a b : ℕ) → a ≤ b → points_from ps b ≤ points_from ps a
points_fall [] a b le = omega arith
points_fall (p ∷ ps) a b le = cases (is_before a p) refl (points_fall ps a b le)
  where
    cases : (v : Bool) → is_before a p ≡ v → points_from ps b ≤ points_from ps a → points_from (p ∷ ps) b ≤ points_from (p ∷ ps) a
    cases true e more =
        let f : is_before b p ≡ true = lt-ltb p.0 b (omega (arith, ltb-true p.0 a e, le)) in
        rw e (rw f more)
    cases false e more = rw e (back_le (is_before b) (p ∷ ps))

later_at : (c : ℕ) (ps : List Point) (i : ℕ) (p : Point) → RiseFrom c ps → i < length ps → p ≡ get_or ps i p → c ≤ p.0
later_at c [] i p rising lt is = absurd (omega (arith, lt))
later_at c (q ∷ ps) zero p rising lt is = subst (λ (r : Point). c ≤ r.0) (sym is) rising.0
later_at c (q ∷ ps) (suc i) p rising lt is = omega (arith, rising.0, later_at (suc q.0) ps i p rising.2 (omega (arith, lt)) is)

-- a point at a place has those from that place on ahead
pub points_at : (c : ℕ) (ps : List Point) (i : ℕ) (p : Point) → RiseFrom c ps → i < length ps → p ≡ get_or ps i p → points_from ps p.0 + i ≡ length ps
points_at c [] i p rising lt is = absurd (omega (arith, lt))
points_at c (q ∷ ps) zero p rising lt is =
    let e : is_before p.0 q ≡ false = le-ltb q.0 p.0 (omega (arith, ap (λ (r : Point). r.0) is)) in
    rw e (omega arith)
points_at c (q ∷ ps) (suc i) p rising lt is =
    let e : is_before p.0 q ≡ true = lt-ltb q.0 p.0 (omega (arith, later_at (suc q.0) ps i p rising.2 (omega (arith, lt)) is)) in
    rw e (omega (arith, points_at (suc q.0) ps i p rising.2 (omega (arith, lt)) is))

-- a point that does not lie later leaves one less
pub points_passed : (ps : List Point) (i j at : ℕ) (p : Point) → RiseFrom 0 ps → i < length ps → j ≡ i + 1 → p ≡ get_or ps i p → p.0 ≤ at → points_from ps at + j ≤ length ps + 1
points_passed ps i j at p rising lt next is le = omega (arith, next, points_at 0 ps i p rising lt is, points_fall ps p.0 at le)

-- a later moment leaves the same of what lies from an earlier one on
pub points_back : (ps : List Point) (a b : ℕ) → a ≤ b → points_from ps b ≡ points_from (back (is_before a) ps) b
points_back [] a b le = refl
points_back (p ∷ ps) a b le = cases (is_before a p) refl (points_back ps a b le)
  where
    cases : (v : Bool) → is_before a p ≡ v → points_from ps b ≡ points_from (back (is_before a) ps) b → points_from (p ∷ ps) b ≡ points_from (back (is_before a) (p ∷ ps)) b
    cases true e more =
        let f : is_before b p ≡ true = lt-ltb p.0 b (omega (arith, ltb-true p.0 a e, le)) in
        rw e (rw f more)
    cases false e more = rw e refl

pub rising_back : (c at : ℕ) (ps : List Point) → RiseFrom c ps → RiseFrom at (back (is_before at) ps)
rising_back c at [] rising = tt
rising_back c at (p ∷ ps) rising = cond_both (is_before at p) (back (is_before at) ps) (p ∷ ps) (λ l. RiseFrom at l)
    (λ e. rising_back (suc p.0) at ps rising.2) (λ e. (ltb-false p.0 at e, rising.1, rising.2))

-- before the first moment there is nothing to add up
pub below_none : (c at : ℕ) (ps : List Point) → at ≤ c → RiseFrom c ps → sum_below ps at ≡ pos 0
below_none c at [] le rising = refl
below_none c at (p ∷ ps) le rising =
    let e : is_before at p ≡ false = le-ltb p.0 at (omega (arith, le, rising.0)) in
    rw e (omega (arith, ints, below_none (suc p.0) at ps (omega (arith, le, rising.0)) rising.2))

pub back_none : (c at : ℕ) (ps : List Point) → at ≤ c → RiseFrom c ps → back (is_before at) ps ≡ ps
back_none c at [] le rising = refl
back_none c at (p ∷ ps) le rising =
    let e : is_before at p ≡ false = le-ltb p.0 at (omega (arith, le, rising.0)) in
    rw e refl

pub small_back : (s : ℤ) (c at : ℕ) (ps : List Point) → RiseFrom c ps → SmallFrom s ps → SmallFrom (s +ℤ sum_below ps at) (back (is_before at) ps)
small_back s c at [] rising small = subst (λ z. SmallFrom z []) (omega (arith, ints)) small
small_back s c at (p ∷ ps) rising small = cases (is_before at p) refl (small_back (s +ℤ p.1) (suc p.0) at ps rising.2 small.1)
  where
    cases : (v : Bool) → is_before at p ≡ v → SmallFrom ((s +ℤ p.1) +ℤ sum_below ps at) (back (is_before at) ps) → SmallFrom (s +ℤ sum_below (p ∷ ps) at) (back (is_before at) (p ∷ ps))
    cases true e more =
        let same : (s +ℤ p.1) +ℤ sum_below ps at ≡ s +ℤ (p.1 +ℤ sum_below ps at) = omega (arith, ints) in
        rw e (subst (λ z. SmallFrom z (back (is_before at) ps)) same more)
    cases false e more =
        let none : sum_below ps at ≡ pos 0 = below_none (suc p.0) at ps (omega (arith, ltb-false p.0 at e)) rising.2 in
        let same : s ≡ s +ℤ (pos 0 +ℤ sum_below ps at) = omega (arith, ints, none) in
        rw e (subst (λ z. SmallFrom z (p ∷ ps)) same small)

-- the sums behind a point
sums_later : (S : ℕ → ℤ) (s : ℤ) (c : ℕ) (p : Point) (ps : List Point) (t : ℕ) → c ≤ p.0 → suc p.0 ≤ t → ((t : ℕ) → c ≤ t → S t ≡ s +ℤ sum_to (p ∷ ps) t) → S t ≡ (s +ℤ p.1) +ℤ sum_to ps t
sums_later S s c p ps t low le sums =
    let e : leb p.0 t ≡ true = le-leb p.0 t (omega (arith, le)) in
    let f : cond (leb p.0 t) p.1 (pos 0) ≡ p.1 = rw e refl in
    omega (arith, ints, sums t (omega (arith, le, low)), f)

-- where the sums are those that the points add up to, the first outside is the first that leaves
outside_leaves : (S : ℕ → ℤ) (s : ℤ) (c from : ℕ) (least most : ℤ) (ps : List Point) → RiseFrom c ps → ((t : ℕ) → c ≤ t → S t ≡ s +ℤ sum_to ps t)
    → outside_among S from least most ps ≡ leaving least most (s +ℤ sum_below ps from) (back (is_before from) ps)
outside_leaves S s c from least most [] rising sums = refl
outside_leaves S s c from least most (p ∷ ps) rising sums = cases (is_before from p) refl (outside_leaves S (s +ℤ p.1) (suc p.0) from least most ps rising.2 (λ t le. sums_later S s c p ps t rising.0 le sums))
  where
    here : S p.0 ≡ s +ℤ p.1
    here =
        let e : leb p.0 p.0 ≡ true = le-leb p.0 p.0 (omega arith) in
        let f : cond (leb p.0 p.0) p.1 (pos 0) ≡ p.1 = rw e refl in
        omega (arith, ints, sums p.0 rising.0, f, sum_before (suc p.0) ps p.0 rising.2 (omega arith))

    cases : (v : Bool) → is_before from p ≡ v → outside_among S from least most ps ≡ leaving least most ((s +ℤ p.1) +ℤ sum_below ps from) (back (is_before from) ps) → outside_among S from least most (p ∷ ps) ≡ leaving least most (s +ℤ sum_below (p ∷ ps) from) (back (is_before from) (p ∷ ps))
    cases true e more =
        let f : leb from p.0 ≡ false = lt-leb from p.0 (ltb-true p.0 from e) in
        let same : (s +ℤ p.1) +ℤ sum_below ps from ≡ s +ℤ (p.1 +ℤ sum_below ps from) = omega (arith, ints) in
        rw e (rw f (more ∙ ap (λ z. leaving least most z (back (is_before from) ps)) same))
    cases false e more =
        let le : from ≤ p.0 = ltb-false p.0 from e in
        let f : leb from p.0 ≡ true = le-leb from p.0 le in
        let none : sum_below ps from ≡ pos 0 = below_none (suc p.0) from ps (omega (arith, le)) rising.2 in
        let all : back (is_before from) ps ≡ ps = back_none (suc p.0) from ps (omega (arith, le)) rising.2 in
        let zero_more : (s +ℤ p.1) +ℤ sum_below ps from ≡ s +ℤ p.1 = omega (arith, ints, none) in
        let start : s ≡ s +ℤ (pos 0 +ℤ sum_below ps from) = omega (arith, ints, none) in
        let rest : outside_among S from least most ps ≡ leaving least most (s +ℤ p.1) ps = more ∙ ap (λ z. leaving least most z (back (is_before from) ps)) zero_more ∙ ap (leaving least most (s +ℤ p.1)) all in
        rw e (rw f (ap (λ z. cond (is_out least most z) (Some (p.0, z)) (outside_among S from least most ps)) here
        ∙ ap (λ r. cond (is_out least most (s +ℤ p.1)) (Some (p.0, s +ℤ p.1)) r) rest
        ∙ ap (λ z. leaving least most z (p ∷ ps)) start))

pub first_is_leaving : (ps : List Point) (from : ℕ) (least most s : ℤ) → RiseFrom 0 ps → s ≡ sum_below ps from → first_outside ps from least most ≡ leaving least most s (back (is_before from) ps)
first_is_leaving ps from least most s rising is =
    let same : pos 0 +ℤ sum_below ps from ≡ s = omega (arith, ints, is) in
    outside_leaves (sum_to ps) (pos 0) 0 from least most ps rising (λ t le. omega (arith, ints)) ∙ ap (λ z. leaving least most z (back (is_before from) ps)) same

-- two counts of what lies ahead that agree from a moment on agree on an answer
pub leaving_ahead : (f g : ℕ → ℕ) (c : ℕ) (least most s : ℤ) (ps : List Point) → RiseFrom c ps → ((t : ℕ) → c ≤ t → f t ≡ g t) → ahead_of f (leaving least most s ps) ≡ ahead_of g (leaving least most s ps)
leaving_ahead f g c least most s [] rising same = refl
leaving_ahead f g c least most s (p ∷ ps) rising same =
    cond_both (is_out least most (s +ℤ p.1)) (Some (p.0, s +ℤ p.1)) (leaving least most (s +ℤ p.1) ps) (λ r. ahead_of f r ≡ ahead_of g r)
    (λ e. same p.0 rising.0)
    (λ e. leaving_ahead f g (suc p.0) least most (s +ℤ p.1) ps rising.2 (λ t le. same t (omega (arith, le, rising.0))))

-- a step of the search
pub leaving_step : (least most s : ℤ) (ps : List Point) (i j : ℕ) (p : Point) → i < length ps → j ≡ i + 1 → p ≡ get_or ps i p
    → leaving least most s (drop i ps) ≡ cond (is_out least most (s +ℤ p.1)) (Some (p.0, s +ℤ p.1)) (leaving least most (s +ℤ p.1) (drop j ps))
leaving_step least most s ps i j p lt next is =
    let same : suc i ≡ j = omega (arith, next) in
    let e : drop i ps ≡ p ∷ drop j ps = drop_next ps i p lt ∙ ap (λ q. q ∷ drop (suc i) ps) (sym is) ∙ ap (λ n. p ∷ drop n ps) same in
    ap (leaving least most s) e

not_out : (least most z : ℤ) → int_lt z least ≡ false → int_lt most z ≡ false → is_out least most z ≡ false
not_out least most z low high = rw low (rw high refl)

pub low_out : (least most z : ℤ) → int_lt z least ≡ true → is_out least most z ≡ true
low_out least most z low = rw low refl

pub high_out : (least most z : ℤ) → int_lt most z ≡ true → is_out least most z ≡ true
high_out least most z high = rw high (or-true (int_lt z least))

pub same_leaving : (L M B l m b : ℤ) (ps : List Point) → L ≡ l → M ≡ m → B ≡ b → leaving L M B ps ≡ leaving l m b ps
same_leaving L M B l m b ps low high before = ap (λ x. leaving x M B ps) low ∙ ap (λ x. leaving l x B ps) high ∙ ap (λ x. leaving l m x ps) before

-- a point after which the sum is outside is the answer
pub left_here : (L M B s z l m b : ℤ) (ps : List Point) (i j : ℕ) (p : Point) → i < length ps → j ≡ i + 1 → p ≡ get_or ps i p → z ≡ s +ℤ p.1 → L ≡ l → M ≡ m → B ≡ b → is_out L M z ≡ true → leaving L M s (drop i ps) ≡ leaving L M B ps
    → Some (p.0, z) ≡ leaving l m b ps
left_here L M B s z l m b ps i j p lt next is sum low high before out rest =
    let test : is_out L M (s +ℤ p.1) ≡ true = sym (ap (is_out L M) sum) ∙ out in
    let here : cond (is_out L M (s +ℤ p.1)) (Some (p.0, s +ℤ p.1)) (leaving L M (s +ℤ p.1) (drop j ps)) ≡ Some (p.0, s +ℤ p.1) = rw test refl in
    ap (λ x. Some (p.0, x)) sum ∙ sym (leaving_step L M s ps i j p lt next is ∙ here) ∙ rest ∙ same_leaving L M B l m b ps low high before

-- behind one after which it is inside the search goes on
pub goes_on : (L M B s z : ℤ) (ps : List Point) (i j : ℕ) (p : Point) → i < length ps → j ≡ i + 1 → p ≡ get_or ps i p → z ≡ s +ℤ p.1 → int_lt z L ≡ false → int_lt M z ≡ false → leaving L M s (drop i ps) ≡ leaving L M B ps
    → leaving L M z (drop j ps) ≡ leaving L M B ps
goes_on L M B s z ps i j p lt next is sum low high rest =
    let test : is_out L M (s +ℤ p.1) ≡ false = sym (ap (is_out L M) sum) ∙ not_out L M z low high in
    let here : cond (is_out L M (s +ℤ p.1)) (Some (p.0, s +ℤ p.1)) (leaving L M (s +ℤ p.1) (drop j ps)) ≡ leaving L M (s +ℤ p.1) (drop j ps) = rw test refl in
    ap (λ x. leaving L M x (drop j ps)) sum ∙ sym (leaving_step L M s ps i j p lt next is ∙ here) ∙ rest

pub look_passes : (ps : List Point) (i at : ℕ) (p : Point) → RiseFrom 0 ps → i < length ps → p ≡ get_or ps i p → drop i ps ≡ back (is_before at) ps → points_from ps p.0 ≤ points_from ps at
look_passes ps i at p rising lt is rest = omega (arith, points_at 0 ps i p rising lt is, ap length rest, length-drop i ps)

pub first_left : (ps xs : List Point) (from : ℕ) (L M B l m b : ℤ) (r : Option Point) → RiseFrom 0 ps → xs ≡ back (is_before from) ps → L ≡ l → M ≡ m → B ≡ b → b ≡ sum_below ps from → r ≡ leaving L M B xs → r ≡ first_outside ps from l m
first_left ps xs from L M B l m b r rising is low high before sum e =
    e ∙ same_leaving L M B l m b xs low high before ∙ ap (leaving l m b) is ∙ sym (first_is_leaving ps from l m b rising sum)

pub outside_passes : (ps xs : List Point) (from : ℕ) (L M B : ℤ) (r : Option Point) → RiseFrom 0 ps → xs ≡ back (is_before from) ps → r ≡ leaving L M B xs
    → (ahead_of (points_from ps) r ≡ ahead_of (points_from xs) r) × (length xs ≡ points_from ps from)
outside_passes ps xs from L M B r rising is e =
    let bs = back (is_before from) ps in
    let same : ahead_of (points_from ps) (leaving L M B bs) ≡ ahead_of (points_from bs) (leaving L M B bs) = leaving_ahead (points_from ps) (points_from bs) from L M B bs (rising_back 0 from ps rising) (λ t le. points_back ps from t le) in
    let f : r ≡ leaving L M B bs = e ∙ ap (leaving L M B) is in
    (ap (ahead_of (points_from ps)) f ∙ same ∙ ap (ahead_of (points_from bs)) (sym f) ∙ ap (λ l. ahead_of (points_from l) r) (sym is), ap length is)
