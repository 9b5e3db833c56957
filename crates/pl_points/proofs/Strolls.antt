-- What a walk finds from point to point, and what it takes.
use Rattle.std.proofs.Common.{◌≡◌, ℕ, suc, ◌+◌, ◌*◌, ◌<◌, ◌≤◌, ◌⊎◌, Bool, true, false, ◌&&◌, ◌||◌, List, [], ◌∷◌, refl, ap, sym, ◌∙◌, subst, inl, inr, arith, cond, ltb, leb, ℤ, pos, ◌+ℤ◌, Some, None, Option}
use Rattle.std.proofs.lemmas.Bool.{cond_both, lt-ltb, le-ltb, ltb-true, ltb-false, leb-true, leb-false, le-leb, lt-leb}
use Rattle.std.proofs.lemmas.Int.{ints}
use Rattle.std.proofs.Math.Nat.{mul-le-mul_left}
use Rattle.std.proofs.Math.Bool.{or-false}
use Rattle.std.proofs.lemmas.Option.{same_Some}
use Rattle.pl_lists.specs.Lists.{back}
use Rattle.pl_points.specs.Points.{Point, sum_to, sum_below, is_before, is_out, first_from, outside_among, first_outside, leaving, RiseFrom}
use Rattle.pl_points.specs.Counting.{points_with, points_after, walk_left, walk_steps}
use Rattle.pl_points.specs.Spans.{within}
use Rattle.pl_points.proofs.Cuts.{within_high, within_low}
use Rattle.pl_points.proofs.PointLists.{sum_before}
use Rattle.pl_points.proofs.Outside.{rising_back, first_is_leaving}

-- a point at the moment
abbrev pub HasMoment : ℕ → List Point → Type 0
HasMoment m [] = ⊥
HasMoment m (p ∷ ps) = (p.0 ≡ m) ⊎ HasMoment m ps

pub first_has : (at : ℕ) (ps : List Point) (p : Point) → first_from ps at ≡ Some p → HasMoment p.0 ps
first_has at [] p e = absurd (cc)
first_has at (q ∷ ps) p e = cases (leb at q.0) (first_has at ps p) e
  where
    cases : (v : Bool) → (first_from ps at ≡ Some p → HasMoment p.0 ps) → cond v (Some q) (first_from ps at) ≡ Some p → HasMoment p.0 (q ∷ ps)
    cases true more h = inl (ap (λ (x : Point). x.0) (same_Some q p h))
    cases false more h = inr (more h)

pub outside_has : (S : ℕ → ℤ) (from : ℕ) (least most : ℤ) (ps : List Point) (r : Point) → outside_among S from least most ps ≡ Some r → HasMoment r.0 ps
outside_has S from least most [] r e = absurd (cc)
outside_has S from least most (q ∷ ps) r e = cases (leb from q.0 && is_out least most (S q.0)) (outside_has S from least most ps r) e
  where
    cases : (v : Bool) → (outside_among S from least most ps ≡ Some r → HasMoment r.0 ps) → cond v (Some (q.0, S q.0)) (outside_among S from least most ps) ≡ Some r → HasMoment r.0 (q ∷ ps)
    cases true more h = inl (ap (λ (x : Point). x.0) (same_Some (q.0, S q.0) r h))
    cases false more h = inr (more h)

one_falls : (o : Bool) (a b n : ℕ) → a ≤ b → cond (ltb b n && o) 1 0 ≤ cond (ltb a n && o) 1 0
one_falls o a b n le = cases (ltb b n) refl
  where
    cases : (v : Bool) → ltb b n ≡ v → cond (v && o) 1 0 ≤ cond (ltb a n && o) 1 0
    cases true e =
        let f : ltb a n ≡ true = lt-ltb a n (omega (arith, ltb-true b n e, le)) in
        rw f (omega arith)
    cases false e = omega arith

pub after_falls : (out : ℕ → Bool) (a b : ℕ) (ps : List Point) → a ≤ b → points_after out b ps ≤ points_after out a ps
after_falls out a b [] le = omega arith
after_falls out a b (p ∷ ps) le = omega (arith, one_falls (out p.0) a b p.0 le, after_falls out a b ps le)

pub after_all : (out : ℕ → Bool) (at : ℕ) (ps : List Point) → points_after out at ps ≤ points_with out ps
after_all out at [] = omega arith
after_all out at (p ∷ ps) = omega (arith, one (ltb at p.0) (out p.0), after_all out at ps)
  where
    one : (v o : Bool) → cond (v && o) 1 0 ≤ cond o 1 0
    one true o = omega arith
    one false o = omega arith

-- a point that the walk comes to counts no more
pub after_step : (out : ℕ → Bool) (at m : ℕ) (ps : List Point) → HasMoment m ps → at < m → cond (out m) 1 0 + points_after out m ps ≤ points_after out at ps
after_step out at m [] has lt = absurd has
after_step out at m (p ∷ ps) (inl e) lt =
    let f : ltb at p.0 ≡ true = lt-ltb at p.0 (omega (arith, e, lt)) in
    let h : ltb m p.0 ≡ false = le-ltb m p.0 (omega (arith, e)) in
    let same : ◌≡◌ {A = ℕ} (cond (out m) 1 0) (cond (out p.0) 1 0) = ap (λ n. cond (out n) 1 0) (sym e) in
    rw f (rw h (omega (arith, same, after_falls out at m ps (omega (arith, lt)))))
after_step out at m (p ∷ ps) (inr has) lt = omega (arith, one_falls (out p.0) at m p.0 (omega (arith, lt)), after_step out at m ps has lt)

pub spend_search : (s t aat am look search N M : ℕ) → t + am ≤ s + aat + search → 1 + M ≤ N → t + (am + look + search + (look + search) * M) ≤ s + (aat + 0 + search + (look + search) * N)
spend_search s t aat am look search N M cost less = omega (arith, cost, mul-le-mul_left (look + search) less)

pub left_search : (ahead : ℕ → ℕ) (look search s t at m : ℕ) (out : ℕ → Bool) (ps : List Point) → out at ≡ false → out m ≡ true → cond (out m) 1 0 + points_after out m ps ≤ points_after out at ps → t + ahead m ≤ s + ahead (at + 1) + search → ahead (at + 1) ≤ ahead at
    → t + walk_left ahead look search out ps m ≤ s + walk_left ahead look search out ps at
left_search ahead look search s t at m out ps e f less cost falls =
    let one : ◌≡◌ {A = ℕ} (cond (out m) 1 0) 1 = ap (λ v. cond v 1 0) f in
    let h : t + (ahead m + look + search + (look + search) * points_after out m ps) ≤ s + (ahead at + 0 + search + (look + search) * points_after out at ps) = spend_search s t (ahead at) (ahead m) look search (points_after out at ps) (points_after out m ps) (omega (arith, cost, falls)) (omega (arith, one, less)) in
    let same : cond (out at) look 0 ≡ 0 = ap (λ v. cond v look 0) e in
    let other : cond (out m) look 0 ≡ look = ap (λ v. cond v look 0) f in
    omega (arith, h, same, other)

-- a look to a point outside, and a search from there to one inside
pub left_return : (ahead : ℕ → ℕ) (look search s u t at m n : ℕ) (out : ℕ → Bool) (ps : List Point) → out at ≡ true → out m ≡ true → out n ≡ false → cond (out m) 1 0 + points_after out m ps ≤ points_after out at ps → cond (out n) 1 0 + points_after out n ps ≤ points_after out m ps
    → u + ahead m ≤ s + ahead (at + 1) + look → t + ahead n ≤ u + ahead (m + 1) + search → ahead (at + 1) ≤ ahead at → ahead (m + 1) ≤ ahead m
    → t + walk_left ahead look search out ps n ≤ s + walk_left ahead look search out ps at
left_return ahead look search s u t at m n out ps e f h first second one two falls step =
    let here : cond (out at) look 0 ≡ look = ap (λ v. cond v look 0) e in
    let gone : cond (out n) look 0 ≡ 0 = ap (λ v. cond v look 0) h in
    let counts : ◌≡◌ {A = ℕ} (cond (out m) 1 0) 1 = ap (λ v. cond v 1 0) f in
    let less : 1 + points_after out n ps ≤ points_after out at ps = omega (arith, counts, first, second) in
    omega (arith, here, gone, one, two, falls, step, mul-le-mul_left (look + search) less)

-- a walk begins with all of it left
pub left_first : (ahead parts : ℕ → ℕ) (look search s t at count : ℕ) (out : ℕ → Bool) (ps : List Point) → t + ahead at ≤ s + parts count + search → t + walk_left ahead look search out ps at ≤ s + walk_steps parts look search count (points_after out at ps)
left_first ahead parts look search s t at count out ps cost =
    let one : cond (out at) look 0 ≤ look = cond_both (out at) look 0 (λ n. n ≤ look) (λ e. omega arith) (λ e. omega arith) in
    omega (arith, cost, one)

-- a walk that meets fewer points outside takes no more
pub walk_less : (parts : ℕ → ℕ) (look search count a b : ℕ) → a ≤ b → walk_steps parts look search count a ≤ walk_steps parts look search count b
walk_less parts look search count a b le = omega (arith, mul-le-mul_left (look + search) le)

pub after_same : (out other : ℕ → Bool) (at : ℕ) (ps : List Point) → ((t : ℕ) → at < t → out t ≡ other t) → points_after out at ps ≡ points_after other at ps
after_same out other at [] same = refl
after_same out other at (p ∷ ps) same = omega (arith, one (ltb at p.0) refl, after_same out other at ps same)
  where
    one : (v : Bool) → ltb at p.0 ≡ v → ◌≡◌ {A = ℕ} (cond (ltb at p.0 && out p.0) 1 0) (cond (ltb at p.0 && other p.0) 1 0)
    one true e = rw e (ap (λ o. cond o 1 0) (same p.0 (ltb-true at p.0 e)))
    one false e = rw e refl

pub none_within : (a t : ℕ) (c o : Bool) → c ≡ (c || (within a a t && o))
none_within a t c o = let e : within a a t ≡ false = cases (leb a t) refl in rw e (sym (or-false c))
  where
    cases : (v : Bool) → leb a t ≡ v → within a a t ≡ false
    cases true e = within_high a a t (leb-true a t e)
    cases false e = within_low a a t (leb-false a t e)

pub sum_is_below : (ps : List Point) (at : ℕ) → sum_to ps at ≡ sum_below ps (at + 1)
sum_is_below [] at = refl
sum_is_below (p ∷ ps) at = ap (λ v. cond v p.1 (pos 0) +ℤ sum_to ps at) (same p.0) ∙ ap (λ z. cond (ltb p.0 (at + 1)) p.1 (pos 0) +ℤ z) (sum_is_below ps at)
  where
    same : (n : ℕ) → leb n at ≡ ltb n (at + 1)
    same n = cases (leb n at) refl
      where
        cases : (v : Bool) → leb n at ≡ v → v ≡ ltb n (at + 1)
        cases true e = sym (lt-ltb n (at + 1) (omega (arith, leb-true n at e)))
        cases false e = sym (le-ltb n (at + 1) (omega (arith, leb-false n at e)))

-- the sum at a later moment adds the points between
sum_between : (c at t : ℕ) (ps : List Point) → RiseFrom c ps → at ≤ t → sum_to ps t ≡ sum_to ps at +ℤ sum_to (back (is_before (at + 1)) ps) t
sum_between c at t [] rising le = omega (arith, ints)
sum_between c at t (p ∷ ps) rising le = cases (is_before (at + 1) p) refl (sum_between (suc p.0) at t ps rising.2 le)
  where
    cases : (v : Bool) → is_before (at + 1) p ≡ v → sum_to ps t ≡ sum_to ps at +ℤ sum_to (back (is_before (at + 1)) ps) t → sum_to (p ∷ ps) t ≡ sum_to (p ∷ ps) at +ℤ sum_to (back (is_before (at + 1)) (p ∷ ps)) t
    cases true e more =
        let low : p.0 < at + 1 = ltb-true p.0 (at + 1) e in
        let f : leb p.0 t ≡ true = le-leb p.0 t (omega (arith, low, le)) in
        let h : leb p.0 at ≡ true = le-leb p.0 at (omega (arith, low)) in
        rw e (rw f (rw h (omega (arith, ints, more))))
    cases false e more =
        let high : at + 1 ≤ p.0 = ltb-false p.0 (at + 1) e in
        let h : leb p.0 at ≡ false = lt-leb p.0 at (omega (arith, high)) in
        rw e (rw h (omega (arith, ints, sum_before (suc p.0) ps at rising.2 (omega (arith, high)))))

-- up to the first that leaves the sum is inside
abbrev pub Inside : ℤ → ℤ → ℤ → ℕ → List Point → Option Point → Type 0
Inside least most s c ps None = (t : ℕ) → is_out least most (s +ℤ sum_to ps t) ≡ false
Inside least most s c ps (Some q) = (c ≤ q.0) × (((t : ℕ) → t < q.0 → is_out least most (s +ℤ sum_to ps t) ≡ false) × ((q.1 ≡ s +ℤ sum_to ps q.0) × (is_out least most q.1 ≡ true)))

inside_more : (least most s : ℤ) (c : ℕ) (p : Point) (ps : List Point) (r : Option Point) → c ≤ p.0 → is_out least most s ≡ false → RiseFrom (suc p.0) ps → Inside least most (s +ℤ p.1) (suc p.0) ps r → Inside least most s c (p ∷ ps) r
inside_more least most s c p ps None le here rising more = λ t. cases t (leb p.0 t) refl
  where
    cases : (t : ℕ) (v : Bool) → leb p.0 t ≡ v → is_out least most (s +ℤ sum_to (p ∷ ps) t) ≡ false
    cases t true e =
        let same : s +ℤ (p.1 +ℤ sum_to ps t) ≡ (s +ℤ p.1) +ℤ sum_to ps t = omega (arith, ints) in
        rw e (ap (is_out least most) same ∙ more t)
    cases t false e =
        let same : s +ℤ (pos 0 +ℤ sum_to ps t) ≡ s = omega (arith, ints, sum_before (suc p.0) ps t rising (omega (arith, leb-false p.0 t e))) in
        rw e (ap (is_out least most) same ∙ here)
inside_more least most s c p ps (Some q) le here rising more =
    let f : leb p.0 q.0 ≡ true = le-leb p.0 q.0 (omega (arith, more.0)) in
    (omega (arith, le, more.0), ((λ t lt. cases t lt (leb p.0 t) refl), ((rw f (omega (arith, ints, more.1.1.0))), more.1.1.1)))
  where
    cases : (t : ℕ) → t < q.0 → (v : Bool) → leb p.0 t ≡ v → is_out least most (s +ℤ sum_to (p ∷ ps) t) ≡ false
    cases t lt true e =
        let same : s +ℤ (p.1 +ℤ sum_to ps t) ≡ (s +ℤ p.1) +ℤ sum_to ps t = omega (arith, ints) in
        rw e (ap (is_out least most) same ∙ more.1.0 t lt)
    cases t lt false e =
        let same : s +ℤ (pos 0 +ℤ sum_to ps t) ≡ s = omega (arith, ints, sum_before (suc p.0) ps t rising (omega (arith, leb-false p.0 t e))) in
        rw e (ap (is_out least most) same ∙ here)

inside_here : (least most s : ℤ) (c : ℕ) (p : Point) (ps : List Point) → c ≤ p.0 → is_out least most s ≡ false → RiseFrom (suc p.0) ps → is_out least most (s +ℤ p.1) ≡ true → Inside least most s c (p ∷ ps) (Some (p.0, s +ℤ p.1))
inside_here least most s c p ps le here rising out =
    let f : leb p.0 p.0 ≡ true = le-leb p.0 p.0 (omega arith) in
    (le, ((λ t lt. early t lt), (rw f (omega (arith, ints, sum_before (suc p.0) ps p.0 rising (omega arith))), out)))
  where
    early : (t : ℕ) → t < p.0 → is_out least most (s +ℤ sum_to (p ∷ ps) t) ≡ false
    early t lt =
        let e : leb p.0 t ≡ false = lt-leb p.0 t lt in
        let same : s +ℤ (pos 0 +ℤ sum_to ps t) ≡ s = omega (arith, ints, sum_before (suc p.0) ps t rising (omega (arith, lt))) in
        rw e (ap (is_out least most) same ∙ here)

inside_until : (least most s : ℤ) (c : ℕ) (ps : List Point) → RiseFrom c ps → is_out least most s ≡ false → Inside least most s c ps (leaving least most s ps)
inside_until least most s c [] rising here = λ t. let same : s +ℤ pos 0 ≡ s = omega (arith, ints) in ap (is_out least most) same ∙ here
inside_until least most s c (p ∷ ps) rising here = cases (is_out least most (s +ℤ p.1)) refl (λ e. inside_until least most (s +ℤ p.1) (suc p.0) ps rising.2 e)
  where
    cases : (v : Bool) → is_out least most (s +ℤ p.1) ≡ v → (is_out least most (s +ℤ p.1) ≡ false → Inside least most (s +ℤ p.1) (suc p.0) ps (leaving least most (s +ℤ p.1) ps))
        → Inside least most s c (p ∷ ps) (cond v (Some (p.0, s +ℤ p.1)) (leaving least most (s +ℤ p.1) ps))
    cases true e more = inside_here least most s c p ps rising.0 here rising.2 e
    cases false e more = inside_more least most s c p ps (leaving least most (s +ℤ p.1) ps) rising.0 here rising.2 (more e)

-- what the first point outside says of the sums up to it
abbrev pub StaysInside : ℤ → ℤ → ℕ → List Point → Option Point → Type 0
StaysInside least most at ps None = (t : ℕ) → at ≤ t → is_out least most (sum_to ps t) ≡ false
StaysInside least most at ps (Some q) = (at < q.0) × (((t : ℕ) → at ≤ t → t < q.0 → is_out least most (sum_to ps t) ≡ false) × ((q.1 ≡ sum_to ps q.0) × (is_out least most q.1 ≡ true)))

pub stays_inside : (least most s : ℤ) (at : ℕ) (ps : List Point) → RiseFrom 0 ps → s ≡ sum_to ps at → is_out least most s ≡ false → StaysInside least most at ps (first_outside ps (at + 1) least most)
stays_inside least most s at ps rising is here =
    let qs = back (is_before (at + 1)) ps in
    let same : first_outside ps (at + 1) least most ≡ leaving least most s qs = first_is_leaving ps (at + 1) least most s rising (is ∙ sum_is_below ps at) in
    subst (λ r. StaysInside least most at ps r) (sym same) (turned (leaving least most s qs) (inside_until least most s (at + 1) qs (rising_back 0 (at + 1) ps rising) here))
  where
    between : (t : ℕ) → at ≤ t → s +ℤ sum_to (back (is_before (at + 1)) ps) t ≡ sum_to ps t
    between t le = omega (arith, ints, is, sum_between 0 at t ps rising le)

    turned : (r : Option Point) → Inside least most s (at + 1) (back (is_before (at + 1)) ps) r → StaysInside least most at ps r
    turned None h = λ t le. ap (is_out least most) (sym (between t le)) ∙ h t
    turned (Some q) h = (omega (arith, h.0), ((λ t le lt. ap (is_out least most) (sym (between t le)) ∙ h.1.0 t lt), (h.1.1.0 ∙ between q.0 (omega (arith, h.0)), h.1.1.1)))

pub same_bounds : (L M l m z : ℤ) (o : Bool) → L ≡ l → M ≡ m → is_out l m z ≡ o → is_out L M z ≡ o
same_bounds L M l m z o low high e = ap (λ x. is_out x M z) low ∙ ap (λ x. is_out l x z) high ∙ e
