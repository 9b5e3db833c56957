-- What a change leaves of a sound level.
use Rattle.std.proofs.Common.{◌≡◌, ℕ, ◌+◌, ◌^◌, ◌<◌, ◌≤◌, Bool, true, false, ◌&&◌, ◌||◌, cond, List, [], ◌∷◌, ◌++◌, length, refl, ap, sym, ◌∙◌, subst, arith, eqb, ltb, leb, min, max, ℤ, pos, ◌+ℤ◌, ◌-ℤ◌, ◌≤ℤ◌, neg_ℤ}
use Rattle.std.specs.Ordering.{int_eq}
use Rattle.std.specs.Prelude.{int_lt}
use Rattle.std.proofs.lemmas.Bool.{cond_both, eqb-true, true≢false, and_parts, leb-true, leb-false, lt-ltb, le-ltb, le-leb}
use Rattle.std.proofs.lemmas.Bool.Decides.{Decides-int_eq}
use Rattle.std.proofs.lemmas.Int.{ints, to_z-of_z}
use Rattle.std.proofs.Math.Bool.{and-false, and-true, or-false}
use Rattle.std.proofs.lemmas.List.{length-append}
use mir.Val.{to_z, of_z, SFits}
use mir.Syntax.{w64}
use Rattle.pl_lists.proofs.Numbers.{add_nothing}
use Rattle.pl_points.specs.declared.span.Span.{Span}
use Rattle.pl_points.specs.declared.limit.Limit.TheVariants.{Below, Above}
use Rattle.pl_points.specs.Sums.{total, IsSmall}
use Rattle.pl_points.specs.Points.{Point, sum_to, is_out, merged, AreSmall, RiseFrom}
use Rattle.pl_points.specs.Limits.{is_outside}
use Rattle.pl_points.specs.Spans.{within, covers, AreSpans, AreMaximal, span}
use Rattle.pl_points.specs.Mending.{mended}
use Rattle.pl_points.specs.Changes.{IsChange}
use Rattle.pl_points.specs.Standing.{Each, stands, without}
use Rattle.pl_points.proofs.PointLists.{sum_to-merged, rising-merged, same_points}
use Rattle.pl_points.specs.Counting.{walk_steps, points_with, points_after, goes_outside}
use Rattle.pl_points.proofs.Strolls.{walk_less, after_all, after_same}
use Rattle.pl_points.proofs.Spanning.{within_true}
use Rattle.pl_points.proofs.Cuts.{within_yes}
use Rattle.pl_points.proofs.Maximal.{is_spans_of, remaximal, later_maximal, maximal_apart}
use Rattle.pl_points.proofs.Totals.{total_bounds, each-all, each-push, each-stands, each-without, length-without, IsAmount, total-push, total-without}
use Rattle.pl_level.specs.declared.reservation.Effect.{Effect}
use Rattle.pl_level.specs.declared.reservation.LevelChange.{LevelChange}
use Rattle.pl_level.specs.Effects.{Standing, IsEffect, IsValue, effect_of, same_effect, counted, level, is_low, is_high, low_now, high_now, points_of, effect_steps}
use Rattle.pl_level.specs.Soundness.{summed, IsTied, IsSound, IsShift, AreChanges}

pub amount_of : (u : Effect) → IsEffect u → IsAmount u.delta
amount_of u is = (is.1, is.2)

amount_summed : (t : ℕ) (u : Effect) → IsEffect u → IsAmount (summed t u)
amount_summed t u is = cond_both (leb u.at t) u.delta (pos 0) (λ z. IsAmount z) (λ e. (is.1, is.2)) (λ e. (omega (arith, ints), omega (arith, ints)))

abbrev InBounds : ℤ → Type 0
InBounds z = (neg_ℤ (pos 320000000000000) ≤ℤ z) × (z ≤ℤ pos 320000000000000)

summed_small : (s : Standing) (b : ℤ) (ps : List Point) (t : ℕ) → IsTied s b ps → InBounds (total (summed t) s.effects)
summed_small s b ps t tied =
    let h = total_bounds (summed t) s.effects (each-all IsEffect (λ u. IsAmount (summed t u)) s.effects (amount_summed t) tied.bounded) in
    (omega (arith, ints, tied.few, h.0), omega (arith, ints, tied.few, h.1))

pub value_small : (v : ℤ) → IsValue v → IsSmall v
value_small v is = (omega (arith, ints, is.0), omega (arith, ints, is.1))

pub before_small : (s : Standing) (b : ℤ) (ps : List Point) → IsTied s b ps → IsSmall b
before_small s b ps tied = let h = summed_small s b ps s.base tied in (omega (arith, ints, h.0, tied.before), omega (arith, ints, h.1, tied.before))

pub sum_small : (s : Standing) (b : ℤ) (ps : List Point) (t : ℕ) → IsTied s b ps → IsSmall (sum_to ps t)
sum_small s b ps t tied = let h = summed_small s b ps t tied in (omega (arith, ints, h.0, tied.tied t), omega (arith, ints, h.1, tied.tied t))

pub amount_small : (d : ℤ) → IsAmount d → IsSmall d
amount_small d am = (omega (arith, ints, am.0), omega (arith, ints, am.1))

pub small_add : (s : Standing) (b : ℤ) (ps : List Point) (at : ℕ) (d : ℤ) → IsTied s b ps → IsAmount d → AreSmall (merged at d ps)
small_add s b ps at d tied am t = cases (leb at t) (sum_to-merged at d ps t) (summed_small s b ps t tied) (tied.tied t)
  where
    cases : (v : Bool) → sum_to (merged at d ps) t ≡ sum_to ps t +ℤ cond v d (pos 0) → InBounds (total (summed t) s.effects) → sum_to ps t ≡ total (summed t) s.effects → IsSmall (sum_to (merged at d ps) t)
    cases true m u e = (omega (arith, ints, m, u.0, e, am.0), omega (arith, ints, m, u.1, e, am.1))
    cases false m u e = (omega (arith, ints, m, u.0, e), omega (arith, ints, m, u.1, e))

pub before_after : (s : Standing) (b : ℤ) (ps : List Point) (at : ℕ) (d : ℤ) → IsTied s b ps → IsAmount d → IsSmall (b +ℤ cond (leb at s.base) d (pos 0))
before_after s b ps at d tied am = cases (leb at s.base) (summed_small s b ps s.base tied)
  where
    cases : (v : Bool) → InBounds (total (summed s.base) s.effects) → IsSmall (b +ℤ cond v d (pos 0))
    cases true u = (omega (arith, ints, u.0, tied.before, am.0), omega (arith, ints, u.1, tied.before, am.1))
    cases false u = (omega (arith, ints, u.0, tied.before), omega (arith, ints, u.1, tied.before))

-- what counts after the base, and what counts up to it, is what counts
counted_summed : (b t : ℕ) (xs : List Effect) → b ≤ t → total (counted b t) xs +ℤ total (summed b) xs ≡ total (summed t) xs
counted_summed b t [] le = omega (arith, ints)
counted_summed b t (u ∷ xs) le = one (leb u.at b) refl (counted_summed b t xs le)
  where
    one : (v : Bool) → leb u.at b ≡ v → total (counted b t) xs +ℤ total (summed b) xs ≡ total (summed t) xs → (counted b t u +ℤ total (counted b t) xs) +ℤ (cond v u.delta (pos 0) +ℤ total (summed b) xs) ≡ summed t u +ℤ total (summed t) xs
    one true e more =
        let f : ltb b u.at ≡ false = le-ltb b u.at (leb-true u.at b e) in
        let g : leb u.at t ≡ true = le-leb u.at t (omega (arith, leb-true u.at b e, le)) in
        rw f (rw g (omega (arith, ints, more)))
    one false e more =
        let f : ltb b u.at ≡ true = lt-ltb b u.at (leb-false u.at b e) in
        rw f (omega (arith, ints, more))

-- the level by the sums of the points
pub level_is : (s : Standing) (b : ℤ) (ps : List Point) (t : ℕ) → IsTied s b ps → s.base ≤ t → level s t ≡ s.value +ℤ (sum_to ps t -ℤ b)
level_is s b ps t tied le = omega (arith, ints, counted_summed s.base t s.effects le, tied.tied t, tied.before)

low_test : (x v l b : ℤ) → int_lt x ((l -ℤ v) +ℤ b) ≡ int_lt (v +ℤ (x -ℤ b)) l
low_test x v l b = grind (arith, ints)

high_test : (x v l b : ℤ) → int_lt ((l -ℤ v) +ℤ b) x ≡ int_lt l (v +ℤ (x -ℤ b))
high_test x v l b = grind (arith, ints)

-- the level is out of two bounds where the sum of the points is out of the sums for them
pub out_is : (s : Standing) (b : ℤ) (ps : List Point) (least most l m : ℤ) (t : ℕ) → IsTied s b ps → s.base ≤ t → l ≡ (least -ℤ s.value) +ℤ b → m ≡ (most -ℤ s.value) +ℤ b → is_out l m (sum_to ps t) ≡ is_out least most (level s t)
out_is s b ps least most l m t tied le is_l is_m =
    let sum = sum_to ps t in
    let at : s.value +ℤ (sum -ℤ b) ≡ level s t = sym (level_is s b ps t tied le) in
    let low : int_lt sum l ≡ int_lt (level s t) least = ap (int_lt sum) is_l ∙ low_test sum s.value least b ∙ ap (λ z. int_lt z least) at in
    let high : int_lt m sum ≡ int_lt most (level s t) = ap (λ z. int_lt z sum) is_m ∙ high_test sum s.value most b ∙ ap (int_lt most) at in
    ap (λ v. v || int_lt m sum) low ∙ ap (λ v. int_lt (level s t) least || v) high

-- both lists after a mend from a moment on
pub remend_low : (s s' : Standing) (b : ℤ) (ps : List Point) (low low' : List Span) (from : ℕ) → IsTied s' b ps → AreMaximal (is_low s) s'.moment s'.horizon low → AreSpans low'
    → ((t : ℕ) → covers low' t ≡ mended from s'.horizon (λ x. is_outside (Below ((s'.least -ℤ s'.value) +ℤ b)) (sum_to ps x)) low t) → s'.moment ≤ from
    → ((t : ℕ) → within from s'.horizon t ≡ false → within s'.moment s'.horizon t ≡ true → level s t ≡ level s' t) → s.least ≡ s'.least → AreMaximal (is_low s') s'.moment s'.horizon low'
remend_low s s' b ps low low' from tied maximal apart says le same least =
    remaximal (is_low s) (is_low s') (λ x. is_outside (Below ((s'.least -ℤ s'.value) +ℤ b)) (sum_to ps x)) s'.moment s'.horizon from s'.horizon low low' maximal apart says
    (λ t e. let h = within_true from s'.horizon t e in (
      within_yes s'.moment s'.horizon t (omega (arith, h.0, le)) h.1,
      low_test (sum_to ps t) s'.value s'.least b ∙ ap (λ z. int_lt z s'.least) (sym (level_is s' b ps t tied (omega (arith, h.0, le, tied.based)))),
    ))
    (λ t e f. ap (λ z. int_lt z s.least) (same t e f) ∙ ap (int_lt (level s' t)) least)

pub remend_high : (s s' : Standing) (b : ℤ) (ps : List Point) (high high' : List Span) (from : ℕ) → IsTied s' b ps → AreMaximal (is_high s) s'.moment s'.horizon high → AreSpans high'
    → ((t : ℕ) → covers high' t ≡ mended from s'.horizon (λ x. is_outside (Above ((s'.most -ℤ s'.value) +ℤ b)) (sum_to ps x)) high t) → s'.moment ≤ from
    → ((t : ℕ) → within from s'.horizon t ≡ false → within s'.moment s'.horizon t ≡ true → level s t ≡ level s' t) → s.most ≡ s'.most → AreMaximal (is_high s') s'.moment s'.horizon high'
remend_high s s' b ps high high' from tied maximal apart says le same most =
    remaximal (is_high s) (is_high s') (λ x. is_outside (Above ((s'.most -ℤ s'.value) +ℤ b)) (sum_to ps x)) s'.moment s'.horizon from s'.horizon high high' maximal apart says
    (λ t e. let h = within_true from s'.horizon t e in (
      within_yes s'.moment s'.horizon t (omega (arith, h.0, le)) h.1,
      high_test (sum_to ps t) s'.value s'.most b ∙ ap (int_lt s'.most) (sym (level_is s' b ps t tied (omega (arith, h.0, le, tied.based)))),
    ))
    (λ t e f. ap (int_lt s.most) (same t e f) ∙ ap (λ m. int_lt m (level s' t)) most)

abbrev pub make : Bool → ℕ → ℤ → ℤ → ℕ → ℕ → ℤ → List Effect → Standing
make spoiled h least most moment base value effects = record { spoiled = spoiled; horizon = h; least = least; most = most; moment = moment; base = base; value = value; effects = effects }

-- amounts as a program holds them
pub raw : (a : ℤ) → IsSmall a → to_z w64 (of_z w64 a) ≡ a
raw a am = let fits : SFits w64 a = omega (arith, ints, am.0, am.1) in to_z-of_z w64 a fits

pub raw_back : (a : ℤ) → IsAmount a → to_z w64 (of_z w64 (pos 0 -ℤ to_z w64 (of_z w64 a))) ≡ neg_ℤ a
raw_back a am =
    let fits : SFits w64 (pos 0 -ℤ a) = omega (arith, ints, am.0, am.1) in
    let e : pos 0 -ℤ a ≡ neg_ℤ a = omega (arith, ints) in
    rw (raw a (amount_small a am)) (to_z-of_z w64 (pos 0 -ℤ a) fits ∙ e)

pub neg_fits : (a : ℤ) → IsAmount a → SFits w64 (pos 0 -ℤ to_z w64 (of_z w64 a))
neg_fits a am = rw (raw a (amount_small a am)) (omega (arith, ints, am.0, am.1))

pub neg_amount : (a : ℤ) → IsAmount a → IsAmount (neg_ℤ a)
neg_amount a am = (omega (arith, ints, am.1), omega (arith, ints, am.0))

-- other effects, which add a delta from a moment on
abbrev Adds : ℕ → ℤ → List Effect → List Effect → Type 0
Adds at d xs ys = (v : ℕ → Bool) → total (λ (e : Effect). cond (v e.at) e.delta (pos 0)) ys ≡ total (λ (e : Effect). cond (v e.at) e.delta (pos 0)) xs +ℤ cond (v at) d (pos 0)

adds_more : (xs : List Effect) (u : Effect) → Adds u.at u.delta xs (xs ++ u ∷ [])
adds_more xs u v = total-push (λ (e : Effect). cond (v e.at) e.delta (pos 0)) xs u

pub same_exact : (u v : Effect) → same_effect u v ≡ true → u ≡ v
same_exact u v e =
    let h = and_parts (eqb u.at v.at) (int_eq u.delta v.delta) e in
    let at : u.at ≡ v.at = eqb-true u.at v.at h.0 in
    let delta : u.delta ≡ v.delta = (Decides-int_eq u.delta v.delta).0 h.1 in
    ap (λ n. effect_of n u.delta) at ∙ ap (effect_of v.at) delta

adds_less : (xs : List Effect) (u : Effect) → stands same_effect u xs ≡ true → Adds u.at (neg_ℤ u.delta) xs (without same_effect u xs)
adds_less xs u has v = cases (v u.at) refl (total-without same_effect same_exact (λ (e : Effect). cond (v e.at) e.delta (pos 0)) xs u has)
  where
    cases : (w : Bool) → v u.at ≡ w → total (λ (e : Effect). cond (v e.at) e.delta (pos 0)) (without same_effect u xs) +ℤ cond (v u.at) u.delta (pos 0) ≡ total (λ (e : Effect). cond (v e.at) e.delta (pos 0)) xs
        → total (λ (e : Effect). cond (v e.at) e.delta (pos 0)) (without same_effect u xs) ≡ total (λ (e : Effect). cond (v e.at) e.delta (pos 0)) xs +ℤ cond w (neg_ℤ u.delta) (pos 0)
    cases true e m = let f : cond (v u.at) u.delta (pos 0) ≡ u.delta = rw e refl in omega (arith, ints, m, f)
    cases false e m = let f : cond (v u.at) u.delta (pos 0) ≡ pos 0 = rw e refl in omega (arith, ints, m, f)

-- an effect more
pub shift_more : (xs : List Effect) (u : Effect) → IsEffect u → length xs ≤ 319999 → Each IsEffect xs → IsShift u.at u.delta xs (xs ++ u ∷ [])
shift_more xs u is few bounded = record {
  low = is.1;
  high = is.2;
  few = omega (arith, few, length-append xs (u ∷ []));
  bounded = each-push IsEffect xs u bounded is;
  adds = adds_more xs u;
}

-- an effect less
pub shift_less : (xs : List Effect) (u : Effect) → stands same_effect u xs ≡ true → length xs ≤ 320000 → Each IsEffect xs → IsShift u.at (neg_ℤ u.delta) xs (without same_effect u xs)
shift_less xs u has few bounded =
    let am = neg_amount u.delta (amount_of u (each-stands IsEffect same_effect same_exact xs u bounded has)) in
    record {
      low = am.0;
      high = am.1;
      few = omega (arith, few, length-without same_effect xs u);
      bounded = each-without IsEffect same_effect xs u bounded;
      adds = adds_less xs u has;
    }

-- where a mend begins
abbrev pub begin : ℕ → ℕ → ℕ → ℕ → ℕ
begin h moment base at = cond (leb at base) h (min (max at moment) h)

pub begin_late : (h moment base at : ℕ) → moment ≤ h → moment ≤ begin h moment base at
begin_late h moment base at le = cond_both (leb at base) h (min (max at moment) h) (λ n. moment ≤ n) (λ e. le) (λ e. omega (arith, le))

pub begin_bound : (h moment base at : ℕ) → begin h moment base at ≤ h
begin_bound h moment base at = cond_both (leb at base) h (min (max at moment) h) (λ n. n ≤ h) (λ e. omega arith) (λ e. omega arith)

rising_points : (xs : List Effect) → RiseFrom 0 (points_of xs)
rising_points [] = tt
rising_points (u ∷ us) = rising-merged 0 u.at u.delta (points_of us) (omega arith) (rising_points us)

sum_points : (xs : List Effect) (t : ℕ) → sum_to (points_of xs) t ≡ total (summed t) xs
sum_points [] t = refl
sum_points (u ∷ us) t = omega (arith, ints, sum_to-merged u.at u.delta (points_of us) t, sum_points us t)

-- the points of a sound level are those of its effects
pub points_are : (s : Standing) (b : ℤ) (ps : List Point) → IsTied s b ps → ps ≡ points_of s.effects
points_are s b ps tied = same_points 0 0 ps (points_of s.effects) tied.rising (rising_points s.effects) (λ t. tied.tied t ∙ sym (sum_points s.effects t))

-- what a change takes that ends early
pub change_cost : (parts : ℕ → ℕ) (change look search before after : ℕ) (s : Standing) (ys : List Effect) (b : ℤ) (ps : List Point) (at : ℕ) (d : ℤ) → IsTied s b ps → after ≤ before + parts (length ps) + change → after ≤ before + effect_steps parts change look search s ys at d
change_cost parts change look search before after s ys b ps at d tied cost =
    let e : parts (length ps) ≡ parts (length (points_of s.effects)) = ap (λ (l : List Point). parts (length l)) (points_are s b ps tied) in
    omega (arith, cost, e)

module _ (spoiled : Bool) (h : ℕ) (least most : ℤ) (moment base : ℕ) (value : ℤ) (xs ys : List Effect) (b : ℤ) (ps : List Point) (at : ℕ) (d : ℤ) where
  pub tied_shifted : IsTied (make spoiled h least most moment base value xs) b ps → IsShift at d xs ys → IsTied (make false h least most moment base value ys) (b +ℤ cond (leb at base) d (pos 0)) (merged at d ps)
  tied_shifted tied shift = record {
    in_time = tied.in_time;
    fits = tied.fits;
    based = tied.based;
    least = tied.least;
    most = tied.most;
    value = tied.value;
    few = shift.few;
    bounded = shift.bounded;
    rising = rising-merged 0 at d ps (omega arith) tied.rising;
    tied = λ t. sum_to-merged at d ps t ∙ (ap (λ z. z +ℤ cond (leb at t) d (pos 0)) (tied.tied t) ∙ sym (shift.adds (λ n. leb n t)));
    before = ap (λ z. z +ℤ cond (leb at base) d (pos 0)) tied.before ∙ sym (shift.adds (λ n. leb n base));
  }

  pub level_stays : Adds at d xs ys → (t : ℕ) → within (begin h moment base at) h t ≡ false → within moment h t ≡ true → level (make spoiled h least most moment base value xs) t ≡ level (make false h least most moment base value ys) t
  level_stays adds t apart in_time =
      let none : (ltb base at && leb at t) ≡ false = cases (leb at base) (leb at t) refl refl apart in
      omega (arith, ints, adds (λ n. ltb base n && leb n t), ap (λ v. cond v d (pos 0)) none)
    where
      cases : (v w : Bool) → leb at base ≡ v → leb at t ≡ w → within (cond v h (min (max at moment) h)) h t ≡ false → (ltb base at && w) ≡ false
      cases v false e f no_window = and-false (ltb base at)
      cases true true e f no_window = let g : ltb base at ≡ false = le-ltb base at (leb-true at base e) in rw g refl
      cases false true e f no_window =
          let k = within_true moment h t in_time in
          absurd (true≢false (sym (within_yes (min (max at moment) h) h t (omega (arith, k.0, leb-true at t f)) k.1) ∙ no_window))

  pub sound_shifted : (low low' high high' : List Span) (ps' : List Point) (b' l m : ℤ) → IsSound (make spoiled h least most moment base value xs) b ps low high → IsShift at d xs ys
      → ps' ≡ merged at d ps → b' ≡ b +ℤ cond (leb at base) d (pos 0) → l ≡ (least -ℤ value) +ℤ b' → m ≡ (most -ℤ value) +ℤ b' → AreSpans low' → AreSpans high'
      → ((t : ℕ) → covers low' t ≡ mended (begin h moment base at) h (λ x. is_outside (Below l) (sum_to ps' x)) low t)
      → ((t : ℕ) → covers high' t ≡ mended (begin h moment base at) h (λ x. is_outside (Above m) (sum_to ps' x)) high t)
      → IsSound (make false h least most moment base value ys) b' ps' low' high'
  sound_shifted low low' high high' ps' b' l m sound shift points before is_l is_m apart_low apart_high says_low says_high =
      let s' = make false h least most moment base value ys in
      let tied : IsTied s' b' ps' = subst (λ q. IsTied s' b' q) (sym points) (subst (λ z. IsTied s' z (merged at d ps)) (sym before) (tied_shifted sound.tied shift)) in
      record {
        tied = tied;
        low = remend_low (make spoiled h least most moment base value xs) s' b' ps' low low' (begin h moment base at) tied sound.low apart_low
            (λ t. subst (λ z. covers low' t ≡ mended (begin h moment base at) h (λ x. is_outside (Below z) (sum_to ps' x)) low t) is_l (says_low t)) (begin_late h moment base at sound.tied.in_time) (level_stays shift.adds) refl;
        high = remend_high (make spoiled h least most moment base value xs) s' b' ps' high high' (begin h moment base at) tied sound.high apart_high
            (λ t. subst (λ z. covers high' t ≡ mended (begin h moment base at) h (λ x. is_outside (Above z) (sum_to ps' x)) high t) is_m (says_high t)) (begin_late h moment base at sound.tied.in_time) (level_stays shift.adds) refl;
      }

  -- what a change takes, in terms of the effects
  pub level_cost : (parts : ℕ → ℕ) (change look search before mid after from : ℕ) (ps' : List Point) (b' l m : ℤ) → IsTied (make spoiled h least most moment base value xs) b ps → IsShift at d xs ys
      → ps' ≡ merged at d ps → b' ≡ b +ℤ cond (leb at base) d (pos 0) → l ≡ (least -ℤ value) +ℤ b' → m ≡ (most -ℤ value) +ℤ b' → base ≤ from → mid ≤ before + parts (length ps) + change
      → after ≤ mid + (walk_steps parts look search (length ps') (points_after (goes_outside (Below l) ps') from ps') + walk_steps parts look search (length ps') (points_after (goes_outside (Above m) ps') from ps'))
      → after ≤ before + effect_steps parts change look search (make spoiled h least most moment base value xs) ys at d
  level_cost parts change look search before mid after from ps' b' l m tied shift points is_b is_l is_m le cost walks =
      let s' = make false h least most moment base value ys in
      let tied' : IsTied s' b' ps' = subst (λ q. IsTied s' b' q) (sym points) (subst (λ z. IsTied s' z (merged at d ps)) (sym is_b) (tied_shifted tied shift)) in
      let low : points_after (goes_outside (Below l) ps') from ps' ≡ points_after (is_low s') from ps' = after_same (goes_outside (Below l) ps') (is_low s') from ps' (λ t lt.
      ap (int_lt (sum_to ps' t)) is_l ∙ low_test (sum_to ps' t) value least b' ∙ ap (λ z. int_lt z least) (sym (level_is s' b' ps' t tied' (omega (arith, le, lt))))) in
      let high : points_after (goes_outside (Above m) ps') from ps' ≡ points_after (is_high s') from ps' = after_same (goes_outside (Above m) ps') (is_high s') from ps' (λ t lt.
      ap (λ z. int_lt z (sum_to ps' t)) is_m ∙ high_test (sum_to ps' t) value most b' ∙ ap (int_lt most) (sym (level_is s' b' ps' t tied' (omega (arith, le, lt))))) in
      let low_less = walk_less parts look search (length ps') (points_after (goes_outside (Below l) ps') from ps') (points_with (is_low s') ps') (omega (arith, low, after_all (is_low s') from ps')) in
      let high_less = walk_less parts look search (length ps') (points_after (goes_outside (Above m) ps') from ps') (points_with (is_high s') ps') (omega (arith, high, after_all (is_high s') from ps')) in
      let both : after ≤ before + ((parts (length ps) + change) + (walk_steps parts look search (length ps') (points_with (is_low s') ps') + walk_steps parts look search (length ps') (points_with (is_high s') ps'))) = omega (arith, cost, walks, low_less, high_less) in
      let merged_is = subst (λ (q : List Point). after ≤ before + ((parts (length ps) + change) + (walk_steps parts look search (length q) (points_with (is_low s') q) + walk_steps parts look search (length q) (points_with (is_high s') q)))) points both in
      subst (λ (q : List Point). after ≤ before + ((parts (length q) + change) + (walk_steps parts look search (length (merged at d q)) (points_with (is_low s') (merged at d q)) + walk_steps parts look search (length (merged at d q)) (points_with (is_high s') (merged at d q)))))
      (points_are (make spoiled h least most moment base value xs) b ps tied) merged_is

module _ (spoiled : Bool) (h : ℕ) (least most : ℤ) (moment base : ℕ) (value : ℤ) (xs : List Effect) (b : ℤ) (ps : List Point) where
  pub tied_rebased : (v b' : ℤ) → IsTied (make spoiled h least most moment base value xs) b ps → IsValue v → b' ≡ sum_to ps moment → IsTied (make false h least most moment moment v xs) b' ps
  tied_rebased v b' tied is before = record {
    in_time = tied.in_time;
    fits = tied.fits;
    based = omega arith;
    least = tied.least;
    most = tied.most;
    value = is;
    few = tied.few;
    bounded = tied.bounded;
    rising = tied.rising;
    tied = tied.tied;
    before = before ∙ tied.tied moment;
  }

  pub sound_rebased : (v b' l m : ℤ) (low low' high high' : List Span) → IsSound (make spoiled h least most moment base value xs) b ps low high → IsValue v → b' ≡ sum_to ps moment → l ≡ (least -ℤ v) +ℤ b' → m ≡ (most -ℤ v) +ℤ b' → AreSpans low' → AreSpans high'
      → ((t : ℕ) → covers low' t ≡ mended moment h (λ x. is_outside (Below l) (sum_to ps x)) low t)
      → ((t : ℕ) → covers high' t ≡ mended moment h (λ x. is_outside (Above m) (sum_to ps x)) high t)
      → IsSound (make false h least most moment moment v xs) b' ps low' high'
  sound_rebased v b' l m low low' high high' sound is before is_l is_m apart_low apart_high says_low says_high =
      let s' = make false h least most moment moment v xs in
      let tied : IsTied s' b' ps = tied_rebased v b' sound.tied is before in
      record {
        tied = tied;
        low = remend_low (make spoiled h least most moment base value xs) s' b' ps low low' moment tied sound.low apart_low
            (λ t. subst (λ z. covers low' t ≡ mended moment h (λ x. is_outside (Below z) (sum_to ps x)) low t) is_l (says_low t)) (omega arith) (λ t e f. absurd (true≢false (sym f ∙ e))) refl;
        high = remend_high (make spoiled h least most moment base value xs) s' b' ps high high' moment tied sound.high apart_high
            (λ t. subst (λ z. covers high' t ≡ mended moment h (λ x. is_outside (Above z) (sum_to ps x)) high t) is_m (says_high t)) (omega arith) (λ t e f. absurd (true≢false (sym f ∙ e))) refl;
      }

  pub sound_later : (now : ℕ) (low low' high high' : List Span) → IsSound (make spoiled h least most moment base value xs) b ps low high → moment ≤ now → now ≤ h → AreSpans low' → AreSpans high'
      → ((t : ℕ) → covers low' t ≡ mended 0 now (λ _. false) low t) → ((t : ℕ) → covers high' t ≡ mended 0 now (λ _. false) high t)
      → IsSound (make false h least most now base value xs) b ps low' high'
  sound_later now low low' high high' sound later bound apart_low apart_high says_low says_high = record {
    tied = record {
      in_time = bound;
      fits = sound.tied.fits;
      based = omega (arith, sound.tied.based, later);
      least = sound.tied.least;
      most = sound.tied.most;
      value = sound.tied.value;
      few = sound.tied.few;
      bounded = sound.tied.bounded;
      rising = sound.tied.rising;
      tied = sound.tied.tied;
      before = sound.tied.before;
    };
    low = later_maximal (is_low (make spoiled h least most moment base value xs)) moment h now low low' later sound.low apart_low says_low;
    high = later_maximal (is_high (make spoiled h least most moment base value xs)) moment h now high high' later sound.high apart_high says_high;
  }

pub apart_low : (s : Standing) (b : ℤ) (ps : List Point) (low high : List Span) → IsSound s b ps low high → AreSpans low
apart_low s b ps low high sound = maximal_apart (is_low s) s.moment s.horizon low (omega (arith, sound.tied.fits)) sound.low

pub apart_high : (s : Standing) (b : ℤ) (ps : List Point) (low high : List Span) → IsSound s b ps low high → AreSpans high
apart_high s b ps low high sound = maximal_apart (is_high s) s.moment s.horizon high (omega (arith, sound.tied.fits)) sound.high

pub sound_low : (s : Standing) (b : ℤ) (ps : List Point) (low high : List Span) → IsSound s b ps low high → low ≡ low_now s
sound_low s b ps low high sound = is_spans_of (is_low s) s.moment s.horizon low sound.tied.in_time sound.low

pub sound_high : (s : Standing) (b : ℤ) (ps : List Point) (low high : List Span) → IsSound s b ps low high → high ≡ high_now s
sound_high s b ps low high sound = is_spans_of (is_high s) s.moment s.horizon high sound.tied.in_time sound.high

pub sound_changes : (s s' : Standing) (b b' : ℤ) (ps ps' : List Point) (low low' high high' : List Span) (change : LevelChange) → IsSound s b ps low high → IsSound s' b' ps' low' high' → AreChanges low low' high high' change
    → AreChanges (low_now s) (low_now s') (high_now s) (high_now s') change
sound_changes s s' b b' ps ps' low low' high high' change one other is = record {
  low = subst (λ l. IsChange (low_now s) l change.low) (sound_low s' b' ps' low' high' other) (subst (λ l. IsChange l low' change.low) (sound_low s b ps low high one) is.low);
  high = subst (λ l. IsChange (high_now s) l change.high) (sound_high s' b' ps' low' high' other) (subst (λ l. IsChange l high' change.high) (sound_high s b ps low high one) is.high);
}

pub same_state : (v : Bool) (h : ℕ) (least most : ℤ) (moment base : ℕ) (value : ℤ) (l k : List Effect) → v ≡ false → l ≡ k → make false h least most moment base value l ≡ make v h least most moment base value k
same_state v h least most moment base value l k e f = ap (make false h least most moment base value) f ∙ ap (λ w. make w h least most moment base value k) (sym e)

-- a property that holds at all moments or at none
steady : (v : Bool) (h : ℕ) → 0 < h → AreMaximal (λ t. v) 0 h (cond v (span 0 h ∷ []) [])
steady true h lt = record { apart = (omega arith, lt, omega arith, tt); exact = λ t. or-false (within 0 h t) ∙ sym (and-true (within 0 h t)) }
steady false h lt = record { apart = tt; exact = λ t. sym (and-false (within 0 h t)) }

steadily : (P : ℕ → Bool) (v : Bool) (h : ℕ) (s : List Span) → 0 < h → ((t : ℕ) → P t ≡ v) → s ≡ cond v (span 0 h ∷ []) [] → AreMaximal P 0 h s
steadily P v h s lt same is =
    let m = steady v h lt in
    subst (λ l. AreMaximal P 0 h l) (sym is) (record { apart = m.apart; exact = λ t. m.exact t ∙ ap (λ b. within 0 h t && b) (sym (same t)) })

pub sound_new : (h : ℕ) (least most value : ℤ) (xs : List Effect) (ps : List Point) (low high : List Span) → 0 < h → h < 2 ^ 32 → IsValue least → IsValue most → IsValue value → xs ≡ [] → ps ≡ []
    → low ≡ cond (int_lt value least) (span 0 h ∷ []) [] → high ≡ cond (int_lt most value) (span 0 h ∷ []) [] → IsSound (make false h least most 0 0 value xs) (pos 0) ps low high
sound_new h least most value xs ps low high lt fits is_least is_most is_value none points is_low_list is_high_list =
    subst (λ l. IsSound (make false h least most 0 0 value l) (pos 0) ps low high) (sym none) (record {
      tied = record {
        in_time = omega arith;
        fits = fits;
        based = omega arith;
        least = is_least;
        most = is_most;
        value = is_value;
        few = omega arith;
        bounded = tt;
        rising = subst (λ l. RiseFrom 0 l) (sym points) tt;
        tied = λ t. ap (λ l. sum_to l t) points;
        before = refl;
      };
      low = steadily (is_low (make false h least most 0 0 value [])) (int_lt value least) h low lt (λ t. ap (λ z. int_lt z least) (add_nothing value)) is_low_list;
      high = steadily (is_high (make false h least most 0 0 value [])) (int_lt most value) h high lt (λ t. ap (int_lt most) (add_nothing value)) is_high_list;
    })
