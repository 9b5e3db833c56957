-- What a walk for two limits finds before the first moment outside either, and what it takes.
use Rattle.std.proofs.Common.{◌≡◌, ℕ, ◌+◌, ◌*◌, ◌<◌, ◌≤◌, Bool, true, false, ◌&&◌, ◌||◌, List, refl, ap, sym, ◌∙◌, subst, arith, cond, ltb, leb, ℤ, Option}
use Rattle.std.specs.Prelude.{int_lt}
use Rattle.std.proofs.lemmas.Bool.{cond_both, lt-ltb, ltb-true, leb-true, leb-false}
use Rattle.std.proofs.Math.Nat.{mul-le-mul_left}
use Rattle.std.proofs.Math.Bool.{and-false}
use mir.Val.{to_z, of_z, SFits}
use mir.Syntax.{w64}
use Rattle.std.proofs.lemmas.Int.{to_z-of_z}
use Rattle.pl_lists.proofs.Tests.{or_first_false, or_second_false}
use Rattle.pl_points.specs.Points.{Point, sum_to, is_out, first_outside, RiseFrom}
use Rattle.pl_points.specs.Counting.{points_after, walk_left, walk_steps, walk_until}
use Rattle.pl_points.specs.Spans.{within}
use Rattle.pl_points.proofs.Strolls.{StaysInside, stays_inside, left_first}

pub is_below : (least most z : ℤ) → is_out least most z ≡ false → int_lt z least ≡ false
is_below least most z e = or_first_false (int_lt z least) (int_lt most z) e

pub is_above : (least most z : ℤ) → is_out least most z ≡ false → int_lt most z ≡ false
is_above least most z e = or_second_false (int_lt z least) (int_lt most z) e

-- the same of bounds that are equal to others
pub stays_calm : (L M l m s : ℤ) (at : ℕ) (ps : List Point) (r : Option Point) → L ≡ l → M ≡ m → RiseFrom 0 ps → s ≡ sum_to ps at → is_out l m s ≡ false → r ≡ first_outside ps (at + 1) L M → StaysInside l m at ps r
stays_calm L M l m s at ps r low high rising is inside e =
    let same : r ≡ first_outside ps (at + 1) l m = e ∙ (ap (λ x. first_outside ps (at + 1) x M) low ∙ ap (λ x. first_outside ps (at + 1) l x) high) in
    subst (λ q. StaysInside l m at ps q) (sym same) (stays_inside l m s at ps rising is inside)

-- the same, with bounds as the program holds them
pub crossing : (l m s : ℤ) (at : ℕ) (ps : List Point) (r : Option Point) → SFits w64 l → SFits w64 m → RiseFrom 0 ps → s ≡ sum_to ps at → is_out l m s ≡ false → r ≡ first_outside ps (at + 1) (to_z w64 (of_z w64 l)) (to_z w64 (of_z w64 m)) → StaysInside l m at ps r
crossing l m s at ps r low high = stays_calm (to_z w64 (of_z w64 l)) (to_z w64 (of_z w64 m)) l m s at ps r (to_z-of_z w64 l low) (to_z-of_z w64 m high)

-- where the property holds nowhere before m, the moments from there on are all that have it
pub calm_before : (a m b t : ℕ) (q : ℕ → Bool) → a ≤ m → ((x : ℕ) → a ≤ x → x < m → q x ≡ false) → (within m b t && q t) ≡ (within a b t && q t)
calm_before a m b t q le calm = cases (leb m t) refl (leb a t) refl
  where
    cases : (v : Bool) → leb m t ≡ v → (w : Bool) → leb a t ≡ w → ((v && ltb t b) && q t) ≡ ((w && ltb t b) && q t)
    cases true e true f = refl
    cases true e false f = absurd (omega (arith, leb-true m t e, leb-false a t f, le))
    cases false e true f = let none : q t ≡ false = calm t (leb-true a t f) (leb-false m t e) in rw none (sym (and-false (ltb t b)))
    cases false e false f = refl

pub until_is : (ahead : ℕ → ℕ) (look search : ℕ) (out : ℕ → Bool) (ps : List Point) (at to : ℕ) → at < to → walk_until ahead look search out ps at to ≡ walk_left ahead look search out ps at
until_is ahead look search out ps at to lt = let e : ltb at to ≡ true = lt-ltb at to lt in rw e refl

-- a walk begins with all of it left
pub until_first : (ahead parts : ℕ → ℕ) (look search s t at to count : ℕ) (out : ℕ → Bool) (ps : List Point) → t + ahead at ≤ s + parts count + search → t + walk_until ahead look search out ps at to ≤ s + walk_steps parts look search count (points_after out at ps)
until_first ahead parts look search s t at to count out ps cost =
    let first = left_first ahead parts look search s t at count out ps cost in
    cond_both (ltb at to) (walk_left ahead look search out ps at) 0 (λ n. t + n ≤ s + walk_steps parts look search count (points_after out at ps)) (λ _. first) (λ _. omega (arith, first))

-- so do two that begin together
pub two_first : (ahead parts : ℕ → ℕ) (look search s t at to count : ℕ) (out other : ℕ → Bool) (ps : List Point) → s < t → t + ahead at ≤ s + parts count + search
    → t + (walk_until ahead look search out ps at to + walk_until ahead look search other ps at to) ≤ s + (walk_steps parts look search count (points_after out at ps) + walk_steps parts look search count (points_after other at ps))
two_first ahead parts look search s t at to count out other ps lt cost =
    omega (arith, lt, until_first ahead parts look search s t at to count out ps cost, until_first ahead parts look search s t at to count other ps cost)

two_left : (s t am parts look search al ah bl bh : ℕ) (x y : Bool) → t + am ≤ s + parts + search + search → am ≤ parts + search → cond x 1 0 + bl ≤ al → cond y 1 0 + bh ≤ ah → (x || y) ≡ true
    → t + ((am + cond x look 0 + search + (look + search) * bl) + (am + cond y look 0 + search + (look + search) * bh)) ≤ s + ((parts + search + (look + search) * (1 + al)) + (parts + search + (look + search) * (1 + ah)))
two_left s t am parts look search al ah bl bh true true cost few l h e = omega (arith, cost, few, mul-le-mul_left (look + search) l, mul-le-mul_left (look + search) h)
two_left s t am parts look search al ah bl bh true false cost few l h e = omega (arith, cost, few, mul-le-mul_left (look + search) l, mul-le-mul_left (look + search) h)
two_left s t am parts look search al ah bl bh false true cost few l h e = omega (arith, cost, few, mul-le-mul_left (look + search) l, mul-le-mul_left (look + search) h)
two_left s t am parts look search al ah bl bh false false cost few l h e = absurd (cc)

-- and two that part where one of them goes outside
pub two_after : (ahead parts : ℕ → ℕ) (look search s u t from m to count : ℕ) (out other : ℕ → Bool) (ps : List Point) → s < u → u + ahead from ≤ s + parts count + search → ahead (from + 1) ≤ ahead from → ahead m ≤ ahead from
    → t ≤ u + ahead (from + 1) + search → (m < to → t + ahead m ≤ u + ahead (from + 1) + search) → ((out' : ℕ → Bool) → m < to → cond (out' m) 1 0 + points_after out' m ps ≤ points_after out' from ps) → (m < to → (out m || other m) ≡ true)
    → t + (walk_until ahead look search out ps m to + walk_until ahead look search other ps m to) ≤ s + (walk_steps parts look search count (points_after out from ps) + walk_steps parts look search count (points_after other from ps))
two_after ahead parts look search s u t from m to count out other ps ticks start step falls spent left fewer leaves = cases (ltb m to) refl
  where
    cases : (v : Bool) → ltb m to ≡ v → t + (cond v (walk_left ahead look search out ps m) 0 + cond v (walk_left ahead look search other ps m) 0) ≤ s + (walk_steps parts look search count (points_after out from ps) + walk_steps parts look search count (points_after other from ps))
    cases true e =
        let lt : m < to = ltb-true m to e in
        two_left s t (ahead m) (parts count) look search (points_after out from ps) (points_after other from ps) (points_after out m ps) (points_after other m ps) (out m) (other m)
        (omega (arith, left lt, start, step)) (omega (arith, ticks, start, falls)) (fewer out lt) (fewer other lt) (leaves lt)
    cases false e = omega (arith, spent, start, step)
