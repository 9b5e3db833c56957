-- Hinges by level and moment: what sorting gives, and those of one level.
use Rattle.std.proofs.Common.{◌≡◌, ℕ, suc, ◌+◌, ◌≤◌, ◌<◌, Bool, true, false, List, [], ◌∷◌, length, get_or, pos, ◌+ℤ◌, refl, sym, ◌∙◌, subst, arith, eqb, ltb, leb, cond}
use Rattle.std.specs.Prelude.{All}
use Rattle.std.specs.Ordering.{is_lt}
use Rattle.std.specs.List.Sorted.{IsSorted}
use Rattle.std.proofs.lemmas.Grind.{common_steps}
use Rattle.std.proofs.lemmas.Int.{ints}
use Rattle.std.proofs.lemmas.Bool.{eq-eqb, ne_eqb, ltb-true, ltb-false, leb-true, leb-false, le-ltb, lt-leb}
use Rattle.std.proofs.lemmas.Bool.Decides.{nat_tests}
use Rattle.std.proofs.lemmas.List.Elements.{All-head, All-tail}
use Rattle.pl_lists.specs.Lists.{front, back}
use Rattle.pl_points.proofs.Parting.{NonePass, IsParted}
use Rattle.pl_rate.specs.declared.hinge.Hinge.{Hinge}
use Rattle.pl_rate.specs.Courses.{added_by, sum_of, IsFlat, RiseFrom}
use Rattle.pl_rate.specs.Hinges.{added_on, sum_on}
use Rattle.pl_rate.specs.Orders.{Follows, OrderedFrom, AreOrdered, hinge_cmp, is_below, is_upto}

-- ---- sorted hinges

follows : (g h : Hinge) → is_lt (hinge_cmp h g) ≡ false → Follows g.line g.moment h
follows g h e = (grind (arith, nat_tests, common_steps, e), λ same. grind (arith, nat_tests, common_steps, e, same))

abbrev Begins : ℕ → ℕ → List Hinge → Type 0
Begins line moment hs = (d : Hinge) → 0 < length hs → Follows line moment (get_or hs 0 d)

ordered_from : (line moment : ℕ) (hs : List Hinge) → Begins line moment hs → IsSorted hinge_cmp hs → All IsFlat hs → OrderedFrom line moment hs
ordered_from line moment [] begins sorted flat = tt
ordered_from line moment (h ∷ hs) begins sorted flat = (
  begins h (omega arith),
  All-head IsFlat h hs flat,
  ordered_from h.line h.moment hs (λ d some. follows h (get_or hs 0 d) (sorted 0 d (omega arith) (omega (arith, some)))) later (All-tail IsFlat h hs flat),
)
  where
    later : IsSorted hinge_cmp hs
    later k d low lt =
        let next : suc k + 1 ≡ suc (k + 1) = omega arith in
        subst (λ n. is_lt (hinge_cmp (get_or (h ∷ hs) n d) (get_or hs k d)) ≡ false) next (sorted (suc k) d (omega arith) (omega (arith, lt)))

pub ordered : (hs : List Hinge) → IsSorted hinge_cmp hs → All IsFlat hs → AreOrdered hs
ordered hs sorted flat = ordered_from 0 0 hs (λ d some. (omega arith, λ same. omega arith)) sorted flat

-- ---- cut by levels

none_below : (line l m : ℕ) (hs : List Hinge) → line ≤ l → OrderedFrom l m hs → NonePass (is_below line) hs
none_below line l m [] le ordered = tt
none_below line l m (h ∷ hs) le ordered = (le-ltb h.line line (omega (arith, le, ordered.0.0)), none_below line h.line h.moment hs (omega (arith, le, ordered.0.0)) ordered.2)

pub parted_below : (line l m : ℕ) (hs : List Hinge) → OrderedFrom l m hs → IsParted (is_below line) hs
parted_below line l m [] ordered = tt
parted_below line l m (h ∷ hs) ordered = ((λ f. none_below line h.line h.moment hs (ltb-false h.line line f) ordered.2), parted_below line h.line h.moment hs ordered.2)

none_upto : (line l m : ℕ) (hs : List Hinge) → line < l → OrderedFrom l m hs → NonePass (is_upto line) hs
none_upto line l m [] lt ordered = tt
none_upto line l m (h ∷ hs) lt ordered = (lt-leb h.line line (omega (arith, lt, ordered.0.0)), none_upto line h.line h.moment hs (omega (arith, lt, ordered.0.0)) ordered.2)

pub parted_upto : (line l m : ℕ) (hs : List Hinge) → OrderedFrom l m hs → IsParted (is_upto line) hs
parted_upto line l m [] ordered = tt
parted_upto line l m (h ∷ hs) ordered = ((λ f. none_upto line h.line h.moment hs (leb-false h.line line f) ordered.2), parted_upto line h.line h.moment hs ordered.2)

-- ---- those of one level

-- from the level on
pub back_ordered : (line l m : ℕ) (hs : List Hinge) → OrderedFrom l m hs → OrderedFrom line 0 (back (is_below line) hs)
back_ordered line l m [] ordered = tt
back_ordered line l m (h ∷ hs) ordered = by (ltb h.line line) refl (back_ordered line h.line h.moment hs ordered.2)
  where
    by : (b : Bool) → ltb h.line line ≡ b → OrderedFrom line 0 (back (is_below line) hs) → OrderedFrom line 0 (cond b (back (is_below line) hs) (h ∷ hs))
    by true e more = more
    by false e more = ((ltb-false h.line line e, λ same. omega arith), ordered.1, ordered.2)

pub looser : (l m : ℕ) (hs : List Hinge) → OrderedFrom l m hs → AreOrdered hs
looser l m [] ordered = tt
looser l m (h ∷ hs) ordered = ((omega arith, λ same. omega arith), ordered.1, ordered.2)

other_adds : (line t : ℕ) (h : Hinge) → eqb h.line line ≡ false → added_on line t h ≡ pos 0
other_adds line t h e = rw e refl

own_adds : (line t : ℕ) (h : Hinge) → eqb h.line line ≡ true → added_on line t h ≡ added_by t h
own_adds line t h e = rw e refl

sum_back : (line t : ℕ) (hs : List Hinge) → sum_on (back (is_below line) hs) line t ≡ sum_on hs line t
sum_back line t [] = refl
sum_back line t (h ∷ hs) = by (ltb h.line line) refl (sum_back line t hs)
  where
    by : (b : Bool) → ltb h.line line ≡ b → sum_on (back (is_below line) hs) line t ≡ sum_on hs line t → sum_on (cond b (back (is_below line) hs) (h ∷ hs)) line t ≡ added_on line t h +ℤ sum_on hs line t
    by true e more =
        let lt : h.line < line = ltb-true h.line line e in
        let none : added_on line t h ≡ pos 0 = other_adds line t h (ne_eqb h.line line (λ same. absurd (omega (arith, lt, same)))) in
        omega (arith, ints, more, none)
    by false e more = refl

none_on : (line t l m : ℕ) (hs : List Hinge) → line < l → OrderedFrom l m hs → sum_on hs line t ≡ pos 0
none_on line t l m [] lt ordered = refl
none_on line t l m (h ∷ hs) lt ordered =
    let past : line < h.line = omega (arith, lt, ordered.0.0) in
    let none : added_on line t h ≡ pos 0 = other_adds line t h (ne_eqb h.line line (λ same. absurd (omega (arith, past, same)))) in
    omega (arith, ints, none, none_on line t h.line h.moment hs past ordered.2)

sum_front : (line t l m : ℕ) (hs : List Hinge) → line ≤ l → OrderedFrom l m hs → sum_of (front (is_upto line) hs) t ≡ sum_on hs line t
sum_front line t l m [] le ordered = refl
sum_front line t l m (h ∷ hs) le ordered = by (leb h.line line) refl (λ after. sum_front line t h.line h.moment hs after ordered.2)
  where
    by : (b : Bool) → leb h.line line ≡ b → (line ≤ h.line → sum_of (front (is_upto line) hs) t ≡ sum_on hs line t) → sum_of (cond b (h ∷ front (is_upto line) hs) []) t ≡ added_on line t h +ℤ sum_on hs line t
    by true e more =
        let same : h.line ≡ line = omega (arith, leb-true h.line line e, le, ordered.0.0) in
        omega (arith, ints, own_adds line t h (eq-eqb h.line line same), more (omega (arith, same)))
    by false e more =
        let past : line < h.line = leb-false h.line line e in
        sym (none_on line t h.line h.moment (h ∷ hs) past ((omega arith, λ same. omega arith), ordered.1, ordered.2))

pub sums_on : (line t l m : ℕ) (hs : List Hinge) → OrderedFrom l m hs → sum_of (front (is_upto line) (back (is_below line) hs)) t ≡ sum_on hs line t
sums_on line t l m hs ordered = sum_front line t line 0 (back (is_below line) hs) (omega arith) (back_ordered line l m hs ordered) ∙ sum_back line t hs

pub rising_on : (line m : ℕ) (hs : List Hinge) → OrderedFrom line m hs → RiseFrom m (front (is_upto line) hs)
rising_on line m [] ordered = tt
rising_on line m (h ∷ hs) ordered = by (leb h.line line) refl (λ same. rising_on line h.moment hs (subst (λ l. OrderedFrom l h.moment hs) same ordered.2))
  where
    by : (b : Bool) → leb h.line line ≡ b → (h.line ≡ line → RiseFrom h.moment (front (is_upto line) hs)) → RiseFrom m (cond b (h ∷ front (is_upto line) hs) [])
    by true e more =
        let same : h.line ≡ line = omega (arith, leb-true h.line line e, ordered.0.0) in
        (ordered.0.1 same, ordered.1, more same)
    by false e more = tt
