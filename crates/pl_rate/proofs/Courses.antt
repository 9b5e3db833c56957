-- The walk over hinges: the line that was come to, and the hinges that are left, give the whole.
use Rattle.std.proofs.Common.{◌≡◌, ℕ, zero, suc, ◌+◌, ◌-◌, ◌*◌, ◌^◌, ◌<◌, ◌≤◌, true, false, ◌&&◌, ◌||◌, List, [], ◌∷◌, length, drop, get_or, ℤ, pos, ◌+ℤ◌, ◌*ℤ◌, ◌≤ℤ◌, refl, sym, ap, ◌∙◌, subst, arith, drop-cons}
use Rattle.std.specs.Prelude.{neg_ℤ, nat_le}
use Rattle.std.specs.Int.RustNames.{unsigned_abs}
use Rattle.std.proofs.lemmas.Int.{ints, unsigned_abs-mul}
use Rattle.std.proofs.lemmas.Nat.{mul-le}
use Rattle.std.proofs.Math.IntN.{*ℤ-zero, *ℤ-one, one}
use Rattle.std.proofs.lemmas.Bool.Decides.{nat_tests}
use Rattle.pl_points.specs.declared.limit.Limit.{Limit}
use Rattle.pl_points.specs.declared.span.Span.{Span}
use Rattle.pl_points.specs.Spans.{within, covers, AreApart, spans_of}
use Rattle.pl_points.specs.Limits.{is_outside}
use Rattle.pl_points.proofs.Spanning.{piece_more}
use Rattle.pl_points.proofs.Cuts.{within_low, apart_from}
use Rattle.pl_points.proofs.Maximal.{is_spans_of}
use Rattle.pl_rate.specs.declared.hinge.Hinge.{Hinge}
use Rattle.pl_rate.specs.declared.course.Course.{Course}
use Rattle.pl_rate.specs.Courses.{sum_of, IsFlat, RiseFrom, value_at, moved, turned, IsModest, IsAmple, IsSteep, IsRoomy, IsBounded, HasCome}
use Rattle.pl_rate.proofs.Pieces.{HasPiece}

-- ---- products

-- the slope over two stretches, and two slopes over one
pub slope_over : (s : ℤ) (x y : ℕ) → s *ℤ pos (x + y) ≡ s *ℤ pos x +ℤ s *ℤ pos y
slope_over s x y = grind (arith, ints)

one_step : (z : ℤ) → z *ℤ pos 1 ≡ z
unfolding one
one_step z = *ℤ-one z

slopes_over : (s u : ℤ) (x : ℕ) → (s +ℤ u) *ℤ pos x ≡ s *ℤ pos x +ℤ u *ℤ pos x
slopes_over s u zero = omega (arith, ints, *ℤ-zero (s +ℤ u), *ℤ-zero s, *ℤ-zero u)
slopes_over s u (suc x) =
    let more : (s +ℤ u) *ℤ pos (x + 1) ≡ s *ℤ pos (x + 1) +ℤ u *ℤ pos (x + 1) =
    slope_over (s +ℤ u) x 1 ∙ (joined_sums (slopes_over s u x) ∙ sym (both (slope_over s x 1) (slope_over u x 1))) in
    let one : x + 1 ≡ suc x = omega arith in
    subst (λ n. (s +ℤ u) *ℤ pos n ≡ s *ℤ pos n +ℤ u *ℤ pos n) one more
  where
    ones : (s +ℤ u) *ℤ pos 1 ≡ s +ℤ u
    ones = one_step (s +ℤ u)

    joined_sums : (s +ℤ u) *ℤ pos x ≡ s *ℤ pos x +ℤ u *ℤ pos x → (s +ℤ u) *ℤ pos x +ℤ (s +ℤ u) *ℤ pos 1 ≡ (s *ℤ pos x +ℤ s) +ℤ (u *ℤ pos x +ℤ u)
    joined_sums e = rw (e, ones) (omega (arith, ints))

    both : s *ℤ pos (x + 1) ≡ s *ℤ pos x +ℤ s *ℤ pos 1 → u *ℤ pos (x + 1) ≡ u *ℤ pos x +ℤ u *ℤ pos 1 → s *ℤ pos (x + 1) +ℤ u *ℤ pos (x + 1) ≡ (s *ℤ pos x +ℤ s) +ℤ (u *ℤ pos x +ℤ u)
    both e f = rw (e, f, one_step s, one_step u) (omega (arith, ints))

-- a product of a slope within a bound
pub product_near : (s : ℤ) (k n : ℕ) → neg_ℤ (pos n) ≤ℤ s → s ≤ℤ pos n → (neg_ℤ (pos (n * k)) ≤ℤ (s *ℤ pos k)) × ((s *ℤ pos k) ≤ℤ pos (n * k))
product_near s k n low high =
    let size : unsigned_abs s ≤ n = omega (arith, ints) in
    let whole = unsigned_abs-mul s (pos k) in
    let most : unsigned_abs s * k ≤ n * k = mul-le (unsigned_abs s) k n k size (omega arith) in
    (omega (arith, ints, whole, most), omega (arith, ints, whole, most))

-- and of one that is at most this number of times something
pub product_within : (s : ℤ) (k n m : ℕ) → neg_ℤ (pos n) ≤ℤ s → s ≤ℤ pos n → k ≤ m → (neg_ℤ (pos (n * m)) ≤ℤ (s *ℤ pos k)) × ((s *ℤ pos k) ≤ℤ pos (n * m))
product_within s k n m low high few =
    let near = product_near s k n low high in
    let most : n * k ≤ n * m = mul-le n k n m (omega arith) few in
    (omega (arith, ints, near.0, most), omega (arith, ints, near.1, most))

-- ---- no sum overflows

pub change_modest : (slope : ℤ) (k : ℕ) → IsSteep slope → k ≤ 10000000 → IsModest (slope *ℤ pos k)
change_modest slope k steep few =
    let near = product_within slope k (2 ^ 84) (2 ^ 24) steep.0 steep.1 (omega (arith, few)) in
    (omega (arith, ints, near.0), omega (arith, ints, near.1))

pub along_modest : (value slope : ℤ) (k : ℕ) → IsAmple value → IsSteep slope → k ≤ 10000000 → IsModest (value +ℤ (slope *ℤ pos k))
along_modest value slope k ample steep few =
    let near = product_within slope k (2 ^ 84) (2 ^ 24) steep.0 steep.1 (omega (arith, few)) in
    (omega (arith, ints, near.0, ample.0), omega (arith, ints, near.1, ample.1))

-- behind fewer hinges than 64 bits can count a line has room
pub roomy : (n : ℕ) (c : Course) → n ≤ 2 ^ 64 → c.at ≤ 10000000 → IsBounded n c → IsRoomy c
roomy n c few at bounded =
    let each : 2 ^ 30 + 2 ^ 20 * c.at ≤ 2 ^ 45 = omega (arith, at) in
    let all : n * (2 ^ 30 + 2 ^ 20 * c.at) ≤ 2 ^ 64 * 2 ^ 45 = mul-le n (2 ^ 30 + 2 ^ 20 * c.at) (2 ^ 64) (2 ^ 45) few each in (
      (omega (arith, ints, all, bounded.value_low), omega (arith, ints, all, bounded.value_high)),
      (omega (arith, ints, few, bounded.slope_low), omega (arith, ints, few, bounded.slope_high)),
      at,
    )

-- ---- what is left

-- before all of them they add nothing
pub none_yet : (m : ℕ) (hs : List Hinge) (t : ℕ) → RiseFrom m hs → t < m → sum_of hs t ≡ pos 0
none_yet m [] t rise lt = refl
none_yet m (h ∷ hs) t rise lt =
    let off : nat_le h.moment t ≡ false = let later = rise.0 in grind (arith, nat_tests, later) in
    rw (off, none_yet h.moment hs t rise.2 (omega (arith, rise.0))) refl

pub rise_past : (hs : List Hinge) (i to c : ℕ) (d : Hinge) → i < length hs → RiseFrom c (drop i hs) → to ≤ (get_or hs i d).moment → RiseFrom to (drop i hs)
rise_past hs i to c d lt rise past =
    let cons = drop-cons hs i d lt in
    let rise' : RiseFrom c (get_or hs i d ∷ drop (suc i) hs) = subst (λ l. RiseFrom c l) cons rise in
    subst (λ l. RiseFrom to l) (sym cons) (past, rise'.1, rise'.2)

-- ---- the line goes on

pub bounded_first : (first : ℤ) → neg_ℤ (pos (2 ^ 63)) ≤ℤ first → first ≤ℤ pos (2 ^ 63) → IsBounded 0 (record { at = 0; value = first; slope = pos 0 })
bounded_first first low high = record {
  value_low = omega (arith, ints, low);
  value_high = omega (arith, ints, high);
  slope_low = omega (arith, ints);
  slope_high = omega (arith, ints);
}

pub come_first : (first : ℤ) (hs : List Hinge) → neg_ℤ (pos (2 ^ 63)) ≤ℤ first → first ≤ℤ pos (2 ^ 63) → RiseFrom 0 hs → HasCome first hs 0 (record { at = 0; value = first; slope = pos 0 })
come_first first hs low high rising = record {
  some = omega arith;
  line = λ t le. omega (arith, ints);
  rising = rising;
  bounded = bounded_first first low high;
}

-- a line over two stretches
value_over : (c : Course) (m t : ℕ) → c.at ≤ m → m ≤ t → value_at c t ≡ value_at c m +ℤ (c.slope *ℤ pos (t - m))
value_over c m t le le' =
    let parts : (m - c.at) + (t - m) ≡ t - c.at = omega (arith, le, le') in
    let over : c.slope *ℤ pos (t - c.at) ≡ c.slope *ℤ pos (m - c.at) +ℤ c.slope *ℤ pos (t - m) = subst (λ n. c.slope *ℤ pos n ≡ c.slope *ℤ pos (m - c.at) +ℤ c.slope *ℤ pos (t - m)) parts (slope_over c.slope (m - c.at) (t - m)) in
    omega (arith, ints, over)

-- the bound of a value at a later moment
value_bounded : (n : ℕ) (c : Course) (m : ℕ) → c.at ≤ m → IsBounded n c → (neg_ℤ (pos (2 ^ 63 + n * (2 ^ 30 + 2 ^ 20 * m))) ≤ℤ value_at c m) × (value_at c m ≤ℤ pos (2 ^ 63 + n * (2 ^ 30 + 2 ^ 20 * m)))
value_bounded n c m le bounded =
    let change = product_near c.slope (m - c.at) (n * 2 ^ 20) bounded.slope_low bounded.slope_high in
    let parts : c.at + (m - c.at) ≡ m = omega (arith, le) in
    let over : n * (2 ^ 30 + 2 ^ 20 * m) ≡ n * (2 ^ 30 + 2 ^ 20 * c.at) + (n * 2 ^ 20) * (m - c.at) = subst (λ x. n * (2 ^ 30 + 2 ^ 20 * x) ≡ n * (2 ^ 30 + 2 ^ 20 * c.at) + (n * 2 ^ 20) * (m - c.at)) parts (omega arith) in
    (omega (arith, ints, over, change.0, bounded.value_low), omega (arith, ints, over, change.1, bounded.value_high))

pub come_moved : (first : ℤ) (hs : List Hinge) (i : ℕ) (c : Course) (to : ℕ) → HasCome first hs i c → c.at ≤ to → RiseFrom to (drop i hs) → HasCome first hs i (moved c to)
come_moved first hs i c to come le rising = record {
  some = come.some;
  line = λ t later. come.line t (omega (arith, le, later)) ∙ ap (λ z. z +ℤ sum_of (drop i hs) t) (value_over c to t le later);
  rising = rising;
  bounded = let near = value_bounded i c to le come.bounded in record {
    value_low = near.0;
    value_high = near.1;
    slope_low = come.bounded.slope_low;
    slope_high = come.bounded.slope_high;
  };
}

module _ (first : ℤ) (hs : List Hinge) (i : ℕ) (c : Course) (come : HasCome first hs i c) (h : Hinge) (next : drop i hs ≡ h ∷ drop (i + 1) hs) (lt : i < length hs) where
  rise_here : RiseFrom c.at (h ∷ drop (i + 1) hs)
  rise_here = subst (λ l. RiseFrom c.at l) next come.rising

  pub later : c.at ≤ h.moment
  later = rise_here.0

  pub flat : IsFlat h
  flat = rise_here.1

  -- before the hinge the line goes on
  pub straight : (t : ℕ) → c.at ≤ t → t < h.moment → first +ℤ sum_of hs t ≡ value_at c t
  straight t le before =
      let none : sum_of (drop i hs) t ≡ pos 0 = subst (λ l. sum_of l t ≡ pos 0) (sym next) (none_yet h.moment (h ∷ drop (i + 1) hs) t (omega arith, rise_here.1, rise_here.2) before) in
      omega (arith, ints, come.line t le, none)

  -- behind it its jump and slope are in the line
  turned_line : (t : ℕ) → h.moment ≤ t → first +ℤ sum_of hs t ≡ value_at (turned c h) t +ℤ sum_of (drop (i + 1) hs) t
  turned_line t le =
      let on : nat_le h.moment t ≡ true = grind (arith, nat_tests) in
      let adds : sum_of (drop i hs) t ≡ (h.jump +ℤ (h.slope *ℤ pos (t - h.moment))) +ℤ sum_of (drop (i + 1) hs) t = subst (λ l. sum_of l t ≡ (h.jump +ℤ (h.slope *ℤ pos (t - h.moment))) +ℤ sum_of (drop (i + 1) hs) t) (sym next) (rw on refl) in
      omega (arith, ints, come.line t (omega (arith, later, le)), adds, value_over c h.moment t later le, slopes_over c.slope h.slope (t - h.moment))

  bounded_more : IsBounded (i + 1) (turned c h)
  bounded_more =
      let near = value_bounded i c h.moment later come.bounded in
      let low : neg_ℤ (pos (2 ^ 63 + (i + 1) * (2 ^ 30 + 2 ^ 20 * h.moment))) ≤ℤ (value_at c h.moment +ℤ h.jump) = omega (arith, ints, near.0, flat.0) in
      let high : (value_at c h.moment +ℤ h.jump) ≤ℤ pos (2 ^ 63 + (i + 1) * (2 ^ 30 + 2 ^ 20 * h.moment)) = omega (arith, ints, near.1, flat.1) in
      let slope_low : neg_ℤ (pos ((i + 1) * 2 ^ 20)) ≤ℤ (c.slope +ℤ h.slope) = omega (arith, ints, come.bounded.slope_low, flat.2) in
      let slope_high : (c.slope +ℤ h.slope) ≤ℤ pos ((i + 1) * 2 ^ 20) = omega (arith, ints, come.bounded.slope_high, flat.3) in
      record { value_low = low; value_high = high; slope_low = slope_low; slope_high = slope_high }

  pub come_more : HasCome first hs (i + 1) (turned c h)
  come_more = record {
    some = omega (arith, lt);
    line = turned_line;
    rising = rise_here.2;
    bounded = bounded_more;
  }

-- ---- the spans so far

-- from a moment up to another, those at which the value is outside its limit
pub record HasSpans (limit : Limit) (first : ℤ) (hs : List Hinge) (from at : ℕ) (spans : List Span) : Type 0 where
  pub begun : from ≤ at
  pub apart : AreApart 0 at spans
  pub exact : (t : ℕ) → covers spans t ≡ (within from at t && is_outside limit (first +ℤ sum_of hs t))

pub spans_first : (limit : Limit) (first : ℤ) (hs : List Hinge) (from : ℕ) → HasSpans limit first hs from from []
spans_first limit first hs from = record {
  begun = omega arith;
  apart = tt;
  exact = λ t. let none : within from from t ≡ false = grind (arith, nat_tests) in sym (rw none refl);
}

-- one line more
pub spans_more : (limit : Limit) (first : ℤ) (hs : List Hinge) (from to : ℕ) (c : Course) (spans new : List Span) → HasSpans limit first hs from c.at spans → c.at ≤ to
    → ((t : ℕ) → c.at ≤ t → t < to → first +ℤ sum_of hs t ≡ value_at c t) → HasPiece limit c.value c.slope c.at to spans new → HasSpans limit first hs from to new
spans_more limit first hs from to c spans new has le straight piece = record {
  begun = omega (arith, has.begun, le);
  apart = piece.apart;
  exact = λ t.
      piece.exact t
      ∙ (ap (λ b. b || (within c.at to t && is_outside limit (value_at c t))) (has.exact t)
      ∙ piece_more from c.at to t false (is_outside limit (first +ℤ sum_of hs t)) (is_outside limit (value_at c t)) has.begun le (λ begun before. ap (λ z. is_outside limit z) (straight t begun before)));
}

-- where no hinge is left before a moment, the line goes on up to it
pub straight_on : (first : ℤ) (hs : List Hinge) (i : ℕ) (c : Course) (to : ℕ) → HasCome first hs i c → RiseFrom to (drop i hs) → (t : ℕ) → c.at ≤ t → t < to → first +ℤ sum_of hs t ≡ value_at c t
straight_on first hs i c to come rising t le before = omega (arith, ints, come.line t le, none_yet to (drop i hs) t rising before)

pub spans_are : (limit : Limit) (first : ℤ) (hs : List Hinge) (from to : ℕ) (spans : List Span) → HasSpans limit first hs from to spans → spans ≡ spans_of (λ t. is_outside limit (first +ℤ sum_of hs t)) from (to - from)
spans_are limit first hs from to spans has =
    is_spans_of (λ t. is_outside limit (first +ℤ sum_of hs t)) from to spans has.begun (record {
      apart = apart_from 0 from to spans has.apart (λ t low. has.exact t ∙ (rw (within_low from to t low) refl));
      exact = has.exact;
    })

pub ample_modest : (z : ℤ) → IsAmple z → IsModest z
ample_modest z ample = (omega (arith, ints, ample.0), omega (arith, ints, ample.1))

pub steep_modest : (z : ℤ) → IsSteep z → IsModest z
steep_modest z steep = (omega (arith, ints, steep.0), omega (arith, ints, steep.1))

pub billion_modest : (z : ℤ) → neg_ℤ (pos 1000000000) ≤ℤ z → z ≤ℤ pos 1000000000 → IsModest z
billion_modest z low high = (omega (arith, ints, low), omega (arith, ints, high))
