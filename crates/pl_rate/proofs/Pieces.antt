-- What a straight piece adds to the spans before it.
use Rattle.std.proofs.Common.{◌≡◌, ⊎_elim, ℕ, zero, suc, ◌+◌, ◌-◌, ◌*◌, ◌<◌, ◌≤◌, Bool, true, false, ◌&&◌, ◌||◌, List, [], ◌∷◌, ℤ, pos, negsuc, ◌+ℤ◌, ◌*ℤ◌, refl, sym, ap, ◌∙◌, arith}
use Rattle.std.specs.Prelude.{int_lt, neg_ℤ}
use Rattle.std.proofs.lemmas.Int.{ints}
use Rattle.std.proofs.lemmas.Bool.Decides.{nat_tests}
use Rattle.std.proofs.lemmas.Bool.{cases_lt}
use Rattle.std.proofs.Math.IntN.{pos-*ℤ-pos, negsuc-*ℤ-pos, neg_ℤ-neg_ℤ}
use Rattle.pl_points.specs.declared.limit.Limit.{Limit}
use Rattle.pl_points.specs.declared.limit.Limit.TheVariants.{Below, Above}
use Rattle.pl_points.specs.declared.span.Span.{Span}
use Rattle.pl_points.specs.Spans.{within, covers, AreApart, joined, span}
use Rattle.pl_points.specs.Limits.{is_outside}
use Rattle.std.proofs.Math.Bool.{or-false}
use Rattle.pl_points.proofs.Spanning.{apart_wider, apart_piece, covers_piece}
use Rattle.pl_points.proofs.Cuts.{within_yes, within_high, within_low}
use Rattle.pl_rate.specs.Courses.{gap_of, tilt_of}

pub neg-product : (s : ℤ) (k : ℕ) → neg_ℤ s *ℤ pos k ≡ neg_ℤ (s *ℤ pos k)
neg-product (pos zero) k = let none : 0 * k ≡ 0 = omega arith in rw (pos-*ℤ-pos zero k, none) refl
neg-product (pos (suc m)) k = negsuc-*ℤ-pos m k ∙ ap neg_ℤ (sym (pos-*ℤ-pos (suc m) k))
neg-product (negsuc m) k = pos-*ℤ-pos (suc m) k ∙ (sym (neg_ℤ-neg_ℤ (pos (suc m * k))) ∙ ap neg_ℤ (sym (negsuc-*ℤ-pos m k)))

-- a straight line is outside its limit where the gap is below 0
pub outside_line : (limit : Limit) (v s : ℤ) (k : ℕ) → is_outside limit (v +ℤ (s *ℤ pos k)) ≡ int_lt (gap_of limit v +ℤ (tilt_of limit s *ℤ pos k)) (pos 0)
outside_line (Below least) v s k = grind (arith, ints)
outside_line (Above most) v s k =
    let turned : neg_ℤ s *ℤ pos k ≡ neg_ℤ (s *ℤ pos k) = neg-product s k in
    rw turned (grind (arith, ints))

-- the moments of a part of a piece
pub part_is : (from to low high t : ℕ) (v : Bool) → from ≤ to → low ≤ high → high ≤ to - from → (from ≤ t → t < to → v ≡ within low high (t - from)) → within (from + low) (from + high) t ≡ (within from to t && v)
part_is from to low high t v le order bound same =
    ⊎_elim
    (λ (before : t < from). within_low (from + low) (from + high) t (omega arith) ∙ sym (rw (within_low from to t before) refl))
    (λ (begun : from ≤ t).
    ⊎_elim
    (λ (inside : t < to).
    let here : within from to t ≡ true = within_yes from to t begun inside in
    let moved : within (from + low) (from + high) t ≡ within low high (t - from) = grind (arith, nat_tests) in
    rw here (moved ∙ sym (same begun inside)))
    (λ (past : to ≤ t). within_high (from + low) (from + high) t (omega arith) ∙ sym (rw (within_high from to t past) refl))
    (cases_lt t to))
    (cases_lt t from)

pub part_none : (from to low high t : ℕ) (c v : Bool) → from ≤ to → low ≤ high → high ≤ low → high ≤ to - from → (from ≤ t → t < to → v ≡ within low high (t - from)) → c ≡ (c || (within from to t && v))
part_none from to low high t c v le order empty bound same =
    let is = part_is from to low high t v le order bound same in
    let none : within (from + low) (from + high) t ≡ false = grind (arith, nat_tests) in
    rw (sym is ∙ none) (sym (or-false c))

pub line_is : (limit : Limit) (v s g tilt : ℤ) (n low high : ℕ) → g ≡ gap_of limit v → tilt ≡ tilt_of limit s → ((k : ℕ) → k < n → int_lt (g +ℤ (tilt *ℤ pos k)) (pos 0) ≡ within low high k) → (k : ℕ) → k < n → is_outside limit (v +ℤ (s *ℤ pos k)) ≡ within low high k
line_is limit v s g tilt n low high is_gap is_tilt exact k lt =
    outside_line limit v s k ∙ rw (is_gap, is_tilt) at (exact k lt)

-- what stands after a straight piece was looked at
pub record HasPiece (limit : Limit) (v s : ℤ) (from to : ℕ) (old new : List Span) : Type 0 where
  pub apart : AreApart 0 to new
  pub exact : (t : ℕ) → covers new t ≡ (covers old t || (within from to t && is_outside limit (v +ℤ (s *ℤ pos (t - from)))))

module _ (limit : Limit) (v s : ℤ) (from to low high : ℕ) (old : List Span) (le : from ≤ to) (order : low ≤ high) (bound : high ≤ to - from) (apart : AreApart 0 from old)
    (line : (k : ℕ) → k < to - from → is_outside limit (v +ℤ (s *ℤ pos k)) ≡ within low high k) where
  pub piece_put : (new : List Span) → low < high → new ≡ joined old (span (from + low) (from + high) ∷ []) → HasPiece limit v s from to old new
  piece_put new some put =
      let wide = apart_wider 0 from (from + low) old (omega arith) apart in
      let less : from + low < from + high = omega (arith, some) in
      rw put (record {
        apart = apart_wider 0 (from + high) to (joined old (span (from + low) (from + high) ∷ [])) (omega arith) (apart_piece (from + low) (from + high) old less wide);
        exact = λ t.
            covers_piece (from + low) (from + high) old less wide t
            ∙ ap (λ b. covers old t || b) (part_is from to low high t (is_outside limit (v +ℤ (s *ℤ pos (t - from)))) le order bound (λ begun inside. line (t - from) (omega arith)));
      })

  pub piece_empty : high ≤ low → HasPiece limit v s from to old old
  piece_empty none = record {
    apart = apart_wider 0 from to old le apart;
    exact = λ t. part_none from to low high t (covers old t) (is_outside limit (v +ℤ (s *ℤ pos (t - from)))) le order none bound (λ begun inside. line (t - from) (omega arith));
  }
