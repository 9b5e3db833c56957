-- Spans of a property, one piece more.
use Rattle.std.proofs.Common.{◌≡◌, ℕ, ◌-◌, ◌<◌, ◌≤◌, Bool, true, false, ◌&&◌, ◌||◌, cond, List, [], ◌∷◌, refl, ap, sym, ◌∙◌, subst, arith, min, max, Result, Ok, Err, IfOk}
use Rattle.std.proofs.Math.Bool.{or-false, and-false}
use Rattle.pl_points.specs.declared.span.Span.{Span}
use Rattle.pl_points.specs.Spans.{within, AreApart, AreMaximal, span, joined}
use Rattle.pl_points.proofs.Spanning.{and_true, apart_wider, apart-joined, covers-joined, piece_more}

pub more_maximal : (P : ℕ → Bool) (a at end : ℕ) (s new : List Span) (v : Bool) → a ≤ at → at < end → AreMaximal P a at s → new ≡ cond v (joined s (span at end ∷ [])) s → ((t : ℕ) → at ≤ t → t < end → P t ≡ v) → AreMaximal P a end new
more_maximal P a at end s new v le lt maximal is same = subst (λ l. AreMaximal P a end l) (sym is) (cases v same)
  where
    one : AreApart at end (span at end ∷ [])
    one = (omega arith, lt, omega arith, tt)

    cases : (v : Bool) → ((t : ℕ) → at ≤ t → t < end → P t ≡ v) → AreMaximal P a end (cond v (joined s (span at end ∷ [])) s)
    cases true same = record {
      apart = apart-joined a at end s (span at end ∷ []) le (omega (arith, lt)) maximal.apart one;
      exact = λ t. covers-joined a at end s (span at end ∷ []) maximal.apart one t
          ∙ (ap (λ b. b || (within at end t || false)) (maximal.exact t)
          ∙ (ap (λ b. (within a at t && P t) || b) (or-false (within at end t) ∙ and_true (within at end t) true refl)
          ∙ piece_more a at end t false (P t) true le (omega (arith, lt)) (same t)));
    }
    cases false same = record {
      apart = apart_wider a at end s (omega (arith, lt)) maximal.apart;
      exact = λ t. maximal.exact t
          ∙ (sym (ap (λ b. (within a at t && P t) || b) (and-false (within at end t)) ∙ or-false (within a at t && P t))
          ∙ piece_more a at end t false (P t) false le (omega (arith, lt)) (same t));
    }

pub if_ok_weaker : {T E : Type 0} (P Q : T → Type 0) (r : Result T E) → ((x : T) → P x → Q x) → IfOk r P → IfOk r Q
if_ok_weaker P Q (Ok x) f h = f x h
if_ok_weaker P Q (Err e) f h = h

pub same_length : (a b c : ℕ) → max (min a b) c - c ≡ min a b - c
same_length a b c = omega arith
