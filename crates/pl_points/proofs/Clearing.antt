-- Windows in which nothing is outside and no span lies.
use Rattle.std.proofs.Common.{◌≡◌, ℕ, ◌<◌, ◌≤◌, ◌^◌, suc, Bool, true, false, ◌&&◌, ◌||◌, List, [], ◌∷◌, refl, sym, ◌∙◌, arith, cond, leb, ltb}
use Rattle.std.proofs.lemmas.Bool.{leb-true, leb-false, ltb-true, and_parts}
use Rattle.std.proofs.Math.Bool.{and-false}
use Rattle.pl_lists.specs.Lists.{back}
use Rattle.pl_points.specs.declared.span.Span.{Span}
use Rattle.pl_points.specs.Spans.{within, covers, AreApart}
use Rattle.pl_points.specs.Mending.{ends_by, mended}
use Rattle.pl_points.proofs.Cuts.{covers_low}

-- the first of them, if there is one, begins no earlier
abbrev pub BeginsBy : ℕ → List Span → Type 0
BeginsBy b [] = Unit {0}
BeginsBy b (p ∷ s) = b ≤ p.from

-- a window behind the spans that end by its begin, and before the others, is clear
pub clear_window : (a b low : ℕ) (s : List Span) → AreApart low (2 ^ 32) s → BeginsBy b (back (ends_by a) s) → (t : ℕ) → within a b t ≡ true → covers s t ≡ false
clear_window a b low [] apart begins t here = refl
clear_window a b low (p ∷ s) apart begins t here = cases (leb p.to a) refl begins (clear_window a b (suc p.to) s apart.3)
  where
    from : a ≤ t
    from = leb-true a t (and_parts (leb a t) (ltb t b) here).0

    to : t < b
    to = ltb-true t b (and_parts (leb a t) (ltb t b) here).1

    late : (v : Bool) → ltb t p.to ≡ v → p.to ≤ a → (leb p.from t && v) ≡ false
    late true e le = absurd (omega (arith, ltb-true t p.to e, le, from))
    late false e le = and-false (leb p.from t)

    early : (v : Bool) → leb p.from t ≡ v → b ≤ p.from → (v && ltb t p.to) ≡ false
    early true e le = absurd (omega (arith, leb-true p.from t e, le, to))
    early false e le = refl

    cases : (v : Bool) → leb p.to a ≡ v → BeginsBy b (cond v (back (ends_by a) s) (p ∷ s)) → (BeginsBy b (back (ends_by a) s) → (u : ℕ) → within a b u ≡ true → covers s u ≡ false) → (within p.from p.to t || covers s t) ≡ false
    cases true e begins more = let first : within p.from p.to t ≡ false = late (ltb t p.to) refl (leb-true p.to a e) in rw first (more begins t here)
    cases false e begins more =
        let first : within p.from p.to t ≡ false = early (leb p.from t) refl begins in
        rw first (covers_low (suc p.to) (2 ^ 32) s t apart.3 (omega (arith, to, begins, apart.1)))

-- what is clear and calm stays as it is
pub mended_clear : (a b : ℕ) (q : ℕ → Bool) (s : List Span) → ((t : ℕ) → within a b t ≡ true → covers s t ≡ false) → ((t : ℕ) → a ≤ t → t < b → q t ≡ false) → (t : ℕ) → covers s t ≡ mended a b q s t
mended_clear a b q s clear calm t = cases (within a b t) refl
  where
    cases : (v : Bool) → within a b t ≡ v → covers s t ≡ cond v (q t) (covers s t)
    cases true e =
        let here = and_parts (leb a t) (ltb t b) e in
        clear t e ∙ sym (calm t (leb-true a t here.0) (ltb-true t b here.1))
    cases false e = refl

-- what is calm up to a moment and from there on is calm
pub calm_on : (a m n : ℕ) (q : ℕ → Bool) → ((t : ℕ) → a ≤ t → t < m → q t ≡ false) → ((t : ℕ) → m ≤ t → t < n → q t ≡ false) → (t : ℕ) → a ≤ t → t < n → q t ≡ false
calm_on a m n q first then t low high = cases (leb m t) refl
  where
    cases : (v : Bool) → leb m t ≡ v → q t ≡ false
    cases true e = then t (leb-true m t e) high
    cases false e = first t low (leb-false m t e)
