-- Conflicts that differ: of two lists that do not meet, those that pass a test, and those of the spans of a timeline.
use Rattle.std.proofs.Common.{◌≡◌, ℕ, suc, ◌<◌, ◌≤◌, Bool, true, false, cond, List, [], ◌∷◌, ◌++◌, map, filter, refl, sym, ap, ◌∙◌, arith}
use Rattle.std.specs.Prelude.{◌||◌}
use Rattle.std.proofs.lemmas.Bool.{false_from_ne_true, or_from}
use Rattle.std.proofs.Math.Bool.{or-true}
use Rattle.pl_points.specs.declared.span.Span.{Span}
use Rattle.pl_points.specs.Spans as spans
use Rattle.pl_conflict.specs.declared.conflict.Conflict.{Conflict}
use Rattle.pl_conflict.specs.declared.conflict.Code.{Code}
use Rattle.pl_conflict.specs.Order.{has}
use Rattle.pl_conflict.proofs.Sorting.{same, same_is, has-append, same_itself}
use Rattle.pl_semantics.specs.Timelines.{outside}
use Rattle.pl_bounds.specs.Counts.{AreApart}

pub apart_both : (xs ys : List Conflict) → AreApart xs → AreApart ys → ((q : Conflict) → has q xs ≡ true → has q ys ≡ false) → AreApart (xs ++ ys)
apart_both [] ys one other meet = other
apart_both (k ∷ xs) ys one other meet = (
  has-append xs ys k ∙ or_from (has k xs) (has k ys) one.0 (meet k (ap (λ b. b || has k xs) (same_itself k))),
  apart_both xs ys one.1 other (λ q e. meet q (ap (λ b. same q k || b) e ∙ or-true (same q k))),
)

-- ---- those that pass

pub has_passing : (p : Conflict → Bool) (ks : List Conflict) (q : Conflict) → has q (filter p ks) ≡ true → (has q ks ≡ true) × (p q ≡ true)
has_passing p [] q e = absurd (cc)
has_passing p (k ∷ ks) q e = by (p k) refl e (has_passing p ks q)
  where
    here : (b : Bool) → same q k ≡ b → p k ≡ true → (b || has q (filter p ks)) ≡ true → (has q (filter p ks) ≡ true → (has q ks ≡ true) × (p q ≡ true)) → ((b || has q ks) ≡ true) × (p q ≡ true)
    here true is passes e more = (refl, ap p (same_is q k is) ∙ passes)
    here false is passes e more = more e

    behind : (b : Bool) → has q ks ≡ true → (b || has q ks) ≡ true
    behind true e = refl
    behind false e = e

    by : (b : Bool) → p k ≡ b → has q (cond b (k ∷ filter p ks) (filter p ks)) ≡ true → (has q (filter p ks) ≡ true → (has q ks ≡ true) × (p q ≡ true)) → ((same q k || has q ks) ≡ true) × (p q ≡ true)
    by true passes e more = here (same q k) refl passes e more
    by false passes e more = let rest = more e in (behind (same q k) rest.0, rest.1)

pub apart_passing : (p : Conflict → Bool) (ks : List Conflict) → AreApart ks → AreApart (filter p ks)
apart_passing p [] apart = apart
apart_passing p (k ∷ ks) apart = by (p k) (apart_passing p ks apart.1)
  where
    none : has k (filter p ks) ≡ false
    none = false_from_ne_true (has k (filter p ks)) (λ e. absurd (let there : has k ks ≡ true = (has_passing p ks k e).0 in let bad : true ≡ false = sym there ∙ apart.0 in cc))

    by : (b : Bool) → AreApart (filter p ks) → AreApart (cond b (k ∷ filter p ks) (filter p ks))
    by true rest = (none, rest)
    by false rest = rest

-- ---- the spans of a timeline

module _ (why : Code) (line : ℕ) where
  none_of_later : (q : Conflict) (a b : ℕ) (ps : List Span) → q.from < a → spans.AreApart a b ps → has q (map (outside why line) ps) ≡ false
  none_of_later q a b [] lt apart = refl
  none_of_later q a b (p ∷ ps) lt apart = or_from (same q (outside why line p)) (has q (map (outside why line) ps))
      (false_from_ne_true (same q (outside why line p)) (λ e. absurd (let is : q ≡ outside why line p = same_is q (outside why line p) e in let at : q.from ≡ p.from = ap (λ (z : Conflict). z.from) is in let low : a ≤ p.from = apart.0 in omega (arith, lt, at, low))))
      (none_of_later q (suc p.to) b ps (let low : a ≤ p.from = apart.0 in let high : p.from < p.to = apart.1 in omega (arith, lt, low, high)) apart.3)

  pub spans_differ : (a b : ℕ) (ps : List Span) → spans.AreApart a b ps → AreApart (map (outside why line) ps)
  spans_differ a b [] apart = tt
  spans_differ a b (p ∷ ps) apart = (
    none_of_later (outside why line p) (suc p.to) b ps (let high : p.from < p.to = apart.1 in omega (arith, high)) apart.3,
    spans_differ (suc p.to) b ps apart.3,
  )
