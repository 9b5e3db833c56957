-- A property comes to hold among some moments no more often than it has maximal spans.
use Rattle.std.proofs.Common.{◌≡◌, ℕ, zero, suc, ◌+◌, ◌-◌, ◌<◌, ◌≤◌, Bool, true, false, List, [], ◌∷◌, length, refl, sym, subst, arith, eqb}
use Rattle.std.proofs.lemmas.Bool.{cond_both, eqb-true, eqb-false}
use Rattle.pl_points.specs.declared.span.Span.{Span}
use Rattle.pl_points.specs.Spans.{AreApart, span, grown, spans_of}
use Rattle.pl_points.proofs.Maximal.{maximal_spans}
use Rattle.pl_bounds.specs.Risings.{rise, risings, AreMoments}

-- ---- at every moment

-- how often it comes to hold in the n moments from a
abbrev edges : (ℕ → Bool) → Bool → ℕ → ℕ → ℕ
edges P before a zero = 0
edges P before a (suc n) = rise before (P a) + edges P (P a) (suc a) n

-- ---- what held before

by_way_of : (x y b : Bool) → rise x b ≤ rise x y + rise y b
by_way_of true y b = omega arith
by_way_of false y false = omega arith
by_way_of false true true = omega arith
by_way_of false false true = omega arith

before_any : (P : ℕ → Bool) (x y : Bool) (ts : List ℕ) → risings P x ts ≤ rise x y + risings P y ts
before_any P x y [] = omega arith
before_any P x y (t ∷ ts) = omega (arith, by_way_of x y (P t))

-- ---- some moments

sum_front : (a n : ℕ) → a + suc n ≡ suc a + n
sum_front a n = omega arith

few : (P : ℕ → Bool) (n a : ℕ) (before : Bool) (ts : List ℕ) → AreMoments a (a + n) ts → risings P before ts ≤ edges P before a n
few P n a before [] are = omega arith
few P zero a before (t ∷ ts) are = absurd (let low : a ≤ t = are.0 in let high : t < a + 0 = are.1 in omega (arith, low, high))
few P (suc n) a before (t ∷ ts) are = by (eqb t a) refl (few P n)
  where
    rest : AreMoments (suc t) (suc a + n) ts
    rest = subst (λ b. AreMoments (suc t) b ts) (sum_front a n) are.2

    here : ((x : ℕ) (held : Bool) (us : List ℕ) → AreMoments x (x + n) us → risings P held us ≤ edges P held x n) → t ≡ a → risings P before (t ∷ ts) ≤ edges P before a (suc n)
    here again e =
        let more : AreMoments (suc a) (suc a + n) ts = subst (λ x. AreMoments (suc x) (suc a + n) ts) e rest in
        let less : risings P (P a) ts ≤ edges P (P a) (suc a) n = again (suc a) (P a) ts more in
        subst (λ x. (rise before (P x) + risings P (P x) ts) ≤ (rise before (P a) + edges P (P a) (suc a) n)) (sym e) (omega (arith, less))

    later : ((x : ℕ) (held : Bool) (us : List ℕ) → AreMoments x (x + n) us → risings P held us ≤ edges P held x n) → suc a ≤ t → risings P before (t ∷ ts) ≤ edges P before a (suc n)
    later again lt =
        let high : t < suc a + n = omega (arith, are.1) in
        let less : risings P (P a) (t ∷ ts) ≤ edges P (P a) (suc a) n = again (suc a) (P a) (t ∷ ts) (lt, high, rest) in
        omega (arith, less, before_any P before (P a) (t ∷ ts))

    by : (b : Bool) → eqb t a ≡ b → ((x : ℕ) (held : Bool) (us : List ℕ) → AreMoments x (x + n) us → risings P held us ≤ edges P held x n) → risings P before (t ∷ ts) ≤ edges P before a (suc n)
    by true e again = here again (eqb-true t a e)
    by false e again = later again (let other : t ≡ a → ⊥ = eqb-false t a e in let low : a ≤ t = are.0 in grind (arith, other, low))

-- ---- spans

grown_more : (a : ℕ) (s : List Span) → length s ≤ length (grown true a s)
grown_more a [] = omega arith
grown_more a (p ∷ s) = cond_both (eqb (suc a) p.from) (span a p.to ∷ s) (span a (suc a) ∷ p ∷ s) (λ l. suc (length s) ≤ length l) (λ f. omega arith) (λ f. omega arith)

grown_apart : (a b : ℕ) (s : List Span) → AreApart (suc (suc a)) b s → suc (length s) ≤ length (grown true a s)
grown_apart a b [] apart = omega arith
grown_apart a b (p ∷ s) apart = cond_both (eqb (suc a) p.from) (span a p.to ∷ s) (span a (suc a) ∷ p ∷ s) (λ l. suc (suc (length s)) ≤ length l)
    (λ f. absurd (let e : suc a ≡ p.from = eqb-true (suc a) p.from f in let low : suc (suc a) ≤ p.from = apart.0 in omega (arith, e, low))) (λ f. omega arith)

module _ (P : ℕ → Bool) where
  -- where it holds at a, and at the moment behind it or not
  next : (a m : ℕ) (b : Bool) → (rise false b + edges P b (suc (suc a)) m) ≤ length (grown b (suc a) (spans_of P (suc (suc a)) m)) → suc (rise true b + edges P b (suc (suc a)) m) ≤ length (grown true a (grown b (suc a) (spans_of P (suc (suc a)) m)))
  next a m true more = let up = grown_more a (grown true (suc a) (spans_of P (suc (suc a)) m)) in omega (arith, more, up)
  next a m false more =
      let up = grown_apart a (suc (suc a) + m) (spans_of P (suc (suc a)) m) (maximal_spans P (suc (suc a)) m).apart in
      omega (arith, more, up)

  behind : (a n : ℕ) → edges P false (suc a) n ≤ length (spans_of P (suc a) n) → suc (edges P true (suc a) n) ≤ length (grown true a (spans_of P (suc a) n))
  behind a zero more = omega arith
  behind a (suc m) more = next a m (P (suc a)) more

  at_each : (n a : ℕ) → edges P false a n ≤ length (spans_of P a n)
  at_each zero a = omega arith
  at_each (suc n) a = by (P a) (at_each n (suc a))
    where
      by : (b : Bool) → edges P false (suc a) n ≤ length (spans_of P (suc a) n) → (rise false b + edges P b (suc a) n) ≤ length (grown b a (spans_of P (suc a) n))
      by true more = let up = behind a n more in omega (arith, up)
      by false more = omega (arith, more)

pub rises_few : (P : ℕ → Bool) (a b : ℕ) (ts : List ℕ) → a ≤ b → AreMoments a b ts → risings P false ts ≤ length (spans_of P a (b - a))
rises_few P a b ts le are =
    let e : b ≡ a + (b - a) = omega (arith, le) in
    let within : AreMoments a (a + (b - a)) ts = subst (λ x. AreMoments a x ts) e are in
    omega (arith, few P (b - a) a false ts within, at_each P (b - a) a)
