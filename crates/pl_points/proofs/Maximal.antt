-- Maximal spans: the list is unique, and it can be mended.
use Rattle.std.proofs.Common.{◌≡◌, ℕ, zero, suc, ◌+◌, ◌-◌, ◌^◌, ◌<◌, ◌≤◌, Bool, true, false, ◌&&◌, ◌||◌, List, [], ◌∷◌, refl, ap, sym, ◌∙◌, subst, arith, eqb, ltb, leb}
use Rattle.std.proofs.lemmas.Bool.{cond_both, eqb-true, eqb-false, true≢false, ltb-true, ltb-false, leb-true, leb-false}
use Rattle.std.proofs.lemmas.Bool.Decides.{nat_tests}
use Rattle.std.proofs.Math.Bool.{and-true, and-false, or-false, and-or_distrib_right, or_assoc}
use Rattle.pl_points.specs.declared.span.Span.{Span}
use Rattle.pl_points.specs.Spans.{within, covers, AreApart, AreMaximal, span, grown, spans_of, joined}
use Rattle.pl_points.specs.Mending.{mended}
use Rattle.pl_points.proofs.Spanning.{apart_later, apart_wider, covers-joined, apart-joined, within_two}
use Rattle.pl_points.proofs.Cuts.{covers_low, within_high, within_low, within_yes, apart_from, apart_to}

apart_grown : (b : Bool) (a e : ℕ) (s : List Span) → suc a ≤ e → AreApart (suc a) e s → AreApart a e (grown b a s)
apart_grown false a e s le apart = apart_later a (suc a) e s (omega arith) apart
apart_grown true a e [] le apart = (omega arith, omega arith, le, tt)
apart_grown true a e (p ∷ s) le apart = cond_both (eqb (suc a) p.from) (span a p.to ∷ s) (span a (suc a) ∷ p ∷ s) (λ l. AreApart a e l)
    (λ f. (omega arith, omega (arith, apart.0, apart.1), apart.2, apart.3))
    (λ f. (omega arith, omega arith, le, (gap (eqb-false (suc a) p.from f), apart.1, apart.2, apart.3)))
  where
    gap : (suc a ≡ p.from → ⊥) → suc (suc a) ≤ p.from
    gap h = grind (arith, h, apart.0)

covers_grown : (b : Bool) (a e : ℕ) (s : List Span) (t : ℕ) → AreApart (suc a) e s → covers (grown b a s) t ≡ ((b && within a (suc a) t) || covers s t)
covers_grown false a e s t apart = refl
covers_grown true a e [] t apart = refl
covers_grown true a e (p ∷ s) t apart = cond_both (eqb (suc a) p.from) (span a p.to ∷ s) (span a (suc a) ∷ p ∷ s) (λ l. covers l t ≡ (within a (suc a) t || (within p.from p.to t || covers s t)))
    (λ f. one (eqb-true (suc a) p.from f) ∙ or_assoc (within a (suc a) t) (within p.from p.to t) (covers s t)) (λ f. refl)
  where
    one : suc a ≡ p.from → (within a p.to t || covers s t) ≡ ((within a (suc a) t || within p.from p.to t) || covers s t)
    one e =
        let two : within a p.to t ≡ (within a (suc a) t || within (suc a) p.to t) = within_two a (suc a) p.to t (omega arith) (omega (arith, e, apart.1)) in
        ap (λ b. b || covers s t) (two ∙ ap (λ n. within a (suc a) t || within n p.to t) e)

-- one moment more at the front
one_more : (P : ℕ → Bool) (a e t : ℕ) → suc a ≤ e → ((P a && within a (suc a) t) || (within (suc a) e t && P t)) ≡ (within a e t && P t)
one_more P a e t le = cases (leb a t) (ltb t (suc a)) refl refl
  where
    here : t ≡ a → (P a && true) ≡ (true && P t)
    here h = and-true (P a) ∙ ap P (sym h)

    cases : (v w : Bool) → leb a t ≡ v → ltb t (suc a) ≡ w → ((P a && within a (suc a) t) || (within (suc a) e t && P t)) ≡ (within a e t && P t)
    cases false w f g =
        let lt : t < a = leb-false a t f in
        rw (within_low a (suc a) t lt) (rw (within_low (suc a) e t (omega (arith, lt))) (rw (within_low a e t lt) (ap (λ b. b || false) (and-false (P a)))))
    cases true true f g =
        let same : t ≡ a = omega (arith, leb-true a t f, ltb-true t (suc a) g) in
        rw (within_yes a (suc a) t (leb-true a t f) (ltb-true t (suc a) g)) (rw (within_low (suc a) e t (ltb-true t (suc a) g))
        (rw (within_yes a e t (leb-true a t f) (omega (arith, same, le))) (or-false (P a && true) ∙ here same)))
    cases true false f g =
        let high : suc a ≤ t = ltb-false t (suc a) g in
        let same : within (suc a) e t ≡ within a e t = grind (arith, nat_tests) in
        rw (within_high a (suc a) t high) (rw same (ap (λ b. b || (within a e t && P t)) (and-false (P a))))

pub maximal_spans : (P : ℕ → Bool) (a n : ℕ) → AreMaximal P a (a + n) (spans_of P a n)
maximal_spans P a zero =
    record { apart = tt; exact = λ t. let none : within a (a + zero) t ≡ false = grind (arith, nat_tests) in rw none refl }
maximal_spans P a (suc n) =
    let e : suc a + n ≡ a + suc n = omega arith in
    let more : AreMaximal P (suc a) (a + suc n) (spans_of P (suc a) n) = subst (λ b. AreMaximal P (suc a) b (spans_of P (suc a) n)) e (maximal_spans P (suc a) n) in
    record {
      apart = apart_grown (P a) a (a + suc n) (spans_of P (suc a) n) (omega arith) more.apart;
      exact = λ t. covers_grown (P a) a (a + suc n) (spans_of P (suc a) n) t more.apart
          ∙ (ap (λ b. (P a && within a (suc a) t) || b) (more.exact t) ∙ one_more P a (a + suc n) t (omega arith));
    }

-- lists that lie apart and cover the same are the same
pub same_spans : (c d e f : ℕ) (s u : List Span) → AreApart c e s → AreApart d f u → ((t : ℕ) → covers s t ≡ covers u t) → s ≡ u
same_spans c d e f [] [] one other same = refl
same_spans c d e f [] (q ∷ u) one other same =
    let yes : (within q.from q.to q.from || covers u q.from) ≡ true = rw (within_yes q.from q.to q.from (omega arith) other.1) refl in
    absurd (true≢false (sym yes ∙ sym (same q.from)))
same_spans c d e f (p ∷ s) [] one other same =
    let yes : (within p.from p.to p.from || covers s p.from) ≡ true = rw (within_yes p.from p.to p.from (omega arith) one.1) refl in
    absurd (true≢false (sym yes ∙ same p.from))
same_spans c d e f (p ∷ s) (q ∷ u) one other same =
    let begins : p.from ≡ q.from = omega (arith, begin p q s u c d e f one other same, begin q p u s d c f e other one (λ t. sym (same t))) in
    let ends : p.to ≡ q.to = omega (arith, end p q s u c d e f one other same begins, end q p u s d c f e other one (λ t. sym (same t)) (sym begins)) in
    let head : p ≡ q = ap (λ n. span n p.to) begins ∙ ap (λ n. span q.from n) ends in
    let rest : s ≡ u = same_spans (suc p.to) (suc q.to) e f s u one.3 other.3 (λ t. tails t begins ends) in
    ap (λ r. r ∷ s) head ∙ ap (λ l. q ∷ l) rest
  where
    begin : (p q : Span) (s u : List Span) (c d e f : ℕ) → AreApart c e (p ∷ s) → AreApart d f (q ∷ u) → ((t : ℕ) → covers (p ∷ s) t ≡ covers (q ∷ u) t) → q.from ≤ p.from
    begin p q s u c d e f one other same = cases (leb q.from p.from) refl
      where
        cases : (v : Bool) → leb q.from p.from ≡ v → q.from ≤ p.from
        cases true h = leb-true q.from p.from h
        cases false h =
            let yes : (within p.from p.to p.from || covers s p.from) ≡ true = rw (within_yes p.from p.to p.from (omega arith) one.1) refl in
            let no : covers (q ∷ u) p.from ≡ false = covers_low q.from f (q ∷ u) p.from (omega arith, other.1, other.2, other.3) (leb-false q.from p.from h) in
            absurd (true≢false (sym yes ∙ (same p.from ∙ no)))

    end : (p q : Span) (s u : List Span) (c d e f : ℕ) → AreApart c e (p ∷ s) → AreApart d f (q ∷ u) → ((t : ℕ) → covers (p ∷ s) t ≡ covers (q ∷ u) t) → p.from ≡ q.from → q.to ≤ p.to
    end p q s u c d e f one other same begins = cases (leb q.to p.to) refl
      where
        cases : (v : Bool) → leb q.to p.to ≡ v → q.to ≤ p.to
        cases true h = leb-true q.to p.to h
        cases false h =
            let yes : (within q.from q.to p.to || covers u p.to) ≡ true = rw (within_yes q.from q.to p.to (omega (arith, one.1, begins)) (leb-false q.to p.to h)) refl in
            let no : (within p.from p.to p.to || covers s p.to) ≡ false = rw (within_high p.from p.to p.to (omega arith)) (covers_low (suc p.to) e s p.to one.3 (omega arith)) in
            absurd (true≢false (sym yes ∙ (sym (same p.to) ∙ no)))

    tails : (t : ℕ) → p.from ≡ q.from → p.to ≡ q.to → covers s t ≡ covers u t
    tails t begins ends = cases (leb (suc p.to) t) refl
      where
        cases : (v : Bool) → leb (suc p.to) t ≡ v → covers s t ≡ covers u t
        cases true h =
            let le : suc p.to ≤ t = leb-true (suc p.to) t h in
            let left : covers (p ∷ s) t ≡ covers s t = rw (within_high p.from p.to t (omega (arith, le))) refl in
            let right : covers (q ∷ u) t ≡ covers u t = rw (within_high q.from q.to t (omega (arith, le, ends))) refl in
            sym left ∙ (same t ∙ right)
        cases false h =
            let lt : t < suc p.to = leb-false (suc p.to) t h in
            covers_low (suc p.to) e s t one.3 lt ∙ sym (covers_low (suc q.to) f u t other.3 (omega (arith, lt, ends)))

pub maximal_unique : (P : ℕ → Bool) (a b : ℕ) (s t : List Span) → AreMaximal P a b s → AreMaximal P a b t → s ≡ t
maximal_unique P a b s t one other = same_spans a a b b s t one.apart other.apart (λ x. one.exact x ∙ sym (other.exact x))

-- so such a list is the one that is worked out
pub is_spans_of : (P : ℕ → Bool) (a b : ℕ) (s : List Span) → a ≤ b → AreMaximal P a b s → s ≡ spans_of P a (b - a)
is_spans_of P a b s le maximal =
    let e : a + (b - a) ≡ b = omega (arith, le) in
    maximal_unique P a b s (spans_of P a (b - a)) maximal (subst (λ n. AreMaximal P a n (spans_of P a (b - a))) e (maximal_spans P a (b - a)))

pub splits : (P : ℕ → Bool) (a m n : ℕ) → spans_of P a (m + n) ≡ joined (spans_of P a m) (spans_of P (a + m) n)
splits P a m n =
    let whole : AreMaximal P a (a + (m + n)) (spans_of P a (m + n)) = maximal_spans P a (m + n) in
    let one = maximal_spans P a m in
    let other = maximal_spans P (a + m) n in
    let e : (a + m) + n ≡ a + (m + n) = omega arith in
    same_spans a a (a + (m + n)) ((a + m) + n) (spans_of P a (m + n)) (joined (spans_of P a m) (spans_of P (a + m) n)) whole.apart
    (apart-joined a (a + m) ((a + m) + n) (spans_of P a m) (spans_of P (a + m) n) (omega arith) (omega arith) one.apart other.apart)
    (λ t. whole.exact t ∙ (ap (λ b. within a b t && P t) (sym e) ∙ sym (covers-joined a (a + m) ((a + m) + n) (spans_of P a m) (spans_of P (a + m) n) one.apart other.apart t
    ∙ (ap (λ v. v || covers (spans_of P (a + m) n) t) (one.exact t) ∙ (ap (λ v. (within a (a + m) t && P t) || v) (other.exact t) ∙ both t)))))
  where
    both : (t : ℕ) → ((within a (a + m) t && P t) || (within (a + m) ((a + m) + n) t && P t)) ≡ (within a ((a + m) + n) t && P t)
    both t = sym (and-or_distrib_right (within a (a + m) t) (within (a + m) ((a + m) + n) t) (P t)) ∙ ap (λ w. w && P t) (sym (within_two a (a + m) ((a + m) + n) t (omega arith) (omega arith)))

pub local : (P Q : ℕ → Bool) (a n : ℕ) → ((t : ℕ) → a ≤ t → t < a + n → P t ≡ Q t) → spans_of P a n ≡ spans_of Q a n
local P Q a zero same = refl
local P Q a (suc n) same =
    let here : P a ≡ Q a = same a (omega arith) (omega arith) in
    let there : spans_of P (suc a) n ≡ spans_of Q (suc a) n = local P Q (suc a) n (λ t le lt. same t (omega (arith, le)) (omega (arith, lt))) in
    ap (λ b. grown b a (spans_of P (suc a) n)) here ∙ ap (grown (Q a) a) there

-- spans mended in a window, where the property changed there alone
pub remaximal : (P Q R : ℕ → Bool) (a b from to : ℕ) (old new : List Span) → AreMaximal P a b old → AreApart 0 (2 ^ 32) new → ((t : ℕ) → covers new t ≡ mended from to R old t)
    → ((t : ℕ) → within from to t ≡ true → within a b t ≡ true × R t ≡ Q t) → ((t : ℕ) → within from to t ≡ false → within a b t ≡ true → P t ≡ Q t) → AreMaximal Q a b new
remaximal P Q R a b from to old new maximal apart says inside outside =
    record {
      apart = apart_to a (2 ^ 32) b new (apart_from 0 a (2 ^ 32) new apart (λ t lt. exact t ∙ (rw (within_low a b t lt) refl))) (λ t le. exact t ∙ (rw (within_high a b t le) refl));
      exact = exact;
    }
  where
    exact : (t : ℕ) → covers new t ≡ (within a b t && Q t)
    exact t = says t ∙ cases (within from to t) refl
      where
        rest : (v : Bool) → within a b t ≡ v → within from to t ≡ false → (v && P t) ≡ (v && Q t)
        rest true e f = outside t f e
        rest false e f = refl

        cases : (v : Bool) → within from to t ≡ v → mended from to R old t ≡ (within a b t && Q t)
        cases true e = let h = inside t e in rw e (rw h.0 h.1)
        cases false e = rw e (maximal.exact t ∙ rest (within a b t) refl e)

-- nothing before a later moment
pub later_maximal : (P : ℕ → Bool) (a b c : ℕ) (old new : List Span) → a ≤ c → AreMaximal P a b old → AreApart 0 (2 ^ 32) new → ((t : ℕ) → covers new t ≡ mended 0 c (λ _. false) old t) → AreMaximal P c b new
later_maximal P a b c old new le maximal apart says =
    record {
      apart = apart_to c (2 ^ 32) b new (apart_from 0 c (2 ^ 32) new apart (λ t lt. exact t ∙ (rw (within_low c b t lt) refl))) (λ t high. exact t ∙ (rw (within_high c b t high) refl));
      exact = exact;
    }
  where
    exact : (t : ℕ) → covers new t ≡ (within c b t && P t)
    exact t = says t ∙ cases (leb c t) refl
      where
        same : c ≤ t → within a b t ≡ within c b t
        same h = grind (arith, nat_tests, le)

        cases : (v : Bool) → leb c t ≡ v → mended 0 c (λ _. false) old t ≡ (within c b t && P t)
        cases true e = rw (within_high 0 c t (leb-true c t e)) (maximal.exact t ∙ ap (λ w. w && P t) (same (leb-true c t e)))
        cases false e = rw (within_yes 0 c t (omega arith) (leb-false c t e)) (rw (within_low c b t (leb-false c t e)) refl)

-- maximal spans of moments that fit 32 bits lie apart there
pub maximal_apart : (P : ℕ → Bool) (a b : ℕ) (s : List Span) → b ≤ 2 ^ 32 → AreMaximal P a b s → AreApart 0 (2 ^ 32) s
maximal_apart P a b s le maximal = apart_later 0 a (2 ^ 32) s (omega arith) (apart_wider a b (2 ^ 32) s le maximal.apart)
