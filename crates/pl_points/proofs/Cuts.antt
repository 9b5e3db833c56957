-- What is cut out of a list of spans, and what lies before and behind a moment.
use Rattle.std.proofs.Common.{◌≡◌, ℕ, zero, suc, ◌+◌, ◌<◌, ◌≤◌, Bool, true, false, ◌&&◌, ◌||◌, List, [], ◌∷◌, ◌++◌, length, get_or, set, take, drop, refl, ap, sym, ◌∙◌, arith, ltb, leb, min, max}
use Rattle.std.proofs.lemmas.Bool.{cond_both, true≢false, ltb-true, ltb-false, leb-true, leb-false, le-ltb, lt-leb}
use Rattle.std.proofs.lemmas.Bool.Decides.{nat_tests}
use Rattle.std.proofs.lemmas.List.{drop_all, drop-drop}
use Rattle.std.proofs.Math.Bool.{and-false, and-or_distrib_left}
use Rattle.pl_points.specs.declared.span.Span.{Span}
use Rattle.pl_lists.specs.Lists.{front, back}
use Rattle.pl_lists.proofs.Tests.{or_second_false}
use Rattle.pl_points.specs.Spans.{within, covers, AreApart, span, joined}
use Rattle.pl_points.specs.Mending.{ends_before, ends_by, begins_before, reached, beyond, cut_last, before, behind}
use Rattle.pl_points.proofs.Parting.{NonePass, IsParted, drop_next}
use Rattle.pl_points.proofs.Spanning.{apart_later}

-- behind a span that does not end before a moment, none does
none_ended : (at c e : ℕ) (s : List Span) → at ≤ c → AreApart c e s → NonePass (ends_before at) s
none_ended at c e [] le apart = tt
none_ended at c e (p ∷ s) le apart = (le-ltb p.to at (omega (arith, le, apart.0, apart.1)), none_ended at (suc p.to) e s (omega (arith, le, apart.0, apart.1)) apart.3)

pub parted_ended : (at c e : ℕ) (s : List Span) → AreApart c e s → IsParted (ends_before at) s
parted_ended at c e [] apart = tt
parted_ended at c e (p ∷ s) apart = ((λ f. none_ended at (suc p.to) e s (omega (arith, ltb-false p.to at f)) apart.3), parted_ended at (suc p.to) e s apart.3)

none_passed : (at c e : ℕ) (s : List Span) → at < c → AreApart c e s → NonePass (ends_by at) s
none_passed at c e [] le apart = tt
none_passed at c e (p ∷ s) le apart = (lt-leb p.to at (omega (arith, le, apart.0, apart.1)), none_passed at (suc p.to) e s (omega (arith, le, apart.0, apart.1)) apart.3)

pub parted_passed : (at c e : ℕ) (s : List Span) → AreApart c e s → IsParted (ends_by at) s
parted_passed at c e [] apart = tt
parted_passed at c e (p ∷ s) apart = ((λ f. none_passed at (suc p.to) e s (omega (arith, leb-false p.to at f)) apart.3), parted_passed at (suc p.to) e s apart.3)

none_begun : (at c e : ℕ) (s : List Span) → at ≤ c → AreApart c e s → NonePass (begins_before at) s
none_begun at c e [] le apart = tt
none_begun at c e (p ∷ s) le apart = (le-ltb p.from at (omega (arith, le, apart.0)), none_begun at (suc p.to) e s (omega (arith, le, apart.0, apart.1)) apart.3)

pub parted_begun : (at c e : ℕ) (s : List Span) → AreApart c e s → IsParted (begins_before at) s
parted_begun at c e [] apart = tt
parted_begun at c e (p ∷ s) apart = ((λ f. none_begun at (suc p.to) e s (omega (arith, ltb-false p.from at f, apart.1)) apart.3), parted_begun at (suc p.to) e s apart.3)

-- nothing is covered before the first moment, nor after the last
pub covers_low : (c e : ℕ) (s : List Span) (t : ℕ) → AreApart c e s → t < c → covers s t ≡ false
covers_low c e [] t apart lt = refl
covers_low c e (p ∷ s) t apart lt =
    let w : within p.from p.to t ≡ false = let f : leb p.from t ≡ false = lt-leb p.from t (omega (arith, lt, apart.0)) in rw f refl in
    rw w (covers_low (suc p.to) e s t apart.3 (omega (arith, lt, apart.0, apart.1)))

pub within_high : (a b t : ℕ) → b ≤ t → within a b t ≡ false
within_high a b t le = grind (arith, nat_tests)

pub within_low : (a b t : ℕ) → t < a → within a b t ≡ false
within_low a b t lt = grind (arith, nat_tests)

pub within_yes : (a b t : ℕ) → a ≤ t → t < b → within a b t ≡ true
within_yes a b t le lt = grind (arith, nat_tests)

pub covers_high : (c e : ℕ) (s : List Span) (t : ℕ) → AreApart c e s → e ≤ t → covers s t ≡ false
covers_high c e [] t apart le = refl
covers_high c e (p ∷ s) t apart le = rw (within_high p.from p.to t (omega (arith, le, apart.2))) (covers_high (suc p.to) e s t apart.3 le)

-- so bounds follow from what is covered
pub apart_from : (b c e : ℕ) (s : List Span) → AreApart b e s → ((t : ℕ) → t < c → covers s t ≡ false) → AreApart c e s
apart_from b c e [] apart none = tt
apart_from b c e (p ∷ s) apart none = (low, apart.1, apart.2, apart.3)
  where
    low : c ≤ p.from
    low = cases (leb c p.from) refl
      where
        cases : (v : Bool) → leb c p.from ≡ v → c ≤ p.from
        cases true f = leb-true c p.from f
        cases false f =
            let yes : (within p.from p.to p.from || covers s p.from) ≡ true = rw (within_yes p.from p.to p.from (omega arith) apart.1) refl in
            absurd (true≢false (sym yes ∙ none p.from (leb-false c p.from f)))

pub apart_to : (c e d : ℕ) (s : List Span) → AreApart c e s → ((t : ℕ) → d ≤ t → covers s t ≡ false) → AreApart c d s
apart_to c e d [] apart none = tt
apart_to c e d (p ∷ s) apart none = (apart.0, apart.1, high (leb p.to d) refl, apart_to (suc p.to) e d s apart.3 (λ t le. or_second_false (within p.from p.to t) (covers s t) (none t le)))
  where
    high : (v : Bool) → leb p.to d ≡ v → p.to ≤ d
    high true f = leb-true p.to d f
    high false f = last p.to refl
      where
        last : (n : ℕ) → p.to ≡ n → p.to ≤ d
        last zero e = omega (arith, e)
        last (suc n) e =
            let yes : (within p.from p.to n || covers s n) ≡ true = rw (within_yes p.from p.to n (omega (arith, e, apart.1)) (omega (arith, e))) refl in
            absurd (true≢false (sym yes ∙ none n (omega (arith, e, leb-false p.to d f))))

-- up to and with the first that reaches past a moment, by its place
pub reached_all : (at i : ℕ) (s : List Span) → drop i s ≡ back (ends_by at) s → take i s ≡ front (ends_by at) s → length s ≤ i → (take i s ≡ reached at s) × (drop i s ≡ beyond at s)
reached_all at i s rest before le = (before ∙ (all s (sym rest ∙ drop_all i s le)).0, rest ∙ (all s (sym rest ∙ drop_all i s le)).1)
  where
    all : (s : List Span) → back (ends_by at) s ≡ [] → (front (ends_by at) s ≡ reached at s) × (back (ends_by at) s ≡ beyond at s)
    all [] e = (refl, refl)
    all (p ∷ s) e = cases (ends_by at p) refl (all s)
      where
        cases : (v : Bool) → ends_by at p ≡ v → (back (ends_by at) s ≡ [] → (front (ends_by at) s ≡ reached at s) × (back (ends_by at) s ≡ beyond at s))
            → (front (ends_by at) (p ∷ s) ≡ reached at (p ∷ s)) × (back (ends_by at) (p ∷ s) ≡ beyond at (p ∷ s))
        cases true f more = let m : (front (ends_by at) s ≡ reached at s) × (back (ends_by at) s ≡ beyond at s) = more (sym (rw f refl) ∙ e) in (rw f (ap (λ l. p ∷ l) m.0), rw f m.1)
        cases false f more = let h : p ∷ s ≡ [] = sym (rw f refl) ∙ e in absurd (cc)

reached_parts : (at : ℕ) (s : List Span) → (reached at s ≡ front (ends_by at) s ++ take 1 (back (ends_by at) s)) × (beyond at s ≡ drop 1 (back (ends_by at) s))
reached_parts at [] = (refl, refl)
reached_parts at (p ∷ s) = cases (ends_by at p) refl (reached_parts at s)
  where
    cases : (v : Bool) → ends_by at p ≡ v → (reached at s ≡ front (ends_by at) s ++ take 1 (back (ends_by at) s)) × (beyond at s ≡ drop 1 (back (ends_by at) s))
        → (reached at (p ∷ s) ≡ front (ends_by at) (p ∷ s) ++ take 1 (back (ends_by at) (p ∷ s))) × (beyond at (p ∷ s) ≡ drop 1 (back (ends_by at) (p ∷ s)))
    cases true f more = (rw f (ap (λ l. p ∷ l) more.0), rw f more.1)
    cases false f more = (rw f refl, rw f refl)

take_step : (i : ℕ) (s : List Span) → i < length s → take (i + 1) s ≡ take i s ++ take 1 (drop i s)
take_step i [] lt = absurd (omega (arith, lt))
take_step zero (p ∷ s) lt = refl
take_step (suc i) (p ∷ s) lt = let e : suc i + 1 ≡ suc (i + 1) = omega arith in ap (λ n. take n (p ∷ s)) e ∙ ap (λ l. p ∷ l) (take_step i s (omega (arith, lt)))

pub reached_more : (at i : ℕ) (s : List Span) → drop i s ≡ back (ends_by at) s → take i s ≡ front (ends_by at) s → i < length s → (take (i + 1) s ≡ reached at s) × (drop (i + 1) s ≡ beyond at s)
reached_more at i s rest before lt = (
  take_step i s lt ∙ (ap (λ l. l ++ take 1 (drop i s)) before ∙ ap (λ l. front (ends_by at) s ++ take 1 l) rest) ∙ sym (reached_parts at s).0,
  sym (drop-drop 1 i s) ∙ ap (drop 1) rest ∙ sym (reached_parts at s).1,
)

-- the last one cut, by its place
pub cut_set : (s : List Span) (n at : ℕ) (p : Span) → length s ≡ suc n → p ≡ get_or s n p → set s n (span p.from (min p.to at)) ≡ cut_last at s
cut_set [] n at p len is = absurd (omega (arith, len))
cut_set (q ∷ []) zero at p len is = ap (λ (r : Span). span r.from (min r.to at) ∷ []) is
cut_set (q ∷ []) (suc n) at p len is = absurd (omega (arith, len))
cut_set (q ∷ r ∷ s) zero at p len is = absurd (omega (arith, len))
cut_set (q ∷ r ∷ s) (suc n) at p len is = ap (λ l. q ∷ l) (cut_set (r ∷ s) n at p (omega (arith, len)) is)

-- those that begin before a moment, the last cut there, are what lies before it
pub cut_before : (at c e : ℕ) (s : List Span) → AreApart c e s → cut_last at (front (begins_before at) s) ≡ before at s
cut_before at c e [] apart = refl
cut_before at c e (p ∷ []) apart = cases (begins_before at p) refl
  where
    cases : (v : Bool) → begins_before at p ≡ v → cut_last at (front (begins_before at) (p ∷ [])) ≡ before at (p ∷ [])
    cases true f = rw f refl
    cases false f = rw f refl
cut_before at c e (p ∷ q ∷ s) apart = cases (begins_before at p) (begins_before at q) refl refl (cut_before at (suc p.to) e (q ∷ s) apart.3)
  where
    whole : begins_before at q ≡ true → span p.from (min p.to at) ≡ p
    whole f = let m : min p.to at ≡ p.to = omega (arith, ltb-true q.from at f, apart.3.0) in ap (λ n. span p.from n) m

    cases : (v w : Bool) → begins_before at p ≡ v → begins_before at q ≡ w → cut_last at (front (begins_before at) (q ∷ s)) ≡ before at (q ∷ s) → cut_last at (front (begins_before at) (p ∷ q ∷ s)) ≡ before at (p ∷ q ∷ s)
    cases true true f h more =
        let inner : cut_last at (q ∷ front (begins_before at) s) ≡ span q.from (min q.to at) ∷ before at s = rw h at more in
        rw f (rw h (rw (whole h) (ap (λ l. p ∷ l) inner)))
    cases true false f h more = rw f (rw h refl)
    cases false w f h more = rw f refl

pub apart_before : (at c e : ℕ) (s : List Span) → AreApart c e s → AreApart c at (before at s)
apart_before at c e [] apart = tt
apart_before at c e (p ∷ s) apart = cond_both (begins_before at p) (span p.from (min p.to at) ∷ before at s) [] (λ l. AreApart c at l)
    (λ f. (apart.0, omega (arith, apart.1, ltb-true p.from at f), omega arith, later (apart_before at (suc p.to) e s apart.3)))
    (λ f. tt)
  where
    later : AreApart (suc p.to) at (before at s) → AreApart (suc (min p.to at)) at (before at s)
    later h = apart_later (suc (min p.to at)) (suc p.to) at (before at s) (omega arith) h

pub covers_before : (at c e : ℕ) (s : List Span) (t : ℕ) → AreApart c e s → covers (before at s) t ≡ (ltb t at && covers s t)
covers_before at c e [] t apart = sym (and-false (ltb t at))
covers_before at c e (p ∷ s) t apart = cases (begins_before at p) refl (covers_before at (suc p.to) e s t apart.3)
  where
    cut : p.from < at → within p.from (min p.to at) t ≡ (ltb t at && within p.from p.to t)
    cut lt = grind (arith, nat_tests)

    late : at ≤ p.from → (ltb t at && (within p.from p.to t || covers s t)) ≡ false
    late le = split (ltb t at) refl
      where
        split : (v : Bool) → ltb t at ≡ v → (v && (within p.from p.to t || covers s t)) ≡ false
        split true f =
            let lt : t < at = ltb-true t at f in
            rw (within_low p.from p.to t (omega (arith, lt, le))) (covers_low (suc p.to) e s t apart.3 (omega (arith, lt, le, apart.1)))
        split false f = refl

    cases : (v : Bool) → begins_before at p ≡ v → covers (before at s) t ≡ (ltb t at && covers s t) → covers (before at (p ∷ s)) t ≡ (ltb t at && covers (p ∷ s) t)
    cases true f more = rw f (rw (cut (ltb-true p.from at f)) (rw more (sym (and-or_distrib_left (ltb t at) (within p.from p.to t) (covers s t)))))
    cases false f more = rw f (sym (late (ltb-false p.from at f)))

pub apart_behind : (at c e : ℕ) (s : List Span) → AreApart c e s → AreApart at e (behind at s)
apart_behind at c e [] apart = tt
apart_behind at c e (p ∷ s) apart = cond_both (ends_by at p) (behind at s) (span (max p.from at) p.to ∷ s) (λ l. AreApart at e l)
    (λ f. apart_behind at (suc p.to) e s apart.3)
    (λ f. (omega arith, omega (arith, apart.1, leb-false p.to at f), apart.2, apart.3))

pub covers_behind : (at c e : ℕ) (s : List Span) (t : ℕ) → AreApart c e s → covers (behind at s) t ≡ (leb at t && covers s t)
covers_behind at c e [] t apart = sym (and-false (leb at t))
covers_behind at c e (p ∷ s) t apart = cases (ends_by at p) refl (covers_behind at (suc p.to) e s t apart.3)
  where
    cut : at < p.to → within (max p.from at) p.to t ≡ (leb at t && within p.from p.to t)
    cut lt = grind (arith, nat_tests)

    early : p.to ≤ at → (leb at t && within p.from p.to t) ≡ false
    early le = grind (arith, nat_tests)

    rest : at < p.to → covers s t ≡ (leb at t && covers s t)
    rest lt = split (leb at t) refl
      where
        split : (v : Bool) → leb at t ≡ v → covers s t ≡ (v && covers s t)
        split true f = refl
        split false f = covers_low (suc p.to) e s t apart.3 (omega (arith, lt, leb-false at t f))

    cases : (v : Bool) → ends_by at p ≡ v → covers (behind at s) t ≡ (leb at t && covers s t) → covers (behind at (p ∷ s)) t ≡ (leb at t && covers (p ∷ s) t)
    cases true f more = rw f (more ∙ (ap (λ b. b || (leb at t && covers s t)) (sym (early (leb-true p.to at f))) ∙ sym (and-or_distrib_left (leb at t) (within p.from p.to t) (covers s t))))
    cases false f more =
        let lt : at < p.to = leb-false p.to at f in
        rw f (rw (cut lt) (ap (λ b. (leb at t && within p.from p.to t) || b) (rest lt) ∙ sym (and-or_distrib_left (leb at t) (within p.from p.to t) (covers s t))))

-- what lies behind a moment, by the place of the first that reaches past it
pub behind_some : (at i : ℕ) (s : List Span) (p : Span) → drop i s ≡ back (ends_by at) s → i < length s → p ≡ get_or s i p → behind at s ≡ span (max p.from at) p.to ∷ drop (i + 1) s
behind_some at i s p rest lt is =
    let same : suc i ≡ i + 1 = omega arith in
    walk s p (drop (i + 1) s) (sym rest ∙ (drop_next s i p lt ∙ ap (λ q. q ∷ drop (suc i) s) (sym is) ∙ ap (λ n. p ∷ drop n s) same))
  where
    walk : (s : List Span) (p : Span) (more : List Span) → back (ends_by at) s ≡ p ∷ more → behind at s ≡ span (max p.from at) p.to ∷ more
    walk [] p more e = absurd (cc)
    walk (q ∷ s) p more e = cases (ends_by at q) refl (walk s p more)
      where
        cases : (v : Bool) → ends_by at q ≡ v → (back (ends_by at) s ≡ p ∷ more → behind at s ≡ span (max p.from at) p.to ∷ more) → behind at (q ∷ s) ≡ span (max p.from at) p.to ∷ more
        cases true f go = rw f (go (sym (rw f refl) ∙ e))
        cases false f go = let h : q ∷ s ≡ p ∷ more = sym (rw f refl) ∙ e in rw f (heads h)
          where
            heads : q ∷ s ≡ p ∷ more → span (max q.from at) q.to ∷ s ≡ span (max p.from at) p.to ∷ more
            heads h =
                let a : q ≡ p = cc in
                let b : s ≡ more = cc in
                ap (λ (r : Span). span (max r.from at) r.to ∷ s) a ∙ ap (λ l. span (max p.from at) p.to ∷ l) b

pub behind_none : (at i : ℕ) (s : List Span) → drop i s ≡ back (ends_by at) s → length s ≤ i → behind at s ≡ []
behind_none at i s rest le = walk s (sym rest ∙ drop_all i s le)
  where
    walk : (s : List Span) → back (ends_by at) s ≡ [] → behind at s ≡ []
    walk [] e = refl
    walk (q ∷ s) e = cases (ends_by at q) refl (walk s)
      where
        cases : (v : Bool) → ends_by at q ≡ v → (back (ends_by at) s ≡ [] → behind at s ≡ []) → behind at (q ∷ s) ≡ []
        cases true f go = rw f (go (sym (rw f refl) ∙ e))
        cases false f go = let h : q ∷ s ≡ [] = sym (rw f refl) ∙ e in absurd (cc)

pub joined_nil : (s : List Span) → joined s [] ≡ s
joined_nil [] = refl
joined_nil (p ∷ []) = refl
joined_nil (p ∷ q ∷ s) = ap (λ l. p ∷ l) (joined_nil (q ∷ s))

pub apart_drop : (c e i : ℕ) (s : List Span) → AreApart c e s → AreApart c e (drop i s)
apart_drop c e zero s apart = apart
apart_drop c e (suc i) [] apart = tt
apart_drop c e (suc i) (p ∷ s) apart = apart_drop c e i s (apart_later c (suc p.to) e s (omega (arith, apart.0, apart.1)) apart.3)
