-- Where an id stands among entries of rising ids, and what a search for it finds.
use Rattle.std.proofs.Common.{◌≡◌, ◌≢◌, ℕ, zero, suc, ◌-◌, ◌<◌, ◌≤◌, eqb, Bool, true, false, cond, [], ◌∷◌, length, get_or, set, Option, Some, None, Result, Ok, Err, IfOk, IfErr, refl, sym, ap, ◌∙◌, subst, arith}
use Rattle.std.specs.List.{insert, remove, slice_get}
use Rattle.std.specs.List.Sorted.{IsSearchInRange, IsBinarySearchResult, IsNonDecreasingBy}
use Rattle.std.specs.Ordering.{nat_cmp, ordering_index}
use Rattle.std.proofs.lemmas.Cmp.{ranked}
use Rattle.std.proofs.lemmas.Bool.{eq-eqb, ne_eqb, eqb-true}
use Rattle.std.proofs.lemmas.Bool.Decides.{nat_tests}
use Rattle.std.proofs.lemmas.Option.{slice_get-get_or, get_or_from_slice_get}
use Rattle.pl_lists.proofs.Listing.{rising_from}
use Rattle.pl_plan.specs.declared.evaluated.Evaluated.{Evaluated}
use Rattle.pl_update.specs.Evaluations.Kept.{Entries, RiseFrom, AreRising, kept_at}
use Rattle.pl_update.specs.Evaluations.Places.{IsPlaceOf, IsGapFor}

-- ---- rising ids

rises_above : (es : Entries) (c i : ℕ) (d : ℕ × Evaluated) → RiseFrom c es → i < length es → c ≤ (get_or es i d).0
rises_above [] c i d rising lt = absurd (omega (arith, lt))
rises_above (x ∷ es) c zero d rising lt = rising.0
rises_above (x ∷ es) c (suc i) d rising lt = omega (arith, rising.0, rises_above es (suc x.0) i d rising.1 (omega (arith, lt)))

rises_between : (es : Entries) (c i j : ℕ) (d : ℕ × Evaluated) → RiseFrom c es → i < j → j < length es → (get_or es i d).0 < (get_or es j d).0
rises_between [] c i j d rising lt in_range = absurd (omega (arith, in_range))
rises_between (x ∷ es) c i zero d rising lt in_range = absurd (omega (arith, lt))
rises_between (x ∷ es) c zero (suc j) d rising lt in_range = omega (arith, rises_above es (suc x.0) j d rising.1 (omega (arith, in_range)))
rises_between (x ∷ es) c (suc i) (suc j) d rising lt in_range = rises_between es (suc x.0) i j d rising.1 (omega (arith, lt)) (omega (arith, in_range))

-- a smaller id has no entry
none_less : (es : Entries) (c q : ℕ) → RiseFrom c es → q < c → kept_at q es ≡ None
none_less [] c q rising lt = refl
none_less (x ∷ es) c q rising lt = rw (ne_eqb x.0 q (λ e. omega (arith, rising.0, lt, e))) (none_less es (suc x.0) q rising.1 (omega (arith, rising.0, lt)))

-- ---- where the entry of an id stands

-- two tests for ids of which at most one passes, in either order
turned : (a b q : ℕ) (x y z : Option Evaluated) → a ≢ b → cond (eqb a q) x (cond (eqb b q) y z) ≡ cond (eqb b q) y (cond (eqb a q) x z)
turned a b q x y z apart = by (eqb a q) refl
  where
    by : (t : Bool) → eqb a q ≡ t → cond t x (cond (eqb b q) y z) ≡ cond (eqb b q) y (cond t x z)
    by true e = rw (ne_eqb b q (λ same. apart (eqb-true a q e ∙ sym same))) refl
    by false e = refl

found_at : (es : Entries) (c i id : ℕ) (d : ℕ × Evaluated) → RiseFrom c es → i < length es → (get_or es i d).0 ≡ id → kept_at id es ≡ Some (get_or es i d).1
found_at [] c i id d rising lt is = absurd (omega (arith, lt))
found_at (x ∷ es) c zero id d rising lt is = rw (eq-eqb x.0 id is) refl
found_at (x ∷ es) c (suc i) id d rising lt is =
    let in_range : i < length es = omega (arith, lt) in
    let above = rises_above es (suc x.0) i d rising.1 in_range in
    rw (ne_eqb x.0 id (λ e. omega (arith, above, is, e))) (found_at es (suc x.0) i id d rising.1 in_range is)

put_at : (e : Evaluated) (q : ℕ) (es : Entries) (c i id : ℕ) (d : ℕ × Evaluated) → RiseFrom c es → i < length es → (get_or es i d).0 ≡ id → kept_at q (set es i (id, e)) ≡ cond (eqb id q) (Some e) (kept_at q es)
put_at e q [] c i id d rising lt is = absurd (omega (arith, lt))
put_at e q (x ∷ es) c zero id d rising lt is = by (eqb id q) refl
  where
    by : (t : Bool) → eqb id q ≡ t → cond t (Some e) (kept_at q es) ≡ cond t (Some e) (kept_at q (x ∷ es))
    by true f = refl
    by false f = rw (ap (λ n. eqb n q) is ∙ f) refl
put_at e q (x ∷ es) c (suc i) id d rising lt is =
    let in_range : i < length es = omega (arith, lt) in
    let above = rises_above es (suc x.0) i d rising.1 in_range in
    ap (λ o. cond (eqb x.0 q) (Some x.1) o) (put_at e q es (suc x.0) i id d rising.1 in_range is)
    ∙ turned x.0 id q (Some x.1) (Some e) (kept_at q es) (λ same. omega (arith, above, is, same))

taken_at : (q : ℕ) (es : Entries) (c i id : ℕ) (d : ℕ × Evaluated) → RiseFrom c es → i < length es → (get_or es i d).0 ≡ id → kept_at q (remove es i) ≡ cond (eqb id q) None (kept_at q es)
taken_at q [] c i id d rising lt is = absurd (omega (arith, lt))
taken_at q (x ∷ es) c zero id d rising lt is = by (eqb id q) refl
  where
    by : (t : Bool) → eqb id q ≡ t → kept_at q es ≡ cond t None (kept_at q (x ∷ es))
    by true f = none_less es (suc x.0) q rising.1 (omega (arith, is, eqb-true id q f))
    by false f = rw (ap (λ n. eqb n q) is ∙ f) refl
taken_at q (x ∷ es) c (suc i) id d rising lt is =
    let in_range : i < length es = omega (arith, lt) in
    let above = rises_above es (suc x.0) i d rising.1 in_range in
    ap (λ o. cond (eqb x.0 q) (Some x.1) o) (taken_at q es (suc x.0) i id d rising.1 in_range is)
    ∙ turned x.0 id q (Some x.1) None (kept_at q es) (λ same. omega (arith, above, is, same))

rising_put : (e : Evaluated) (es : Entries) (c i id : ℕ) (d : ℕ × Evaluated) → RiseFrom c es → i < length es → (get_or es i d).0 ≡ id → RiseFrom c (set es i (id, e))
rising_put e [] c i id d rising lt is = absurd (omega (arith, lt))
rising_put e (x ∷ es) c zero id d rising lt is =
    let P : ℕ → Type 0 = λ n. (c ≤ n) × RiseFrom (suc n) es in
    subst P is rising
rising_put e (x ∷ es) c (suc i) id d rising lt is = (rising.0, rising_put e es (suc x.0) i id d rising.1 (omega (arith, lt)) is)

rising_taken : (es : Entries) (c i : ℕ) → RiseFrom c es → RiseFrom c (remove es i)
rising_taken [] c zero rising = tt
rising_taken [] c (suc i) rising = tt
rising_taken (x ∷ es) c zero rising = rising_from (λ (entry : ℕ × Evaluated). entry.0) c (suc x.0) es (omega (arith, rising.0)) rising.1
rising_taken (x ∷ es) c (suc i) rising = (rising.0, rising_taken es (suc x.0) i rising.1)

-- ---- where it would go

-- smaller ids before the place, and larger ones from it on
record IsGap (id : ℕ) (es : Entries) (at : ℕ) : Type 0 where
  in_range : at ≤ length es
  before : (k : ℕ) (d : ℕ × Evaluated) → k < at → (get_or es k d).0 < id
  behind : (k : ℕ) (d : ℕ × Evaluated) → at ≤ k → k < length es → id < (get_or es k d).0

gap_tail : (id : ℕ) (x : ℕ × Evaluated) (es : Entries) (at : ℕ) → IsGap id (x ∷ es) (suc at) → IsGap id es at
gap_tail id x es at gap = record {
  in_range = omega (arith, gap.in_range);
  before = λ k d lt. gap.before (suc k) d (omega (arith, lt));
  behind = λ k d le lt. gap.behind (suc k) d (omega (arith, le)) (omega (arith, lt));
}

gap_later : (id : ℕ) (x : ℕ × Evaluated) (es : Entries) → IsGap id (x ∷ es) zero → IsGap id es zero
gap_later id x es gap = record {
  in_range = omega arith;
  before = λ k d lt. absurd (omega (arith, lt));
  behind = λ k d le lt. gap.behind (suc k) d (omega arith) (omega (arith, lt));
}

none_in_gap : (id : ℕ) (es : Entries) (at : ℕ) → IsGap id es at → kept_at id es ≡ None
none_in_gap id [] at gap = refl
none_in_gap id (x ∷ es) zero gap = rw (ne_eqb x.0 id (λ e. omega (arith, gap.behind 0 x (omega arith) (omega arith), e))) (none_in_gap id es zero (gap_later id x es gap))
none_in_gap id (x ∷ es) (suc at) gap = rw (ne_eqb x.0 id (λ e. omega (arith, gap.before 0 x (omega arith), e))) (none_in_gap id es at (gap_tail id x es at gap))

put_in_gap : (e : Evaluated) (q id : ℕ) (es : Entries) (at : ℕ) → IsGap id es at → kept_at q (insert es at (id, e)) ≡ cond (eqb id q) (Some e) (kept_at q es)
put_in_gap e q id [] zero gap = refl
put_in_gap e q id [] (suc at) gap = absurd (omega (arith, gap.in_range))
put_in_gap e q id (x ∷ es) zero gap = refl
put_in_gap e q id (x ∷ es) (suc at) gap =
    ap (λ o. cond (eqb x.0 q) (Some x.1) o) (put_in_gap e q id es at (gap_tail id x es at gap))
    ∙ turned x.0 id q (Some x.1) (Some e) (kept_at q es) (λ same. omega (arith, gap.before 0 x (omega arith), same))

rising_in_gap : (e : Evaluated) (id c : ℕ) (es : Entries) (at : ℕ) → IsGap id es at → c ≤ id → RiseFrom c es → RiseFrom c (insert es at (id, e))
rising_in_gap e id c [] zero gap le rising = (le, tt)
rising_in_gap e id c [] (suc at) gap le rising = absurd (omega (arith, gap.in_range))
rising_in_gap e id c (x ∷ es) zero gap le rising = (le, (omega (arith, gap.behind 0 x (omega arith) (omega arith)), rising.1))
rising_in_gap e id c (x ∷ es) (suc at) gap le rising = (rising.0, rising_in_gap e id (suc x.0) es at (gap_tail id x es at gap) (omega (arith, gap.before 0 x (omega arith))) rising.1)

-- ---- what a search finds

no_entry : ℕ × Evaluated
no_entry = (0, record { values = []; amounts = []; end = None })

module _ (es : Entries) (rising : AreRising es) (id : ℕ) where
  up_to : (i j : ℕ) (d : ℕ × Evaluated) → i ≤ j → j < length es → (get_or es i d).0 ≤ (get_or es j d).0
  up_to i j d le in_range = grind (arith, rises_between es 0 i j d rising, λ (same : i ≡ j). ap (λ n. (get_or es n d).0) same)

  comparisons_rise : IsNonDecreasingBy (λ (e : ℕ × Evaluated). ordering_index (nat_cmp e.0 id)) es
  comparisons_rise i j d le in_range =
      let ids_rise : (get_or es i d).0 ≤ (get_or es j d).0 = up_to i j d le in_range in
      grind (arith, nat_tests)

  found_place : (at : ℕ) → at < length es → ((d : ℕ × Evaluated) → (get_or es at d).0 ≡ id) → IsPlaceOf id es at
  found_place at in_range is = record {
    in_range = in_range;
    is = is;
    here = λ d. found_at es 0 at id d rising in_range (is d);
    put = λ e q. put_at e q es 0 at id no_entry rising in_range (is no_entry);
    put_rise = λ e. rising_put e es 0 at id no_entry rising in_range (is no_entry);
    taken = λ q. taken_at q es 0 at id no_entry rising in_range (is no_entry);
    taken_rise = rising_taken es 0 at rising;
  }

  found_gap : (at : ℕ) → IsGap id es at → IsGapFor id es at
  found_gap at gap = record {
    in_range = gap.in_range;
    none = none_in_gap id es at gap;
    put = λ e q. put_in_gap e q id es at gap;
    put_rise = λ e. rising_in_gap e id 0 es at gap (omega arith) rising;
  }

  pub searched : (r : Result ℕ ℕ) → IsSearchInRange r (length es) → IsBinarySearchResult (λ (e : ℕ × Evaluated). nat_cmp e.0 id) es r → record { found : IfOk r (IsPlaceOf id es); absent : IfErr r (IsGapFor id es) }
  searched (Ok at) in_range equal = record { found = found_place at in_range (λ d. ranked _ id _ (sym (equal d))); absent = tt }
  searched (Err at) in_range parted = record {
    found = tt;
    absent = found_gap at (record {
      in_range = in_range;
      before = λ k d lt. ranked _ id _ (sym ((parted comparisons_rise).0 k d (omega arith) lt));
      behind = λ k d le lt. ranked _ id _ (sym ((parted comparisons_rise).1 k d le lt));
    });
  }

  -- an id above the last one
  pub above_last : (a : ℕ × Evaluated) → slice_get es (length es - 1) ≡ Some a → a.0 < id → IsGapFor id es (length es)
  above_last a here less = found_gap (length es) (record {
    in_range = omega arith;
    before = λ k d lt.
        let last : (get_or es (length es - 1) d).0 ≡ a.0 = ap (λ (b : ℕ × Evaluated). b.0) (get_or_from_slice_get es (length es - 1) a d here) in
        omega (arith, up_to k (length es - 1) d (omega (arith, lt)) (omega (arith, lt)), last, less);
    behind = λ k d le lt. absurd (omega (arith, le, lt));
  })

  -- any id, where there is no entry
  pub above_none : slice_get es (length es - 1) ≡ None → IsGapFor id es (length es)
  above_none none = found_gap (length es) (record {
    in_range = omega arith;
    before = λ k d lt.
        let there : slice_get es (length es - 1) ≡ Some (get_or es (length es - 1) d) = slice_get-get_or es (length es - 1) d (omega (arith, lt)) in
        absurd (cc);
    behind = λ k d le lt. absurd (omega (arith, le, lt));
  })
