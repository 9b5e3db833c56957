-- Where an id stands among activities of rising ids, and what a search for it finds.
use Rattle.std.proofs.Common.{◌≡◌, ◌≢◌, ⊎_elim, ℕ, zero, suc, ◌+◌, ◌-◌, ◌<◌, ◌≤◌, eqb, ltb, Bool, true, false, List, [], ◌∷◌, length, get_or, take, set, Some, None, Result, Ok, Err, IfOk, IfErr, refl, sym, ap, ◌∙◌, subst, arith}
use Rattle.std.specs.List.{All, insert, remove, slice_get}
use Rattle.std.specs.List.Sorted.{IsSearchInRange, IsBinarySearchResult, IsNonDecreasingBy}
use Rattle.std.specs.Ordering.{nat_cmp, ordering_index}
use Rattle.std.proofs.lemmas.Cmp.{ranked}
use Rattle.std.proofs.lemmas.Bool.{cases_lt, eq-eqb, ne_eqb, lt-ltb, le-ltb, ltb-true, ltb-false, eqb-true, eqb-false}
use Rattle.std.proofs.lemmas.Bool.Decides.{nat_tests}
use Rattle.std.proofs.lemmas.Option.{slice_get_within, slice_get-get_or, get_or_from_slice_get}
use Rattle.pl_lists.proofs.Listing as listing
use Rattle.pl_plan.specs.declared.activity.Activity.{Activity}
use Rattle.pl_plan.specs.Activities.{RiseFrom, AreRising, activity_of, placed, without, exchanged}
use Rattle.pl_plan.specs.Places.{IsPlaceOf, IsGapFor}

-- ids do not lie below where they begin to rise
pub rises_above : (xs : List Activity) (c i : ℕ) (d : Activity) → RiseFrom c xs → i < length xs → c ≤ (get_or xs i d).id
rises_above [] c i d rising lt = absurd (omega (arith, lt))
rises_above (x ∷ xs) c zero d rising lt = rising.0
rises_above (x ∷ xs) c (suc i) d rising lt = omega (arith, rising.0, rises_above xs (suc x.id) i d rising.1 (omega (arith, lt)))

pub rises_between : (xs : List Activity) (c i j : ℕ) (d : Activity) → RiseFrom c xs → i < j → j < length xs → (get_or xs i d).id < (get_or xs j d).id
rises_between [] c i j d rising lt in_range = absurd (omega (arith, in_range))
rises_between (x ∷ xs) c i zero d rising lt in_range = absurd (omega (arith, lt))
rises_between (x ∷ xs) c zero (suc j) d rising lt in_range = omega (arith, rises_above xs (suc x.id) j d rising.1 (omega (arith, in_range)))
rises_between (x ∷ xs) c (suc i) (suc j) d rising lt in_range = rises_between xs (suc x.id) i j d rising.1 (omega (arith, lt)) (omega (arith, in_range))

pub found_at : (xs : List Activity) (c i id : ℕ) (d : Activity) → RiseFrom c xs → i < length xs → (get_or xs i d).id ≡ id → activity_of id xs ≡ Some (get_or xs i d)
found_at [] c i id d rising lt is = absurd (omega (arith, lt))
found_at (x ∷ xs) c zero id d rising lt is = rw (eq-eqb x.id id is) refl
found_at (x ∷ xs) c (suc i) id d rising lt is =
    let in_range : i < length xs = omega (arith, lt) in
    let above = rises_above xs (suc x.id) i d rising.1 in_range in
    rw (ne_eqb x.id id (λ e. omega (arith, above, is, e))) (found_at xs (suc x.id) i id d rising.1 in_range is)

taken_at : (xs : List Activity) (c i id : ℕ) (d : Activity) → RiseFrom c xs → i < length xs → (get_or xs i d).id ≡ id → without id xs ≡ remove xs i
taken_at [] c i id d rising lt is = absurd (omega (arith, lt))
taken_at (x ∷ xs) c zero id d rising lt is = rw (eq-eqb x.id id is) refl
taken_at (x ∷ xs) c (suc i) id d rising lt is =
    let in_range : i < length xs = omega (arith, lt) in
    let above = rises_above xs (suc x.id) i d rising.1 in_range in
    rw (ne_eqb x.id id (λ e. omega (arith, above, is, e))) (ap (λ l. x ∷ l) (taken_at xs (suc x.id) i id d rising.1 in_range is))

pub others_keep : (a : Activity) (xs : List Activity) (c : ℕ) → RiseFrom c xs → a.id < c → exchanged a xs ≡ xs
others_keep a [] c rising lt = refl
others_keep a (x ∷ xs) c rising lt =
    let more = others_keep a xs (suc x.id) rising.1 (omega (arith, lt, rising.0)) in
    rw (ne_eqb x.id a.id (λ e. omega (arith, lt, rising.0, e))) (ap (λ l. x ∷ l) more)

changed_at : (a : Activity) (xs : List Activity) (c i : ℕ) (d : Activity) → RiseFrom c xs → i < length xs → (get_or xs i d).id ≡ a.id → exchanged a xs ≡ set xs i a
changed_at a [] c i d rising lt is = absurd (omega (arith, lt))
changed_at a (x ∷ xs) c zero d rising lt is = rw (eq-eqb x.id a.id is) (ap (λ l. a ∷ l) (others_keep a xs (suc x.id) rising.1 (omega (arith, is))))
changed_at a (x ∷ xs) c (suc i) d rising lt is =
    let in_range : i < length xs = omega (arith, lt) in
    let above = rises_above xs (suc x.id) i d rising.1 in_range in
    rw (ne_eqb x.id a.id (λ e. omega (arith, above, is, e))) (ap (λ l. x ∷ l) (changed_at a xs (suc x.id) i d rising.1 in_range is))

-- smaller ids before the place, and larger ones from it on
record IsGap (id : ℕ) (xs : List Activity) (at : ℕ) : Type 0 where
  in_range : at ≤ length xs
  before : (k : ℕ) (d : Activity) → k < at → (get_or xs k d).id < id
  behind : (k : ℕ) (d : Activity) → at ≤ k → k < length xs → id < (get_or xs k d).id

gap_tail : (id : ℕ) (x : Activity) (xs : List Activity) (at : ℕ) → IsGap id (x ∷ xs) (suc at) → IsGap id xs at
gap_tail id x xs at gap = record {
  in_range = omega (arith, gap.in_range);
  before = λ k d lt. gap.before (suc k) d (omega (arith, lt));
  behind = λ k d le lt. gap.behind (suc k) d (omega (arith, le)) (omega (arith, lt));
}

gap_later : (id : ℕ) (x : Activity) (xs : List Activity) → IsGap id (x ∷ xs) zero → IsGap id xs zero
gap_later id x xs gap = record {
  in_range = omega arith;
  before = λ k d lt. absurd (omega (arith, lt));
  behind = λ k d le lt. gap.behind (suc k) d (omega arith) (omega (arith, lt));
}

none_in_gap : (id : ℕ) (xs : List Activity) (at : ℕ) → IsGap id xs at → activity_of id xs ≡ None
none_in_gap id [] at gap = refl
none_in_gap id (x ∷ xs) zero gap = rw (ne_eqb x.id id (λ e. omega (arith, gap.behind 0 x (omega arith) (omega arith), e))) (none_in_gap id xs zero (gap_later id x xs gap))
none_in_gap id (x ∷ xs) (suc at) gap = rw (ne_eqb x.id id (λ e. omega (arith, gap.before 0 x (omega arith), e))) (none_in_gap id xs at (gap_tail id x xs at gap))

pub without_none : (id : ℕ) (xs : List Activity) → activity_of id xs ≡ None → without id xs ≡ xs
without_none id [] none = refl
without_none id (x ∷ xs) none = cases (eqb x.id id) refl (without_none id xs)
  where
    cases : (b : Bool) → eqb x.id id ≡ b → (activity_of id xs ≡ None → without id xs ≡ xs) → without id (x ∷ xs) ≡ x ∷ xs
    cases true e more = let found : Some x ≡ None = rw e at none in absurd (cc)
    cases false e more = let rest : activity_of id xs ≡ None = rw e at none in rw e (ap (λ l. x ∷ l) (more rest))

absent_in_gap : (id : ℕ) (xs : List Activity) (at : ℕ) → IsGap id xs at → All (λ a. a.id ≢ id) xs
absent_in_gap id xs at gap k d lt is = ⊎_elim (λ (before : k < at). let less = gap.before k d before in omega (arith, less, is)) (λ (behind : at ≤ k). let more = gap.behind k d behind lt in omega (arith, more, is)) (cases_lt k at)

put_in_gap : (id : ℕ) (xs : List Activity) (at : ℕ) → IsGap id xs at → (a : Activity) → a.id ≡ id → placed a xs ≡ insert xs at a
put_in_gap id [] zero gap a is = refl
put_in_gap id [] (suc at) gap a is = absurd (omega (arith, gap.in_range))
put_in_gap id (x ∷ xs) zero gap a is = rw (le-ltb x.id a.id (omega (arith, gap.behind 0 x (omega arith) (omega arith), is))) refl
put_in_gap id (x ∷ xs) (suc at) gap a is = rw (lt-ltb x.id a.id (omega (arith, gap.before 0 x (omega arith), is))) (ap (λ l. x ∷ l) (put_in_gap id xs at (gap_tail id x xs at gap) a is))

no_activity : Activity
no_activity = record { id = 0; kind = 0; start = 0; parent = None; goal = None; detail = None; set = []; measured = None }

module _ (xs : List Activity) (rising : AreRising xs) (id : ℕ) where
  up_to : (i j : ℕ) (d : Activity) → i ≤ j → j < length xs → (get_or xs i d).id ≤ (get_or xs j d).id
  up_to i j d le in_range = grind (arith, rises_between xs 0 i j d rising, λ (same : i ≡ j). ap (λ n. (get_or xs n d).id) same)

  comparisons_rise : IsNonDecreasingBy (λ a. ordering_index (nat_cmp a.id id)) xs
  comparisons_rise i j d le in_range =
      let ids_rise : (get_or xs i d).id ≤ (get_or xs j d).id = up_to i j d le in_range in
      grind (arith, nat_tests)

  found_place : (at : ℕ) → at < length xs → ((d : Activity) → (get_or xs at d).id ≡ id) → IsPlaceOf id xs at
  found_place at in_range is = record {
    in_range = in_range;
    here = λ d. found_at xs 0 at id d rising in_range (is d);
    present = λ all. let d = no_activity in all at d in_range (is d);
    is = is;
    taken = let d = no_activity in taken_at xs 0 at id d rising in_range (is d);
    changed = λ a same. let d = no_activity in changed_at a xs 0 at d rising in_range (is d ∙ sym same);
  }

  found_gap : (at : ℕ) → IsGap id xs at → IsGapFor id xs at
  found_gap at gap = record {
    in_range = gap.in_range;
    none = none_in_gap id xs at gap;
    absent = absent_in_gap id xs at gap;
    same = without_none id xs (none_in_gap id xs at gap);
    put = put_in_gap id xs at gap;
  }

  pub searched : (r : Result ℕ ℕ) → IsSearchInRange r (length xs) → IsBinarySearchResult (λ a. nat_cmp a.id id) xs r → record { found : IfOk r (IsPlaceOf id xs); absent : IfErr r (IsGapFor id xs) }
  searched (Ok at) in_range equal = record { found = found_place at in_range (λ d. ranked _ id _ (sym (equal d))); absent = tt }
  searched (Err at) in_range parted = record {
    found = tt;
    absent = found_gap at (record {
      in_range = in_range;
      before = λ k d lt. ranked _ id _ (sym ((parted comparisons_rise).0 k d (omega arith) lt));
      behind = λ k d le lt. ranked _ id _ (sym ((parted comparisons_rise).1 k d le lt));
    });
  }

  -- what was guessed is right
  pub guessed : (at : ℕ) (a : Activity) → slice_get xs at ≡ Some a → a.id ≡ id → IsPlaceOf id xs at
  guessed at a here same = found_place at (slice_get_within xs at a here) (λ d. ap (λ (b : Activity). b.id) (get_or_from_slice_get xs at a d here) ∙ same)

  -- an id above the last one
  pub above_last : (a : Activity) → slice_get xs (length xs - 1) ≡ Some a → a.id < id → IsGapFor id xs (length xs)
  above_last a here less = found_gap (length xs) (record {
    in_range = omega arith;
    before = λ k d lt.
        let last : (get_or xs (length xs - 1) d).id ≡ a.id = ap (λ (b : Activity). b.id) (get_or_from_slice_get xs (length xs - 1) a d here) in
        omega (arith, up_to k (length xs - 1) d (omega (arith, lt)) (omega (arith, lt)), last, less);
    behind = λ k d le lt. absurd (omega (arith, le, lt));
  })

  -- any id, where there is no activity
  pub above_none : slice_get xs (length xs - 1) ≡ None → IsGapFor id xs (length xs)
  above_none none = found_gap (length xs) (record {
    in_range = omega arith;
    before = λ k d lt.
        let there : slice_get xs (length xs - 1) ≡ Some (get_or xs (length xs - 1) d) = slice_get-get_or xs (length xs - 1) d (omega (arith, lt)) in
        absurd (cc);
    behind = λ k d le lt. absurd (omega (arith, le, lt));
  })

pub rising-without : (id c : ℕ) (xs : List Activity) → RiseFrom c xs → RiseFrom c (without id xs)
rising-without id c xs rising = listing.rising-without (λ a. a.id) (λ a. eqb a.id id) c xs rising

pub rising-placed : (a : Activity) (c : ℕ) (xs : List Activity) → activity_of a.id xs ≡ None → c ≤ a.id → RiseFrom c xs → RiseFrom c (placed a xs)
rising-placed a c [] none le rising = (le, tt)
rising-placed a c (x ∷ xs) none le rising = cases (eqb x.id a.id) refl (λ rest lt. rising-placed a (suc x.id) xs rest lt rising.1)
  where
    above : (b : Bool) → ltb x.id a.id ≡ b → (x.id ≡ a.id → ⊥) → activity_of a.id xs ≡ None → (activity_of a.id xs ≡ None → suc x.id ≤ a.id → RiseFrom (suc x.id) (placed a xs)) → RiseFrom c (placed a (x ∷ xs))
    above true e ne rest more = rw e (rising.0, more rest (ltb-true x.id a.id e))
    above false e ne rest more = let at_most : a.id ≤ x.id = ltb-false x.id a.id e in rw e (le, (grind (arith, at_most, ne), rising.1))

    cases : (b : Bool) → eqb x.id a.id ≡ b → (activity_of a.id xs ≡ None → suc x.id ≤ a.id → RiseFrom (suc x.id) (placed a xs)) → RiseFrom c (placed a (x ∷ xs))
    cases true e more = let found : Some x ≡ None = rw e at none in absurd (cc)
    cases false e more = let rest : activity_of a.id xs ≡ None = rw e at none in above (ltb x.id a.id) refl (eqb-false x.id a.id e) rest more

pub length-placed : (a : Activity) (xs : List Activity) → length (placed a xs) ≡ length xs + 1
length-placed a [] = refl
length-placed a (x ∷ xs) = cases (ltb x.id a.id) refl (length-placed a xs)
  where
    cases : (b : Bool) → ltb x.id a.id ≡ b → length (placed a xs) ≡ length xs + 1 → length (placed a (x ∷ xs)) ≡ length (x ∷ xs) + 1
    cases true e more = rw e (omega (arith, more))
    cases false e more = rw e (omega arith)

pub length-without : (id : ℕ) (xs : List Activity) → length (without id xs) ≤ length xs
length-without id xs = listing.length-without (λ a. eqb a.id id) xs

pub rising-exchanged : (a : Activity) (c : ℕ) (xs : List Activity) → RiseFrom c xs → RiseFrom c (exchanged a xs)
rising-exchanged a c [] rising = tt
rising-exchanged a c (x ∷ xs) rising = cases (eqb x.id a.id) refl (rising-exchanged a (suc x.id) xs rising.1)
  where
    cases : (b : Bool) → eqb x.id a.id ≡ b → RiseFrom (suc x.id) (exchanged a xs) → RiseFrom c (exchanged a (x ∷ xs))
    cases true e more =
        let same = eqb-true x.id a.id e in
        let P : ℕ → Type 0 = λ n. (c ≤ n) × RiseFrom (suc n) (exchanged a xs) in
        rw e (subst P same (rising.0, more))
    cases false e more = rw e (rising.0, more)

-- what stands at a place is not before it, and follows what is
pub next_absent : (xs : List Activity) (c k : ℕ) (d : Activity) → RiseFrom c xs → k < length xs → activity_of (get_or xs k d).id (take k xs) ≡ None
next_absent [] c k d rising lt = absurd (omega (arith, lt))
next_absent (x ∷ xs) c zero d rising lt = refl
next_absent (x ∷ xs) c (suc k) d rising lt =
    let in_range : k < length xs = omega (arith, lt) in
    let above = rises_above xs (suc x.id) k d rising.1 in_range in
    rw (ne_eqb x.id (get_or xs k d).id (λ e. omega (arith, above, e))) (next_absent xs (suc x.id) k d rising.1 in_range)

pub next_placed : (xs : List Activity) (c k : ℕ) (d : Activity) → RiseFrom c xs → k < length xs → placed (get_or xs k d) (take k xs) ≡ take (suc k) xs
next_placed [] c k d rising lt = absurd (omega (arith, lt))
next_placed (x ∷ xs) c zero d rising lt = refl
next_placed (x ∷ xs) c (suc k) d rising lt =
    let in_range : k < length xs = omega (arith, lt) in
    let above = rises_above xs (suc x.id) k d rising.1 in_range in
    rw (lt-ltb x.id (get_or xs k d).id (omega (arith, above))) (ap (λ l. x ∷ l) (next_placed xs (suc x.id) k d rising.1 in_range))
