-- Lists of ids that rise: the same members, the same list.
use Rattle.std.proofs.Common.{◌≡◌, ℕ, zero, suc, ◌<◌, ◌≤◌, eqb, Bool, true, false, List, [], ◌∷◌, length, get_or, refl, sym, ◌∙◌, arith, add-one, nat_cmp, Less, ◌⊎◌, ⊎_elim}
use Rattle.std.specs.Prelude.{All, filter, ◌||◌}
use Rattle.std.specs.List.{list_any}
use Rattle.std.specs.List.Sorted.{IsStrictlyIncreasing, IsStrictlySortedBy}
use Rattle.std.proofs.lemmas.Bool.{eq-eqb, ne_eqb, eqb-true, cases_order}
use Rattle.std.proofs.lemmas.Cmp.{ranked}
use Rattle.std.proofs.lemmas.List.Elements.{All-weaker}
use Rattle.std.proofs.lemmas.Map.Views.{All-after_first}
use Rattle.std.proofs.lemmas.Map.Keys.{sorted_tail}

-- whether the id is there
abbrev pub among : ℕ → List ℕ → Bool
among q ids = list_any (λ i. eqb q i) ids

abbrev pub RiseIds : ℕ → List ℕ → Type 0
RiseIds c [] = Unit {0}
RiseIds c (n ∷ ids) = (c ≤ n) × RiseIds (suc n) ids

pub rise_weaker : (b c : ℕ) (ids : List ℕ) → b ≤ c → RiseIds c ids → RiseIds b ids
rise_weaker b c [] le rise = tt
rise_weaker b c (n ∷ ids) le rise = (omega (arith, le, rise.0), rise.1)

pub filter_rises : (p : ℕ → Bool) (c : ℕ) (ids : List ℕ) → RiseIds c ids → RiseIds c (filter p ids)
filter_rises p c [] rise = tt
filter_rises p c (n ∷ ids) rise = cases (p n) refl (filter_rises p (suc n) ids rise.1)
  where
    cases : (b : Bool) → p n ≡ b → RiseIds (suc n) (filter p ids) → RiseIds c (filter p (n ∷ ids))
    cases true e more = rw e (rise.0, more)
    cases false e more = rw e (rise_weaker c (suc n) (filter p ids) (omega (arith, rise.0)) more)

first_above : (c : ℕ) (ids : List ℕ) → RiseIds c ids → 0 < length ids → c ≤ get_or ids 0 0
first_above c [] rise lt = absurd (omega (arith, lt))
first_above c (n ∷ ids) rise lt = rise.0

increases_by : (c : ℕ) (ids : List ℕ) → RiseIds c ids → (k : ℕ) → suc k < length ids → get_or ids k 0 < get_or ids (suc k) 0
increases_by c [] rise k lt = absurd (omega (arith, lt))
increases_by c (n ∷ ids) rise zero lt = first_above (suc n) ids rise.1 (omega (arith, lt))
increases_by c (n ∷ ids) rise (suc k) lt = increases_by (suc n) ids rise.1 k (omega (arith, lt))

pub increases : (c : ℕ) (ids : List ℕ) → RiseIds c ids → IsStrictlyIncreasing ids
increases c ids rise k lt = rw add-one (increases_by c ids rise k (omega (arith, lt)))

-- sorted keys rise
pub sorted_rises : (c : ℕ) (ids : List ℕ) → All (λ x. c ≤ x) ids → IsStrictlySortedBy nat_cmp ids → RiseIds c ids
sorted_rises c [] all sorted = tt
sorted_rises c (n ∷ ids) all sorted =
    (all 0 0 (omega arith), sorted_rises (suc n) ids (All-weaker (λ q. nat_cmp n q ≡ Less) (λ q. suc n ≤ q) (λ q less. let lt : n < q = ranked n q _ (sym less) in omega (arith, lt)) ids (All-after_first nat_cmp n ids sorted)) (sorted_tail nat_cmp n ids sorted))

-- no smaller id is there
pub none_less : (c q : ℕ) (ids : List ℕ) → RiseIds c ids → q < c → among q ids ≡ false
none_less c q [] rise lt = refl
none_less c q (n ∷ ids) rise lt = rw (ne_eqb q n (λ e. omega (arith, lt, rise.0, e))) (none_less (suc n) q ids rise.1 (omega (arith, lt, rise.0)))

pub same_rising : (c : ℕ) (ids others : List ℕ) → RiseIds c ids → RiseIds c others → ((q : ℕ) → among q ids ≡ among q others) → ids ≡ others
same_rising c [] [] rise rises same = refl
same_rising c [] (j ∷ others) rise rises same = absurd (let bad : false ≡ true = same j ∙ rw (eq-eqb j j refl) refl in cc)
same_rising c (i ∷ ids) [] rise rises same = absurd (let bad : true ≡ false = sym (rw (eq-eqb i i refl) refl) ∙ same i in cc)
same_rising c (i ∷ ids) (j ∷ others) rise rises same = by_order (cases_order i j) (λ e. same_rising (suc i) ids others rise.1 (rw e rises.1))
  where
    later : (e : i ≡ j) (q : ℕ) → among q ids ≡ among q others
    later e q = by_id (eqb q i) refl
      where
        by_id : (b : Bool) → eqb q i ≡ b → among q ids ≡ among q others
        by_id true f =
            let is = eqb-true q i f in
            none_less (suc i) q ids rise.1 (omega (arith, is)) ∙ sym (none_less (suc j) q others rises.1 (omega (arith, is, e)))
        by_id false f =
            let g : eqb q j ≡ false = rw (sym e) f in
            let both : (eqb q i || among q ids) ≡ (eqb q j || among q others) = same q in
            rw (f, g) at both

    by_order : (i ≡ j) ⊎ ((i < j) ⊎ (j < i)) → ((e : i ≡ j) → ((q : ℕ) → among q ids ≡ among q others) → ids ≡ others) → i ∷ ids ≡ j ∷ others
    by_order o more = ⊎_elim
        (λ (e : i ≡ j). rw (e, more e (later e)) refl)
        (λ o. ⊎_elim
        (λ (lt : i < j). absurd (let bad : true ≡ false = sym (rw (eq-eqb i i refl) refl) ∙ (same i ∙ none_less j i (j ∷ others) (omega arith, rises.1) lt) in cc))
        (λ (gt : j < i). absurd (let bad : true ≡ false = sym (rw (eq-eqb j j refl) refl) ∙ (sym (same j) ∙ none_less i j (i ∷ ids) (omega arith, rise.1) gt) in cc))
        o)
        o
