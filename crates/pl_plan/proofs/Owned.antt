-- The activities under a number, by an index and by a test of each.
use Rattle.std.proofs.Common.{◌≡◌, ℕ, suc, ◌≤◌, eqb, Bool, true, false, List, [], ◌∷◌, map, Option, None, refl, sym, ◌∙◌, arith, is_some, arith}
use Rattle.std.specs.Prelude.{All, filter, option_and_then, slice_get}
use Rattle.std.specs.List.{list_any}
use Rattle.std.specs.List.Sorted.{IsStrictlyIncreasing}
use Rattle.std.proofs.lemmas.Bool.{eq-eqb, ne_eqb, eqb-true, eqb-false}
use Rattle.pl_plan.specs.declared.activity.Activity.{Activity}
use Rattle.pl_plan.specs.Activities.{RiseFrom, AreRising, activity_of}
use Rattle.pl_plan.specs.Index.{is_number, ids_under, IsIndexOf}
use Rattle.pl_plan.specs.Trees.{id_of}
use Rattle.pl_plan.proofs.Lookups.{none_below}
use Rattle.pl_plan.proofs.RisingIds.{RiseIds, among, rise_weaker, same_rising, sorted_rises}
use Rattle.std.proofs.lemmas.Map.Keys.{sorted_from_strictly_increasing}
use Rattle.pl_plan.proofs.Pairs.{under_among}

pub chosen_rise : (pass : Activity → Bool) (c : ℕ) (xs : List Activity) → RiseFrom c xs → RiseIds c (map id_of (filter pass xs))
chosen_rise pass c [] rising = tt
chosen_rise pass c (x ∷ xs) rising = cases (pass x) refl (chosen_rise pass (suc x.id) xs rising.1)
  where
    cases : (b : Bool) → pass x ≡ b → RiseIds (suc x.id) (map id_of (filter pass xs)) → RiseIds c (map id_of (filter pass (x ∷ xs)))
    cases true e more = rw e (rising.0, more)
    cases false e more = rw e (rise_weaker c (suc x.id) (map id_of (filter pass xs)) (omega (arith, rising.0)) more)

module _ (owner : Activity → Option ℕ) (n : ℕ) where
  abbrev pub owned : List Activity → List ℕ
  owned xs = map id_of (filter (λ a. is_number n (owner a)) xs)

  pub owned_among : (c : ℕ) (xs : List Activity) (q : ℕ) → RiseFrom c xs → among q (owned xs) ≡ is_number n (option_and_then owner (activity_of q xs))
  owned_among c [] q rising = refl
  owned_among c (x ∷ xs) q rising = cases (eqb x.id q) refl (is_number n (owner x)) refl (owned_among (suc x.id) xs q rising.1)
    where
      cases : (b : Bool) → eqb x.id q ≡ b → (d : Bool) → is_number n (owner x) ≡ d → among q (owned xs) ≡ is_number n (option_and_then owner (activity_of q xs)) → among q (owned (x ∷ xs)) ≡ is_number n (option_and_then owner (activity_of q (x ∷ xs)))
      cases true e true f more = rw (e, f, eq-eqb q x.id (sym (eqb-true x.id q e))) refl
      cases true e false f more =
          let is = eqb-true x.id q e in
          let none : activity_of q xs ≡ None = none_below xs (suc x.id) q rising.1 (omega (arith, is)) in
          let absent : among q (owned xs) ≡ false = more ∙ rw none refl in
          rw (e, f) absent
      cases false e true f more = rw (e, f, ne_eqb q x.id (λ same. eqb-false x.id q e (sym same))) more
      cases false e false f more = rw (e, f) more

  -- the index answers the same
  pub indexed : (xs : List Activity) (pairs : List (ℕ × ℕ)) → AreRising xs → IsIndexOf owner xs pairs → RiseIds 0 (ids_under n pairs) → ids_under n pairs ≡ owned xs
  indexed xs pairs rising tied rises = same_rising 0 (ids_under n pairs) (owned xs) rises (chosen_rise (λ a. is_number n (owner a)) 0 xs rising) (λ q. under_among n q pairs ∙ (tied n q ∙ sym (owned_among 0 xs q rising)))

pub any_chosen : (pass : Activity → Bool) (xs : List Activity) → is_some (slice_get (map id_of (filter pass xs)) 0) ≡ list_any pass xs
any_chosen pass [] = refl
any_chosen pass (x ∷ xs) = cases (pass x) refl (any_chosen pass xs)
  where
    cases : (b : Bool) → pass x ≡ b → is_some (slice_get (map id_of (filter pass xs)) 0) ≡ list_any pass xs → is_some (slice_get (map id_of (filter pass (x ∷ xs))) 0) ≡ list_any pass (x ∷ xs)
    cases true e more = rw e refl
    cases false e more = rw e more

-- rising ids in another form
increasing_rises : (c : ℕ) (ids : List ℕ) → All (λ i. c ≤ i) ids → IsStrictlyIncreasing ids → RiseIds c ids
increasing_rises c ids all increasing = sorted_rises c ids all (sorted_from_strictly_increasing ids increasing)

pub indexed_list : (owner : Activity → Option ℕ) (n : ℕ) (xs : List Activity) (pairs : List (ℕ × ℕ)) → AreRising xs → IsIndexOf owner xs pairs → IsStrictlyIncreasing (ids_under n pairs) → ids_under n pairs ≡ owned owner n xs
indexed_list owner n xs pairs rising tied increasing = indexed owner n xs pairs rising tied (increasing_rises 0 (ids_under n pairs) (λ k d lt. omega arith) increasing)
