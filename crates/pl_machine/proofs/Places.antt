-- Where an id would stand among activities of rising ids, and parts of such a list.
use Rattle.std.proofs.Common.{◌≡◌, ℕ, zero, suc, ◌<◌, ◌≤◌, ltb, true, false, List, [], ◌∷◌, length, get_or, take, drop, ◌⊎◌, inl, inr, slice_get, Some, sym, subst, arith, ap}
use Rattle.std.specs.Prelude.{All}
use Rattle.std.specs.List.Sorted.{IsPartitionPoint, IsNonDecreasingBy}
use Rattle.std.proofs.lemmas.Bool.{cases_lt, ltb-true, ltb-false}
use Rattle.std.proofs.lemmas.List.Elements.{All-nil, All-cons, All-head, All-weaker, All-append, All-take}
use Rattle.std.proofs.lemmas.List.{take_all, drop_all, take-append-drop}
use Rattle.pl_plan.specs.declared.activity.Activity.{Activity}
use Rattle.pl_plan.specs.Activities.{RiseFrom, AreRising}
use Rattle.pl_plan.proofs.Ids.{rises_above, rises_between}
use Rattle.pl_machine.specs.Looking.{AreBelow}
use Rattle.pl_machine.proofs.IdRanges.{rises_later}

pub rising_drop : (n c : ℕ) (xs : List Activity) → RiseFrom c xs → RiseFrom c (drop n xs)
rising_drop zero c xs rising = rising
rising_drop (suc n) c [] rising = tt
rising_drop (suc n) c (x ∷ xs) rising = rising_drop n c xs (rises_later c (suc x.id) xs (let low = rising.0 in omega (arith, low)) rising.1)

pub rising_behind : (place k : ℕ) (xs others rest : List Activity) → AreRising xs → others ≡ drop place xs → rest ≡ drop k others → AreRising rest
rising_behind place k xs others rest rising first second = rw (second, first) (rising_drop k 0 (drop place xs) (rising_drop place 0 xs rising))

pub rising_take : (n c : ℕ) (xs : List Activity) → RiseFrom c xs → RiseFrom c (take n xs)
rising_take zero c xs rising = tt
rising_take (suc n) c [] rising = tt
rising_take (suc n) c (x ∷ xs) rising = (rising.0, rising_take n (suc x.id) xs rising.1)

-- rising ids, none of which is below one, rise from that one
pub rising_from : (c from : ℕ) (xs : List Activity) → RiseFrom c xs → All (λ a. from ≤ a.id) xs → RiseFrom from xs
rising_from c from [] rising low = tt
rising_from c from (x ∷ xs) rising low = (All-head (λ (a : Activity). from ≤ a.id) x xs low, rising.1)

pub all_above : (c : ℕ) (xs : List Activity) → RiseFrom c xs → All (λ a. c ≤ a.id) xs
all_above c xs rising = λ k d lt. rises_above xs c k d rising lt

-- behind one that is not below an id, none is
pub rest_above : (xs : List Activity) (c i id : ℕ) (d : Activity) → RiseFrom c xs → i < length xs → id ≤ (get_or xs i d).id → All (λ a. id ≤ a.id) (drop i xs)
rest_above [] c i id d rising lt le = absurd (omega (arith, lt))
rest_above (x ∷ xs) c zero id d rising lt le =
    All-cons (λ (a : Activity). id ≤ a.id) x xs le (λ k e less. let high = rises_above xs (suc x.id) k e rising.1 less in omega (arith, high, le))
rest_above (x ∷ xs) c (suc i) id d rising lt le = rest_above xs (suc x.id) i id d rising.1 (omega (arith, lt)) le

pub ids_rise : (xs : List Activity) (c : ℕ) → RiseFrom c xs → IsNonDecreasingBy (λ (a : Activity). a.id) xs
ids_rise xs c rising i j d le lt = by (cases_lt i j)
  where
    by : ((i < j) ⊎ (j ≤ i)) → (get_or xs i d).id ≤ (get_or xs j d).id
    by (inl less) = let up = rises_between xs c i j d rising less lt in omega (arith, up)
    by (inr high) = let same : i ≡ j = omega (arith, le, high) in let e = ap (λ k. (get_or xs k d).id) same in omega (arith, e)

pub below_point : (id i : ℕ) (xs : List Activity) → i ≤ length xs → IsPartitionPoint (λ (a : Activity). ltb a.id id ≡ true) (λ a. ltb a.id id ≡ false) xs i → AreBelow id i xs
below_point id zero xs le point = record { few = le; front = All-nil (λ (a : Activity). a.id < id); rest = λ k d lt. ltb-false _ id (point.1 k d (omega arith) lt) }
below_point id (suc i) [] le point = absurd (omega (arith, le))
below_point id (suc i) (x ∷ xs) le point =
    let more = below_point id i xs (omega (arith, le)) ((λ k d low high. point.0 (suc k) d (omega arith) (omega (arith, high))), (λ k d low high. point.1 (suc k) d (omega (arith, low)) (omega (arith, high)))) in
    record {
      few = le;
      front = All-cons (λ (a : Activity). a.id < id) x (take i xs) (ltb-true x.id id (point.0 0 x (omega arith) (omega arith))) more.front;
      rest = more.rest;
    }

-- all have lower ids
pub below_all : (id place : ℕ) (xs : List Activity) → length xs ≤ place → All (λ a. a.id < id) (take place xs) → AreBelow id (length xs) xs
below_all id place xs le all = record {
  few = omega arith;
  front = All-take (λ (a : Activity). a.id < id) (length xs) xs (subst (All (λ (a : Activity). a.id < id)) (take_all place xs le) all);
  rest = subst (All (λ (a : Activity). id ≤ a.id)) (sym (drop_all (length xs) xs (omega arith))) (All-nil (λ (a : Activity). id ≤ a.id));
}

-- the first has no lower id
pub below_none : (id : ℕ) (xs : List Activity) (a : Activity) → AreRising xs → slice_get xs 0 ≡ Some a → id ≤ a.id → AreBelow id 0 xs
below_none id [] a rising is le = absurd (cc)
below_none id (x ∷ xs) a rising is le = record {
  few = omega arith;
  front = All-nil (λ (b : Activity). b.id < id);
  rest = rest_above (x ∷ xs) 0 0 id x rising (omega arith) (let same : x ≡ a = cc in subst (λ (b : Activity). id ≤ b.id) (sym same) le);
}

-- the first that fails a test, behind those that pass
pub first_each : (P : Activity → Type 0) (xs : List Activity) (i : ℕ) (d : Activity) → AreRising xs → i < length xs → All P (take i xs) → All (λ a. P a ⊎ ((get_or xs i d).id ≤ a.id)) xs
first_each P xs i d rising lt all =
    let Q : Activity → Type 0 = λ a. P a ⊎ ((get_or xs i d).id ≤ a.id) in
    subst (All Q) (take-append-drop i xs)
    (All-append Q (take i xs) (drop i xs) (All-weaker P Q (λ a is. inl is) (take i xs) all)
    (All-weaker (λ (a : Activity). (get_or xs i d).id ≤ a.id) Q (λ a le. inr le) (drop i xs) (rest_above xs 0 i (get_or xs i d).id d rising lt (omega arith))))

pub none_fails : (P : Activity → Type 0) (xs : List Activity) (i end : ℕ) → length xs ≤ i → All P (take i xs) → All (λ a. P a ⊎ (end ≤ a.id)) xs
none_fails P xs i end le all = All-weaker P (λ (a : Activity). P a ⊎ (end ≤ a.id)) (λ a is. inl is) xs (subst (All P) (take_all i xs le) all)
