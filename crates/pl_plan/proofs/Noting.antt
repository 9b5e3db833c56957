-- The notes of how late activities start, after each change of the activities.
use Rattle.std.proofs.Common.{◌≡◌, ◌∙◌, sym, ℕ, zero, suc, ◌<◌, ◌≤◌, ◌⊎◌, inl, inr, eqb, ltb, Bool, true, false, cond, List, [], ◌∷◌, length, take, drop, Some, refl, ap, subst, get_or, IsSome, arith}
use Rattle.std.specs.Prelude.{All}
use Rattle.std.specs.List.Sorted.{IsPartitionPoint, IsNonDecreasingBy}
use Rattle.std.proofs.lemmas.Bool.{eqb-true, cases_lt, ltb-true}
use Rattle.std.proofs.lemmas.List.Elements.{All-nil, All-cons, All-head, All-tail, All-take}
use Rattle.pl_plan.specs.declared.activity.Activity.{Activity}
use Rattle.pl_plan.specs.Activities.{RiseFrom, AreRising, IsLive, activity_of, placed, without, exchanged, ended, with_end}
use Rattle.pl_plan.specs.Latest.{Notes, group_of, latest_in, HasNote, IsNoted, AreNoted}
use Rattle.std.specs.Prelude.{slice_get}
use Rattle.std.proofs.Math.Seq.{take-nil}
use Rattle.std.proofs.lemmas.Option.{same_Some}
use Rattle.pl_plan.proofs.Ids.{rises_between}

-- longer notes, that say the same or later starts
pub noted_later : (n m : Notes) (xs : List Activity) → length n.starts ≤ length m.starts → m.limit ≤ n.limit → ((k : ℕ) → latest_in k n ≤ latest_in k m) → AreNoted xs n → AreNoted xs m
noted_later n m xs longer fewer later all = λ k d lt.
    let is = all k d lt in
    record {
      there = λ few. let in_n : group_of (get_or xs k d).id < n.limit = omega (arith, few, fewer) in omega (arith, is.there in_n, longer);
      by = λ few. let in_n : group_of (get_or xs k d).id < n.limit = omega (arith, few, fewer) in omega (arith, is.by in_n, later (group_of (get_or xs k d).id));
    }

pub noted_same : (n m : Notes) (xs : List Activity) → length n.starts ≤ length m.starts → m.limit ≤ n.limit → ((k : ℕ) → latest_in k m ≡ latest_in k n) → AreNoted xs n → AreNoted xs m
noted_same n m xs longer fewer same all = noted_later n m xs longer fewer (λ k. omega (arith, same k)) all

pub noted_placed : (m : Notes) (a : Activity) (xs : List Activity) → AreNoted xs m → IsNoted m a → AreNoted (placed a xs) m
noted_placed m a [] all is = All-cons (IsNoted m) a [] is (All-nil (IsNoted m))
noted_placed m a (x ∷ xs) all is = cases (ltb x.id a.id) (noted_placed m a xs (All-tail (IsNoted m) x xs all) is)
  where
    cases : (b : Bool) → AreNoted (placed a xs) m → AreNoted (cond b (x ∷ placed a xs) (a ∷ x ∷ xs)) m
    cases true more = All-cons (IsNoted m) x (placed a xs) (All-head (IsNoted m) x xs all) more
    cases false more = All-cons (IsNoted m) a (x ∷ xs) is all

pub noted_without : (m : Notes) (id : ℕ) (xs : List Activity) → AreNoted xs m → AreNoted (without id xs) m
noted_without m id [] all = all
noted_without m id (x ∷ xs) all = cases (eqb x.id id) (noted_without m id xs (All-tail (IsNoted m) x xs all))
  where
    cases : (b : Bool) → AreNoted (without id xs) m → AreNoted (cond b xs (x ∷ without id xs)) m
    cases true more = All-tail (IsNoted m) x xs all
    cases false more = All-cons (IsNoted m) x (without id xs) (All-head (IsNoted m) x xs all) more

pub noted_exchanged : (m : Notes) (a : Activity) (xs : List Activity) → AreNoted xs m → IsNoted m a → AreNoted (exchanged a xs) m
noted_exchanged m a [] all is = all
noted_exchanged m a (x ∷ xs) all is =
    All-cons (IsNoted m) (cond (eqb x.id a.id) a x) (exchanged a xs) (cases (eqb x.id a.id)) (noted_exchanged m a xs (All-tail (IsNoted m) x xs all) is)
  where
    cases : (b : Bool) → IsNoted m (cond b a x)
    cases true = is
    cases false = All-head (IsNoted m) x xs all

pub noted_ended : (m : Notes) (id moment : ℕ) (xs : List Activity) → AreNoted xs m → AreNoted (with_end id moment xs) m
noted_ended m id moment [] all = all
noted_ended m id moment (x ∷ xs) all =
    All-cons (IsNoted m) (cond (eqb x.id id) (ended moment x) x) (with_end id moment xs) (cases (eqb x.id id)) (noted_ended m id moment xs (All-tail (IsNoted m) x xs all))
  where
    head : IsNoted m x
    head = All-head (IsNoted m) x xs all

    cases : (b : Bool) → IsNoted m (cond b (ended moment x) x)
    cases true = record { there = head.there; by = head.by }
    cases false = head

-- the group of a live activity has a note
pub noted_live : (m : Notes) (id : ℕ) (xs : List Activity) → AreNoted xs m → IsLive id xs → HasNote (group_of id) m
noted_live m id [] all live = absurd (let h : false ≡ true = live in (cc))
noted_live m id (x ∷ xs) all live = cases (eqb x.id id) refl live (λ h. noted_live m id xs (All-tail (IsNoted m) x xs all) h)
  where
    cases : (b : Bool) → eqb x.id id ≡ b → IsSome (cond b (Some x) (activity_of id xs)) → (IsLive id xs → HasNote (group_of id) m) → HasNote (group_of id) m
    cases true e h more = subst (λ n. HasNote (group_of n) m) (eqb-true x.id id e) (All-head (IsNoted m) x xs all).there
    cases false e h more = more h

-- ---- activities that start early

rises_high : (c low : ℕ) (xs : List Activity) → RiseFrom c xs → low ≤ c → All (λ a. low ≤ a.id) xs
rises_high c low [] rising le = All-nil (λ (a : Activity). low ≤ a.id)
rises_high c low (x ∷ xs) rising le =
    All-cons (λ (a : Activity). low ≤ a.id) x xs (let h = rising.0 in omega (arith, h, le)) (rises_high (suc x.id) low xs rising.1 (let h = rising.0 in omega (arith, h, le)))

pub rises_behind : (n c : ℕ) (xs : List Activity) → RiseFrom c xs → RiseFrom c (drop n xs)
rises_behind zero c xs rising = rising
rises_behind (suc n) c [] rising = tt
rises_behind (suc n) c (x ∷ xs) rising = lower (rises_behind n (suc x.id) xs rising.1)
  where
    lower : RiseFrom (suc x.id) (drop n xs) → RiseFrom c (drop n xs)
    lower h = weaker (drop n xs) h
      where
        weaker : (l : List Activity) → RiseFrom (suc x.id) l → RiseFrom c l
        weaker [] r = tt
        weaker (y ∷ l) r = ((let a = rising.0 in let b = r.0 in omega (arith, a, b)), r.1)

-- activities from one on, in groups before another one, in which all start early
pub all_early : (m : Notes) (first group moment : ℕ) (x : Activity) (xs : List Activity) (n : ℕ) → AreRising xs → slice_get xs 0 ≡ Some x → first ≡ group_of x.id → AreNoted xs m
    → ((k : ℕ) → first ≤ k → k < group → (k < m.limit) × (latest_in k m < moment)) → All (λ a. group_of a.id < group) (take n xs) → All (λ a. a.start < moment) (take n xs)
all_early m first group moment x [] n rising here is noted passed before = λ k d lt. absurd (let h : k < 0 = subst (λ (l : List Activity). k < length l) (take-nil n) lt in omega (arith, h))
all_early m first group moment x (y ∷ xs) n rising here is noted passed before = λ k d lt.
    let a = get_or (take n (y ∷ xs)) k d in
    let one : y ≡ x = same_Some y x here in
    let high : y.id ≤ a.id = All-take (λ (b : Activity). y.id ≤ b.id) n (y ∷ xs) (rises_high y.id y.id (y ∷ xs) (omega arith, rising.1) (omega arith)) k d lt in
    let low : group_of a.id < group = before k d lt in
    let from : first ≤ group_of a.id = omega (arith, is ∙ ap (λ (b : Activity). group_of b.id) (sym one), high) in
    let by : a.start ≤ latest_in (group_of a.id) m = (All-take (IsNoted m) n (y ∷ xs) noted k d lt).by (passed (group_of a.id) from low).0 in
    omega (arith, by, (passed (group_of a.id) from low).1)

pub groups_rise : (xs : List Activity) (c : ℕ) → RiseFrom c xs → IsNonDecreasingBy (λ (a : Activity). group_of a.id) xs
groups_rise xs c rising i j d le lt = by (cases_lt i j)
  where
    by : ((i < j) ⊎ (j ≤ i)) → group_of (get_or xs i d).id ≤ group_of (get_or xs j d).id
    by (inl less) = let up = rises_between xs c i j d rising less lt in omega (arith, up)
    by (inr high) = let same : i ≡ j = omega (arith, le, high) in let e = ap (λ k. group_of (get_or xs k d).id) same in omega (arith, e)

pub before_point : (group i : ℕ) (xs : List Activity) → IsPartitionPoint (λ (a : Activity). ltb (group_of a.id) group ≡ true) (λ a. ltb (group_of a.id) group ≡ false) xs i → All (λ a. group_of a.id < group) (take i xs)
before_point group zero xs point = All-nil (λ (a : Activity). group_of a.id < group)
before_point group (suc i) [] point = All-nil (λ (a : Activity). group_of a.id < group)
before_point group (suc i) (x ∷ xs) point =
    All-cons (λ (a : Activity). group_of a.id < group) x (take i xs) (ltb-true (group_of x.id) group (point.0 0 x (omega arith) (omega arith)))
    (before_point group i xs ((λ k d low high. point.0 (suc k) d (omega arith) (omega (arith, high))), (λ k d low high. point.1 (suc k) d (omega (arith, low)) (omega (arith, high)))))
