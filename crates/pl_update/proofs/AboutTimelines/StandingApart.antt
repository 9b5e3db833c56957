-- No two sets, and no two musts, that a plan asks for have one id and index: each is asked for by a reservation of its own.
use Rattle.std.proofs.Common.{◌≡◌, ℕ, suc, ◌<◌, eqb, Bool, true, false, ◌&&◌, cond, List, [], ◌∷◌, map, Option, Some, None, refl, sym, ap, ◌∙◌, arith, ℤ, pos, ◌+ℤ◌, ◌≤ℤ◌}
use Rattle.std.specs.List.{flat_map, fold}
use Rattle.std.proofs.lemmas.Int.{ints}
use Rattle.std.proofs.lemmas.Bool.{eqb-true, eq-eqb, ne_eqb}
use Rattle.pl_model.specs.declared.reservations.Reservation.{Reservation}
use Rattle.pl_model.specs.declared.reservations.Reservation.TheVariants as reservation
use Rattle.pl_plan.specs.declared.activity.Activity.{Activity}
use Rattle.pl_plan.specs.Activities.{RiseFrom, AreRising}
use Rattle.pl_plan.specs.Fitting.{kind_of}
use Rattle.pl_plan.specs.Values.{Row}
use Rattle.pl_points.specs.Sums.{total}
use Rattle.pl_state.specs.declared.reservation.Setting.{Setting}
use Rattle.pl_state.specs.declared.reservation.Must.{Must}
use Rattle.pl_state.specs.Keys.{key_of, key_before, AreSorted}
use Rattle.pl_state.specs.Sorted.{NoneHas, AreDistinct}
use Rattle.pl_state.specs.Sets.{set_before, with_set, set_key}
use Rattle.pl_state.specs.Musts.{must_before, with_must, must_key}
use Rattle.pl_state.proofs.Keys.{follows, before_itself, sorted_with}
use Rattle.pl_semantics.specs.declared.plan_state.PlanState.{PlanState}
use Rattle.pl_semantics.specs.declared.demand.Demand.{Demand}
use Rattle.pl_semantics.specs.declared.demand.Asked.{Asked}
use Rattle.pl_semantics.specs.declared.demand.Asked.TheVariants as asked
use Rattle.pl_semantics.specs.PlanStates.{row_of, end_at, reservations_in, reservations_of, numbered, of_found}
use Rattle.pl_semantics.specs.Demands.{asked_for, demands_until, demands_at, demands_of, asked_of, set_in, must_in, sets_of, musts_of}
use Rattle.pl_update.specs.Timelines.Held.{part_at}
use Rattle.pl_update.proofs.AboutTimelines.Listing.{total_nothing, total_least, total_most, total-flat, total_put, total_fold}
use Rattle.pl_update.proofs.AboutTimelines.Standing.{by_item, asked_items}

abbrev pub count : Bool → ℤ
count b = cond b (pos 1) (pos 0)

pub count_least : (b : Bool) → pos 0 ≤ℤ count b
count_least true = omega (arith, ints)
count_least false = omega (arith, ints)

pub count_most : (b : Bool) → count b ≤ℤ pos 1
count_most true = omega (arith, ints)
count_most false = omega (arith, ints)

itself : (z : ℤ) → z ≤ℤ z
itself z = omega (arith, ints)

-- ---- one activity

-- counts what is asked with this id and index
abbrev pub by_place : ℕ → ℕ → Asked → ℤ
by_place i k (asked.Use u) = pos 0
by_place i k (asked.Effect e) = pos 0
by_place i k (asked.Set x) = count (eqb x.id i && eqb x.index k)
by_place i k (asked.Must m) = count (eqb m.id i && eqb m.index k)

pub place_least : (i k : ℕ) (a : Asked) → pos 0 ≤ℤ by_place i k a
place_least i k (asked.Use u) = omega (arith, ints)
place_least i k (asked.Effect e) = omega (arith, ints)
place_least i k (asked.Set x) = count_least (eqb x.id i && eqb x.index k)
place_least i k (asked.Must m) = count_least (eqb m.id i && eqb m.index k)

module _ (id start end : ℕ) (row : Row) (i k : ℕ) where
  one_place : (p : ℕ × Reservation) → by_place i k (asked_for id start end row p).asked ≤ℤ count (eqb id i && eqb p.0 k)
  one_place (n, reservation.Take line e) = count_least (eqb id i && eqb n k)
  one_place (n, reservation.Raise line e point) = count_least (eqb id i && eqb n k)
  one_place (n, reservation.Lower line e point) = count_least (eqb id i && eqb n k)
  one_place (n, reservation.Put line state point) = itself (count (eqb id i && eqb n k))
  one_place (n, reservation.Must line state) = itself (count (eqb id i && eqb n k))

  all_places : (ps : List (ℕ × Reservation)) → total (λ (d : Demand). by_place i k d.asked) (map (asked_for id start end row) ps) ≤ℤ total (λ (p : ℕ × Reservation). count (eqb id i && eqb p.0 k)) ps
  all_places [] = omega (arith, ints)
  all_places (p ∷ ps) = omega (arith, ints, one_place p, all_places ps)

none_numbered : {T : Type 0} (n k : ℕ) (xs : List T) → k < n → total (λ (p : ℕ × T). count (eqb p.0 k)) (numbered n xs) ≡ pos 0
none_numbered n k [] lt = refl
none_numbered n k (x ∷ xs) lt = omega (arith, ints, ap count (ne_eqb n k (λ e. omega (arith, lt, e))), none_numbered (suc n) k xs (omega (arith, lt)))

once_numbered : {T : Type 0} (n k : ℕ) (xs : List T) → total (λ (p : ℕ × T). count (eqb p.0 k)) (numbered n xs) ≤ℤ pos 1
once_numbered {T} n k [] = omega (arith, ints)
once_numbered {T} n k (x ∷ xs) = by (eqb n k) refl (once_numbered (suc n) k xs)
  where
    by : (b : Bool) → eqb n k ≡ b → total (λ (p : ℕ × T). count (eqb p.0 k)) (numbered (suc n) xs) ≤ℤ pos 1 → (count b +ℤ total (λ (p : ℕ × T). count (eqb p.0 k)) (numbered (suc n) xs)) ≤ℤ pos 1
    by true e more = let is : n ≡ k = eqb-true n k e in omega (arith, ints, none_numbered (suc n) k xs (omega (arith, is)))
    by false e more = omega (arith, ints, more)

once_there : {T : Type 0} (b : Bool) (k : ℕ) (xs : List T) → total (λ (p : ℕ × T). count (b && eqb p.0 k)) (numbered 0 xs) ≤ℤ count b
once_there true k xs = once_numbered 0 k xs
once_there false k xs = omega (arith, ints, total_nothing (numbered 0 xs))

once_at : (s : PlanState) (a : Activity) (i k : ℕ) → total (λ (d : Demand). by_place i k d.asked) (demands_at s a) ≤ℤ count (eqb a.id i)
unfolding demands_at
once_at s a i k = by (end_at s a)
  where
    by : (o : Option ℕ) → total (λ (d : Demand). by_place i k d.asked) (of_found (demands_until s a) o) ≤ℤ count (eqb a.id i)
    by None = count_least (eqb a.id i)
    by (Some end) = omega (arith, ints, all_places a.id a.start end (row_of s a) i k (reservations_of s a), once_there (eqb a.id i) k (reservations_in (kind_of s.model a)))

-- ---- all

none_rising : (c i : ℕ) (xs : List Activity) → RiseFrom c xs → i < c → total (λ (a : Activity). count (eqb a.id i)) xs ≡ pos 0
none_rising c i [] rising lt = refl
none_rising c i (x ∷ xs) rising lt = omega (arith, ints, ap count (ne_eqb x.id i (λ e. omega (arith, lt, rising.0, e))), none_rising (suc x.id) i xs rising.1 (omega (arith, lt, rising.0)))

once_rising : (c i : ℕ) (xs : List Activity) → RiseFrom c xs → total (λ (a : Activity). count (eqb a.id i)) xs ≤ℤ pos 1
once_rising c i [] rising = omega (arith, ints)
once_rising c i (x ∷ xs) rising = by (eqb x.id i) refl (once_rising (suc x.id) i xs rising.1)
  where
    by : (b : Bool) → eqb x.id i ≡ b → total (λ (a : Activity). count (eqb a.id i)) xs ≤ℤ pos 1 → (count b +ℤ total (λ (a : Activity). count (eqb a.id i)) xs) ≤ℤ pos 1
    by true e more = let is : x.id ≡ i = eqb-true x.id i e in omega (arith, ints, none_rising (suc x.id) i xs rising.1 (omega (arith, is)))
    by false e more = omega (arith, ints, more)

pub once_asked : (s : PlanState) → AreRising s.plan.activities → (i k : ℕ) → total (λ (d : Demand). by_place i k d.asked) (demands_of s) ≤ℤ pos 1
once_asked s rising i k = omega (
  arith,
  ints,
  total-flat (λ (d : Demand). by_place i k d.asked) (demands_at s) s.plan.activities,
  total_most (λ (a : Activity). total (λ (d : Demand). by_place i k d.asked) (demands_at s a)) (λ (a : Activity). count (eqb a.id i)) (λ a. once_at s a i k) s.plan.activities,
  once_rising 0 i s.plan.activities rising,
)

-- what is asked of one timeline counts no more than all
part_most : (f g : Asked → ℤ) → ((a : Asked) → f a ≤ℤ g a) → ((a : Asked) → pos 0 ≤ℤ g a) → (line : ℕ) (d : Demand) → part_at line f d ≤ℤ g d.asked
part_most f g most least line d = by (eqb d.line line)
  where
    by : (b : Bool) → cond b (f d.asked) (pos 0) ≤ℤ g d.asked
    by true = most d.asked
    by false = least d.asked

-- ---- lists of which each id and index are counted once

key_parts : (ax ix nx a i k : ℕ) → key_of ax ix nx ≡ key_of a i k → (ix ≡ i) × (nx ≡ k)
key_parts ax ix nx a i k e =
    let one = follows (key_of ax ix nx) (key_of a i k) (ap (λ y. key_before y (key_of a i k)) e ∙ before_itself (key_of a i k)) in
    let two = follows (key_of a i k) (key_of ax ix nx) (ap (λ y. key_before (key_of a i k) y) e ∙ before_itself (key_of a i k)) in
    let g : ax ≡ a = omega (arith, one.0, two.0) in
    let p = one.1 g in
    let q = two.1 (sym g) in
    let h : ix ≡ i = omega (arith, p.0, q.0) in
    let r = p.1 h in
    let t = q.1 (sym h) in
    (h, omega (arith, r, t))

-- items by a moment, an id and an index
module _ {T : Type 0} (at id index : T → ℕ) where
  abbrev pub at_place : ℕ → ℕ → T → ℤ
  at_place i k x = count (eqb (id x) i && eqb (index x) k)

  at_least : (i k : ℕ) (x : T) → pos 0 ≤ℤ at_place i k x
  at_least i k x = count_least (eqb (id x) i && eqb (index x) k)

  at_itself : (i k : ℕ) (x : T) → id x ≡ i → index x ≡ k → at_place i k x ≡ pos 1
  at_itself i k x e f = rw (eq-eqb (id x) i e, eq-eqb (index x) k f) refl

  none_counted : (a i k : ℕ) (xs : List T) → total (at_place i k) xs ≤ℤ pos 0 → NoneHas (λ (x : T). key_of (at x) (id x) (index x)) (key_of a i k) xs
  none_counted a i k [] le = tt
  none_counted a i k (x ∷ xs) le = (
    λ e. (let parts = key_parts (at x) (id x) (index x) a i k e in absurd (omega (arith, ints, le, at_itself i k x parts.0 parts.1, total_least (at_place i k) (at_least i k) xs))),
    none_counted a i k xs (omega (arith, ints, le, at_least i k x)),
  )

  pub distinct_counted : (xs : List T) → ((i k : ℕ) → total (at_place i k) xs ≤ℤ pos 1) → AreDistinct (λ (x : T). key_of (at x) (id x) (index x)) xs
  distinct_counted [] once = tt
  distinct_counted (x ∷ xs) once = (
    none_counted (at x) (id x) (index x) xs (omega (arith, ints, once (id x) (index x), at_itself (id x) (index x) x refl refl)),
    distinct_counted xs (λ i k. omega (arith, ints, once i k, at_least i k x)),
  )

abbrev pub set_at_place : ℕ → ℕ → Setting → ℤ
set_at_place i k x = count (eqb x.id i && eqb x.index k)

abbrev pub must_at_place : ℕ → ℕ → Must → ℤ
must_at_place i k m = count (eqb m.id i && eqb m.index k)

-- ---- sets and musts of a timeline

set_place : (i k : ℕ) (a : Asked) → by_item set_in (set_at_place i k) a ≤ℤ by_place i k a
set_place i k (asked.Use u) = omega (arith, ints)
set_place i k (asked.Effect e) = omega (arith, ints)
set_place i k (asked.Set x) = omega (arith, ints)
set_place i k (asked.Must m) = count_least (eqb m.id i && eqb m.index k)

must_place : (i k : ℕ) (a : Asked) → by_item must_in (must_at_place i k) a ≤ℤ by_place i k a
must_place i k (asked.Use u) = omega (arith, ints)
must_place i k (asked.Effect e) = omega (arith, ints)
must_place i k (asked.Set x) = count_least (eqb x.id i && eqb x.index k)
must_place i k (asked.Must m) = omega (arith, ints)

pub once_set : (s : PlanState) (line : ℕ) → AreRising s.plan.activities → (i k : ℕ) → total (set_at_place i k) (sets_of line (demands_of s)) ≤ℤ pos 1
once_set s line rising i k = omega (
  arith,
  ints,
  total_fold (set_at_place i k) (λ sorted y. with_set y sorted) (λ ys y. total_put (set_at_place i k) (set_before y) y ys) (flat_map (asked_of set_in line) (demands_of s)) [],
  asked_items set_in (set_at_place i k) line (demands_of s),
  total_most (part_at line (by_item set_in (set_at_place i k))) (λ (d : Demand). by_place i k d.asked) (part_most (by_item set_in (set_at_place i k)) (by_place i k) (set_place i k) (place_least i k) line) (demands_of s),
  once_asked s rising i k,
)

pub once_must : (s : PlanState) (line : ℕ) → AreRising s.plan.activities → (i k : ℕ) → total (must_at_place i k) (musts_of line (demands_of s)) ≤ℤ pos 1
once_must s line rising i k = omega (
  arith,
  ints,
  total_fold (must_at_place i k) (λ sorted m. with_must m sorted) (λ ys m. total_put (must_at_place i k) (must_before m) m ys) (flat_map (asked_of must_in line) (demands_of s)) [],
  asked_items must_in (must_at_place i k) line (demands_of s),
  total_most (part_at line (by_item must_in (must_at_place i k))) (λ (d : Demand). by_place i k d.asked) (part_most (by_item must_in (must_at_place i k)) (by_place i k) (must_place i k) (place_least i k) line) (demands_of s),
  once_asked s rising i k,
)

sorted_sets : (xs ys : List Setting) → AreSorted set_key ys → AreSorted set_key (fold (λ sorted y. with_set y sorted) ys xs)
sorted_sets [] ys sorted = sorted
sorted_sets (x ∷ xs) ys sorted = sorted_sets xs (with_set x ys) (sorted_with set_key x ys sorted)

sorted_musts : (xs ys : List Must) → AreSorted must_key ys → AreSorted must_key (fold (λ sorted m. with_must m sorted) ys xs)
sorted_musts [] ys sorted = sorted
sorted_musts (x ∷ xs) ys sorted = sorted_musts xs (with_must x ys) (sorted_with must_key x ys sorted)

pub sets_sorted : (line : ℕ) (ds : List Demand) → AreSorted set_key (sets_of line ds)
sets_sorted line ds = sorted_sets (flat_map (asked_of set_in line) ds) [] tt

pub musts_sorted : (line : ℕ) (ds : List Demand) → AreSorted must_key (musts_of line ds)
musts_sorted line ds = sorted_musts (flat_map (asked_of must_in line) ds) [] tt
