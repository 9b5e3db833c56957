-- What is asked for before and after a replacement: what goes, what comes, and what stays as it was.
use Rattle.std.proofs.Common.{◌≡◌, ℕ, zero, suc, ◌<◌, ◌≤◌, eqb, ltb, Bool, true, false, ◌||◌, cond, List, [], ◌∷◌, map, length, get_or, Option, Some, None, refl, sym, ap, ◌∙◌, arith, ℤ, pos, ◌+ℤ◌}
use Rattle.std.specs.Prelude.{All}
use Rattle.std.specs.List.{flat_map}
use Rattle.std.proofs.lemmas.Int.{ints}
use Rattle.std.proofs.lemmas.Bool.{eqb-true, eqb-false, ne_eqb, or_parts}
use Rattle.std.proofs.lemmas.List.Folds.{list_any-append, list_any_none}
use Rattle.std.proofs.lemmas.List.Elements.{All-nil, All-cons, All-head, All-tail}
use Rattle.pl_points.specs.Sums.{total}
use Rattle.pl_plan.specs.declared.activity.Activity.{Activity}
use Rattle.pl_plan.specs.Activities.{AreRising, IsLive, activity_of, placed, without}
use Rattle.pl_plan.specs.Trees.{id_of}
use Rattle.pl_plan.specs.Values.{Row}
use Rattle.pl_plan.specs.Firm.{end_in, end_of}
use Rattle.pl_plan.proofs.Ids.{rising-without}
use Rattle.pl_plan.proofs.Lookups.{found-without}
use Rattle.pl_plan.proofs.Kept.{each_found}
use Rattle.pl_plan.proofs.RisingIds.{RiseIds}
use Rattle.pl_semantics.specs.declared.plan_state.PlanState.{PlanState}
use Rattle.pl_semantics.specs.declared.demand.Demand.{Demand}
use Rattle.pl_semantics.specs.declared.demand.Asked.{Asked}
use Rattle.pl_semantics.specs.PlanStates.{found, row_of, end_at, reservations_of, of_found, among}
use Rattle.pl_semantics.specs.Whole.{IsWhole}
use Rattle.pl_semantics.specs.Demands.{asked_for, demands_until, demands_at, demands_of}
use Rattle.pl_update.specs.Changes.Replaced.{taken, put, replaced, touched, with_plan, CanReplace}
use Rattle.pl_update.proofs.AboutChanges.Putting.{found-taken, rising-taken}
use Rattle.pl_update.proofs.AboutChanges.Keeping.{whole_replaced}
use Rattle.pl_update.specs.Timelines.Held.{part_at, asked_at}
use Rattle.pl_update.specs.Timelines.Laws.{AreOnce, gone_from, coming_to}
use Rattle.pl_update.proofs.AboutTimelines.Listing.{total_each, total-flat}

-- ---- sums over activities

total_placed : (g : Activity → ℤ) (a : Activity) (xs : List Activity) → total g (placed a xs) ≡ total g xs +ℤ g a
total_placed g a [] = omega (arith, ints)
total_placed g a (x ∷ xs) = by (ltb x.id a.id) (total_placed g a xs)
  where
    by : (b : Bool) → total g (placed a xs) ≡ total g xs +ℤ g a → total g (cond b (x ∷ placed a xs) (a ∷ x ∷ xs)) ≡ (g x +ℤ total g xs) +ℤ g a
    by true more = omega (arith, ints, more)
    by false more = omega (arith, ints)

total_put : (g : Activity → ℤ) (xs more : List Activity) → total g (put xs more) ≡ total g xs +ℤ total g more
total_put g xs [] = omega (arith, ints)
total_put g xs (a ∷ more) = omega (arith, ints, total_put g (placed a xs) more, total_placed g a xs)

abbrev if_found : (Activity → ℤ) → Option Activity → ℤ
if_found g None = pos 0
if_found g (Some a) = g a

total_without : (g : Activity → ℤ) (id : ℕ) (xs : List Activity) → total g xs ≡ total g (without id xs) +ℤ if_found g (activity_of id xs)
total_without g id [] = omega (arith, ints)
total_without g id (x ∷ xs) = by (eqb x.id id) (total_without g id xs)
  where
    by : (b : Bool) → total g xs ≡ total g (without id xs) +ℤ if_found g (activity_of id xs) → (g x +ℤ total g xs) ≡ total g (cond b xs (x ∷ without id xs)) +ℤ if_found g (cond b (Some x) (activity_of id xs))
    by true more = omega (arith, ints)
    by false more = omega (arith, ints, more)

-- the other ids find what they found
found_still : (g : Activity → ℤ) (id : ℕ) (xs : List Activity) (gone : List ℕ) → AreRising xs → among id gone ≡ false → All (λ n. if_found g (activity_of n (without id xs)) ≡ if_found g (activity_of n xs)) gone
found_still g id xs [] rising none = All-nil (λ n. if_found g (activity_of n (without id xs)) ≡ if_found g (activity_of n xs))
found_still g id xs (n ∷ gone) rising none =
    let both = or_parts (eqb n id) (among id gone) none in
    let other : eqb id n ≡ false = ne_eqb id n (λ e. eqb-false n id both.0 (sym e)) in
    All-cons (λ m. if_found g (activity_of m (without id xs)) ≡ if_found g (activity_of m xs)) n gone
    (ap (if_found g) (found-without id 0 xs n rising ∙ ap (λ b. cond b None (activity_of n xs)) other))
    (found_still g id xs gone rising both.1)

-- no id goes twice
none_twice : (id : ℕ) (gone : List ℕ) → AreOnce (id ∷ gone) → (among id gone ≡ false) × AreOnce gone
none_twice id gone once = (
  list_any_none (λ i. eqb i id) gone (λ k d lt. ne_eqb _ _ (λ e. once 0 (suc k) d (omega arith) (omega (arith, lt)) (sym e))),
  λ i j d lt within. once (suc i) (suc j) d (omega (arith, lt)) (omega (arith, within)),
)

-- ids that rise stand once
rises_past : (c : ℕ) (ids : List ℕ) (i d : ℕ) → RiseIds c ids → i < length ids → c ≤ get_or ids i d
rises_past c [] i d rise lt = absurd (omega (arith, lt))
rises_past c (n ∷ ids) zero d rise lt = rise.0
rises_past c (n ∷ ids) (suc i) d rise lt = omega (arith, rise.0, rises_past (suc n) ids i d rise.1 (omega (arith, lt)))

pub once_rising : (c : ℕ) (ids : List ℕ) → RiseIds c ids → AreOnce ids
once_rising c [] rise i j d lt within = absurd (omega (arith, within))
once_rising c (n ∷ ids) rise i zero d lt within = absurd (omega (arith, lt))
once_rising c (n ∷ ids) rise zero (suc j) d lt within = λ e. (let past = rises_past (suc n) ids j d rise.1 (omega (arith, within)) in omega (arith, past, e))
once_rising c (n ∷ ids) rise (suc i) (suc j) d lt within = once_rising (suc n) ids rise.1 i j d (omega (arith, lt)) (omega (arith, within))

total_taken : (g : Activity → ℤ) (gone : List ℕ) (xs : List Activity) → AreRising xs → AreOnce gone → total g xs ≡ total g (taken xs gone) +ℤ total (λ id. if_found g (activity_of id xs)) gone
total_taken g [] xs rising once = omega (arith, ints)
total_taken g (id ∷ gone) xs rising once =
    let apart = none_twice id gone once in
    omega (
      arith,
      ints,
      total_without g id xs,
      total_taken g gone (without id xs) (rising-without id 0 xs rising) apart.1,
      total_each (λ n. if_found g (activity_of n (without id xs))) (λ n. if_found g (activity_of n xs)) gone (found_still g id xs gone rising apart.0),
    )

-- ---- what holds of each

module _ (P : Activity → Type 0) where
  all_without : (id : ℕ) (xs : List Activity) → All P xs → All P (without id xs)
  all_without id [] all = all
  all_without id (x ∷ xs) all = by (eqb x.id id) (all_without id xs (All-tail P x xs all))
    where
      by : (b : Bool) → All P (without id xs) → All P (cond b xs (x ∷ without id xs))
      by true more = All-tail P x xs all
      by false more = All-cons P x (without id xs) (All-head P x xs all) more

  all_taken : (gone : List ℕ) (xs : List Activity) → All P xs → All P (taken xs gone)
  all_taken [] xs all = all
  all_taken (g ∷ gone) xs all = all_taken gone (without g xs) (all_without g xs all)

  of_placed : (a : Activity) (xs : List Activity) → All P (placed a xs) → P a × All P xs
  of_placed a [] all = (All-head P a [] all, All-nil P)
  of_placed a (x ∷ xs) all = by (ltb x.id a.id) all (of_placed a xs)
    where
      by : (b : Bool) → All P (cond b (x ∷ placed a xs) (a ∷ x ∷ xs)) → (All P (placed a xs) → P a × All P xs) → P a × All P (x ∷ xs)
      by true all more = let rest = more (All-tail P x (placed a xs) all) in (rest.0, All-cons P x xs (All-head P x (placed a xs) all) rest.1)
      by false all more = (All-head P a (x ∷ xs) all, All-tail P a (x ∷ xs) all)

  of_put : (more xs : List Activity) → All P (put xs more) → All P xs × All P more
  of_put [] xs all = (all, All-nil P)
  of_put (a ∷ more) xs all =
      let rest = of_put more (placed a xs) all in
      let one = of_placed a xs rest.0 in
      (one.1, All-cons P a more one.0 rest.1)

-- ---- what is asked for

-- what those that stay ask for
abbrev pub staying : PlanState → List ℕ → List Demand
staying s gone = flat_map (demands_at s) (taken s.plan.activities gone)

-- an activity that neither goes nor comes
pub record IsKept (s : PlanState) (gone : List ℕ) (more : List Activity) (a : Activity) : Type 0 where
  pub before : found s a.id ≡ Some a
  pub after : found (with_plan gone more s) a.id ≡ Some a
  pub untouched : among a.id (touched gone more) ≡ false

not_among : (xs : List Activity) (gone : List ℕ) (a : Activity) (more : List Activity) → All (λ (b : Activity). IsLive b.id xs → among b.id gone ≡ true) more → activity_of a.id xs ≡ Some a → among a.id gone ≡ false → among a.id (map id_of more) ≡ false
not_among xs gone a [] free here stays = refl
not_among xs gone a (b ∷ more) free here stays = by (eqb b.id a.id) refl (not_among xs gone a more (All-tail (λ (c : Activity). IsLive c.id xs → among c.id gone ≡ true) b more free) here stays)
  where
    by : (v : Bool) → eqb b.id a.id ≡ v → among a.id (map id_of more) ≡ false → (v || among a.id (map id_of more)) ≡ false
    by true e rest =
        let same : b.id ≡ a.id = eqb-true b.id a.id e in
        let live : IsLive b.id xs = rw (same, here) refl in
        let goes : among b.id gone ≡ true = All-head (λ (c : Activity). IsLive c.id xs → among c.id gone ≡ true) b more free live in
        absurd (let bad : true ≡ false = sym goes ∙ (ap (λ n. among n gone) same ∙ stays) in cc)
    by false e rest = rest

module _ (s : PlanState) (gone : List ℕ) (more : List Activity) (whole : IsWhole s) (can : CanReplace s gone more) where
  pub whole_after : IsWhole (with_plan gone more s)
  whole_after = whole_replaced s gone more whole can

  found_after : All (λ (a : Activity). found (with_plan gone more s) a.id ≡ Some a) (taken s.plan.activities gone) × All (λ (a : Activity). found (with_plan gone more s) a.id ≡ Some a) more
  unfolding replaced
  found_after = of_put (λ (a : Activity). found (with_plan gone more s) a.id ≡ Some a) more (taken s.plan.activities gone) (each_found (replaced s.plan.activities gone more) whole_after.rising)

  pub found_placed : All (λ (a : Activity). found (with_plan gone more s) a.id ≡ Some a) more
  found_placed = found_after.1

  stays_there : (a : Activity) → activity_of a.id (taken s.plan.activities gone) ≡ Some a → among a.id gone ≡ false
  stays_there a here = by (among a.id gone) (sym (found-taken s.plan.activities gone a.id whole.rising) ∙ here)
    where
      by : (b : Bool) → cond b None (activity_of a.id s.plan.activities) ≡ Some a → b ≡ false
      by true e = absurd (cc)
      by false e = refl

  pub each_kept : All (IsKept s gone more) (taken s.plan.activities gone)
  each_kept i d lt =
      let a : Activity = get_or (taken s.plan.activities gone) i d in
      let here : found s a.id ≡ Some a = all_taken (λ (b : Activity). found s b.id ≡ Some b) gone s.plan.activities (each_found s.plan.activities whole.rising) i d lt in
      let stays : among a.id gone ≡ false = stays_there a (each_found (taken s.plan.activities gone) (rising-taken s.plan.activities gone whole.rising) i d lt) in
      record {
        before = here;
        after = found_after.0 i d lt;
        untouched = list_any-append (λ n. eqb n a.id) gone (map id_of more) ∙ (ap (λ b. b || among a.id (map id_of more)) stays ∙ not_among s.plan.activities gone a more can.free here stays);
      }

  same_row : (a : Activity) → IsKept s gone more a → row_of (with_plan gone more s) a ≡ row_of s a
  same_row a kept = can.kept a.id kept.untouched

  same_end : (a : Activity) → IsKept s gone more a → end_at (with_plan gone more s) a ≡ end_at s a
  unfolding end_of
  same_end a kept =
      ap (λ (o : Option Activity). end_in s.model o (row_of (with_plan gone more s) a)) (kept.after ∙ sym kept.before)
      ∙ ap (λ (row : Row). end_in s.model (found s a.id) row) (same_row a kept)

  -- it asks for what it asked for
  pub same_demands : (a : Activity) → IsKept s gone more a → demands_at (with_plan gone more s) a ≡ demands_at s a
  unfolding demands_at
  same_demands a kept =
      ap (λ (row : Row). of_found (λ end. map (asked_for a.id a.start end row) (reservations_of s a)) (end_at (with_plan gone more s) a)) (same_row a kept)
      ∙ ap (λ (o : Option ℕ). of_found (demands_until s a) o) (same_end a kept)

  -- ---- sums

  asked_found : (line : ℕ) (f : Asked → ℤ) (o : Option Activity) → total (part_at line f) (of_found (demands_at s) o) ≡ if_found (λ a. asked_at (demands_at s a) line f) o
  asked_found line f None = refl
  asked_found line f (Some a) = refl

  -- before
  pub asked_before : AreOnce gone → (line : ℕ) (f : Asked → ℤ) → asked_at (demands_of s) line f ≡ asked_at (staying s gone) line f +ℤ asked_at (gone_from s gone) line f
  asked_before once line f = omega (
    arith,
    ints,
    total-flat (part_at line f) (demands_at s) s.plan.activities,
    total-flat (part_at line f) (demands_at s) (taken s.plan.activities gone),
    total-flat (part_at line f) (λ id. of_found (demands_at s) (found s id)) gone,
    total_each (λ id. total (part_at line f) (of_found (demands_at s) (found s id))) (λ id. if_found (λ a. asked_at (demands_at s a) line f) (activity_of id s.plan.activities)) gone (λ i d lt. asked_found line f (found s (get_or gone i d))),
    total_taken (λ a. asked_at (demands_at s a) line f) gone s.plan.activities whole.rising once,
  )

  -- after
  pub asked_after : (line : ℕ) (f : Asked → ℤ) → asked_at (demands_of (with_plan gone more s)) line f ≡ asked_at (staying s gone) line f +ℤ asked_at (coming_to (with_plan gone more s) more) line f
  unfolding replaced
  asked_after line f = omega (
    arith,
    ints,
    total-flat (part_at line f) (demands_at (with_plan gone more s)) (put (taken s.plan.activities gone) more),
    total-flat (part_at line f) (demands_at s) (taken s.plan.activities gone),
    total-flat (part_at line f) (demands_at (with_plan gone more s)) more,
    total_each (λ a. asked_at (demands_at (with_plan gone more s) a) line f) (λ a. asked_at (demands_at s a) line f) (taken s.plan.activities gone) (λ i d lt. ap (λ (ds : List Demand). asked_at ds line f) (same_demands (get_or (taken s.plan.activities gone) i d) (each_kept i d lt))),
    total_put (λ a. asked_at (demands_at (with_plan gone more s) a) line f) (taken s.plan.activities gone) more,
  )
