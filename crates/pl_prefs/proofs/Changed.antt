-- What a replacement of activities does to the score: what those that come count, less what those that go counted.
use Rattle.std.proofs.Common.{◌≡◌, ℕ, suc, eqb, ltb, Bool, true, false, cond, List, [], ◌∷◌, sym, ap, ◌∙◌, arith, ℤ, ◌+ℤ◌, ◌-ℤ◌}
use Rattle.std.specs.Prelude.{Option, Some, None}
use Rattle.std.proofs.lemmas.Int.{ints}
use Rattle.std.proofs.lemmas.Bool.{eqb-false, ne_eqb, or_parts}
use Rattle.std.proofs.lemmas.List.Folds.{list_any_none}
use Rattle.std.proofs.lemmas.List.Elements.{All-weaker}
use Rattle.pl_points.specs.Sums.{total}
use Rattle.pl_plan.specs.declared.activity.Activity.{Activity}
use Rattle.pl_plan.specs.Activities.{AreRising, activity_of, placed, without}
use Rattle.pl_plan.proofs.Ids.{rising-without}
use Rattle.pl_plan.proofs.Lookups.{found-without}
use Rattle.pl_semantics.specs.declared.plan_state.PlanState.{PlanState}
use Rattle.pl_semantics.specs.PlanStates.{of_found, among}
use Rattle.pl_semantics.specs.Whole.{IsWhole}
use Rattle.pl_update.specs.Changes.Replaced.{taken, put, replaced, with_plan, CanReplace}
use Rattle.pl_update.specs.Timelines.Laws.{AreOnce}
use Rattle.pl_update.proofs.AboutTimelines.Listing.{total_each, total-append}
use Rattle.pl_update.proofs.AboutTimelines.Replacing.{IsKept, each_kept}
use Rattle.pl_moves.specs.Undone.{alone, picked}
use Rattle.pl_prefs.specs.declared.prefer.Prefer.{Prefer}
use Rattle.pl_prefs.specs.Scores.{score}
use Rattle.pl_prefs.specs.Worths.{worth}
use Rattle.pl_prefs.proofs.Apart.{score_is_apart}
use Rattle.pl_prefs.proofs.Staying.{worth_stays, bases_stay}

-- ---- those that come

total_placed : (g : Activity → ℤ) (a : Activity) (xs : List Activity) → total g (placed a xs) ≡ total g xs +ℤ g a
total_placed g a [] = omega (arith, ints)
total_placed g a (x ∷ xs) = by (ltb x.id a.id) (total_placed g a xs)
  where
    by : (b : Bool) → total g (placed a xs) ≡ total g xs +ℤ g a → total g (cond b (x ∷ placed a xs) (a ∷ x ∷ xs)) ≡ (g x +ℤ total g xs) +ℤ g a
    by true more = omega (arith, ints, more)
    by false more = omega (arith, ints)

total_put : (g : Activity → ℤ) (xs more : List Activity) → total g (put xs more) ≡ total g xs +ℤ total g more
total_put g xs [] = omega (arith, ints)
total_put g xs (a ∷ more) = omega (arith, ints, total_put g (placed a xs) more, total_placed g a xs)

-- ---- those that go

abbrev of_one : (Activity → ℤ) → Option Activity → ℤ
of_one g o = total g (of_found alone o)

total_without : (g : Activity → ℤ) (id : ℕ) (xs : List Activity) → total g xs ≡ total g (without id xs) +ℤ of_one g (activity_of id xs)
total_without g id [] = omega (arith, ints)
total_without g id (x ∷ xs) = by (eqb x.id id) (total_without g id xs)
  where
    by : (b : Bool) → total g xs ≡ total g (without id xs) +ℤ of_one g (activity_of id xs) → (g x +ℤ total g xs) ≡ total g (cond b xs (x ∷ without id xs)) +ℤ of_one g (cond b (Some x) (activity_of id xs))
    by true more = omega (arith, ints)
    by false more = omega (arith, ints, more)

-- the other ids find what they found
picked_still : (g : Activity → ℤ) (id : ℕ) (xs : List Activity) (gone : List ℕ) → AreRising xs → among id gone ≡ false → total g (picked (without id xs) gone) ≡ total g (picked xs gone)
picked_still g id xs [] rising none = omega (arith, ints)
picked_still g id xs (n ∷ gone) rising none =
    let both = or_parts (eqb n id) (among id gone) none in
    let other : eqb id n ≡ false = ne_eqb id n (λ e. eqb-false n id both.0 (sym e)) in
    let same : activity_of n (without id xs) ≡ activity_of n xs = found-without id 0 xs n rising ∙ ap (λ b. cond b None (activity_of n xs)) other in
    omega (
      arith,
      ints,
      total-append g (of_found alone (activity_of n (without id xs))) (picked (without id xs) gone),
      total-append g (of_found alone (activity_of n xs)) (picked xs gone),
      ap (of_one g) same,
      picked_still g id xs gone rising both.1,
    )

-- no id goes twice
none_twice : (id : ℕ) (gone : List ℕ) → AreOnce (id ∷ gone) → (among id gone ≡ false) × AreOnce gone
none_twice id gone once = (
  list_any_none (λ i. eqb i id) gone (λ k d lt. ne_eqb _ _ (λ e. once 0 (suc k) d (omega arith) (omega (arith, lt)) (sym e))),
  λ i j d lt within. once (suc i) (suc j) d (omega (arith, lt)) (omega (arith, within)),
)

total_taken : (g : Activity → ℤ) (gone : List ℕ) (xs : List Activity) → AreRising xs → AreOnce gone → total g xs ≡ total g (taken xs gone) +ℤ total g (picked xs gone)
total_taken g [] xs rising once = omega (arith, ints)
total_taken g (id ∷ gone) xs rising once =
    let apart = none_twice id gone once in
    omega (
      arith,
      ints,
      total_without g id xs,
      total_taken g gone (without id xs) (rising-without id 0 xs rising) apart.1,
      picked_still g id xs gone rising apart.0,
      total-append g (of_found alone (activity_of id xs)) (picked xs gone),
    )

-- ---- the score

module _ (s : PlanState) (gone : List ℕ) (more : List Activity) (whole : IsWhole s) (can : CanReplace s gone more) (once : AreOnce gone) (prefers : List Prefer) where
  -- those that stay count what they counted
  staying : total (worth (with_plan gone more s) prefers) (taken s.plan.activities gone) ≡ total (worth s prefers) (taken s.plan.activities gone)
  staying =
      total_each (worth (with_plan gone more s) prefers) (worth s prefers) (taken s.plan.activities gone)
      (All-weaker (IsKept s gone more) (λ (a : Activity). worth (with_plan gone more s) prefers a ≡ worth s prefers a) (worth_stays s gone more whole can prefers) (taken s.plan.activities gone) (each_kept s gone more whole can))

  sum_then : total (worth (with_plan gone more s) prefers) (replaced s.plan.activities gone more) ≡ total (worth s prefers) (taken s.plan.activities gone) +ℤ total (worth (with_plan gone more s) prefers) more
  unfolding replaced
  sum_then = total_put (worth (with_plan gone more s) prefers) (taken s.plan.activities gone) more ∙ ap (λ (z : ℤ). z +ℤ total (worth (with_plan gone more s) prefers) more) staying

  pub gain_changed : score (with_plan gone more s) prefers -ℤ score s prefers ≡ total (worth (with_plan gone more s) prefers) more -ℤ total (worth s prefers) (picked s.plan.activities gone)
  gain_changed = omega (
    arith,
    ints,
    score_is_apart (with_plan gone more s) prefers,
    score_is_apart s prefers,
    bases_stay s gone more whole can prefers,
    sum_then,
    total_taken (worth s prefers) gone s.plan.activities whole.rising once,
  )
