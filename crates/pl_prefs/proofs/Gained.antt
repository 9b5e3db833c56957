-- What a move of activities gains, by those that it takes out and puts in; how many these are, and that they are live.
use Rattle.std.proofs.Common.{◌≡◌, ℕ, ◌+◌, ◌≤◌, List, [], ◌∷◌, ◌++◌, length, refl, sym, ap, ◌∙◌, subst, arith, ◌-ℤ◌}
use Rattle.std.specs.Prelude.{All, Option, Some, None}
use Rattle.std.proofs.lemmas.List.Elements.{All-nil, All-cons}
use Rattle.pl_points.specs.Sums.{total}
use Rattle.pl_plan.specs.declared.activity.Activity.{Activity}
use Rattle.pl_plan.specs.declared.repair.RepairMove.{RepairMove}
use Rattle.pl_plan.specs.Activities.{activity_of, placed}
use Rattle.pl_plan.proofs.Ids.{length-placed}
use Rattle.pl_plan.proofs.Climbs.{all_at}
use Rattle.pl_semantics.specs.declared.plan_state.PlanState.{PlanState}
use Rattle.pl_semantics.specs.PlanStates.{of_found}
use Rattle.pl_semantics.specs.Moves.{applied}
use Rattle.pl_semantics.specs.Whole.{IsWhole}
use Rattle.pl_update.specs.Changes.Changes.{with_next}
use Rattle.pl_update.specs.Changes.Replaced.{taken, put, replaced, with_plan, CanReplace}
use Rattle.pl_update.proofs.AboutTimelines.Replacing.{whole_after, found_placed}
use Rattle.pl_moves.specs.Changes.{IsOfActivities, gone_by, placed_by}
use Rattle.pl_moves.specs.Runs.{CanBeMade, IsTrialOf}
use Rattle.pl_moves.specs.Undone.{alone, picked}
use Rattle.pl_bounds.proofs.Summing.{once_gone, can_place, placed_is}
use Rattle.pl_prefs.specs.declared.prefer.Prefer.{Prefer}
use Rattle.pl_prefs.specs.Prefers.{IsPreferOf}
use Rattle.pl_prefs.specs.Scores.{score}
use Rattle.pl_prefs.specs.Worths.{worth, gain_of}
use Rattle.pl_prefs.proofs.Changed.{gain_changed}

-- ---- how many come

length_put : (xs more : List Activity) → length (put xs more) ≡ length xs + length more
length_put xs [] = omega arith
length_put xs (a ∷ more) = omega (arith, length_put (placed a xs) more, length-placed a xs)

pub few_placed : (s : PlanState) (gone : List ℕ) (more : List Activity) → IsWhole s → CanReplace s gone more → length more ≤ 10000
unfolding replaced
few_placed s gone more whole can =
    let few : length (put (taken s.plan.activities gone) more) ≤ s.live_limit = can.few in
    omega (arith, few, whole.limit, length_put (taken s.plan.activities gone) more)

-- ---- those that go are live

abbrev IsFoundIn : List Activity → Activity → Type 0
IsFoundIn xs a = activity_of a.id xs ≡ Some a

pub picked_live : (xs : List Activity) (ids : List ℕ) → All (λ a. activity_of a.id xs ≡ Some a) (picked xs ids)
picked_live xs [] = All-nil (IsFoundIn xs)
picked_live xs (id ∷ ids) = by (activity_of id xs) refl (picked_live xs ids)
  where
    by : (o : Option Activity) → activity_of id xs ≡ o → All (IsFoundIn xs) (picked xs ids) → All (IsFoundIn xs) (of_found alone o ++ picked xs ids)
    by None e rest = rest
    by (Some a) e rest =
        let is : a.id ≡ id = (all_at (λ (b : Activity). b ≡ b) xs id a (λ i d lt. refl) e).1 in
        All-cons (IsFoundIn xs) a (picked xs ids) (ap (λ n. activity_of n xs) is ∙ e) rest

-- ---- what a trial gives

module _ (s : PlanState) (m : RepairMove) (gone : List ℕ) (more : List Activity) (leaving : List ℕ) (returning : List Activity) (whole : IsWhole s) (trial : IsTrialOf s m gone more leaving returning) where
  pub whole_then : IsWhole (applied s m)
  whole_then = subst IsWhole trial.undone.made (whole_after s gone more whole trial.undone.can)

  pub live_then : All (λ a. activity_of a.id (applied s m).plan.activities ≡ Some a) more
  live_then = subst (λ (t : PlanState). All (λ a. activity_of a.id t.plan.activities ≡ Some a) more) trial.undone.made (found_placed s gone more whole trial.undone.can)

  pub few_then : length more ≤ 10000
  few_then = few_placed s gone more whole trial.undone.can

  pub live_before : All (λ a. activity_of a.id s.plan.activities ≡ Some a) returning
  live_before = subst (All (λ a. activity_of a.id s.plan.activities ≡ Some a)) (sym trial.returning_is) (picked_live s.plan.activities (gone_by s m))

  pub few_before : length returning ≤ 10000
  few_before = few_placed (applied s m) leaving returning whole_then trial.undone.can_undo

  -- once it is made, and once it is undone
  module _ (t : PlanState) (is : t ≡ with_plan gone more s) where
    at : t ≡ applied s m
    at = is ∙ trial.undone.made

    pub whole_at : IsWhole t
    whole_at = subst IsWhole (sym at) whole_then

    pub live_at : All (λ a. activity_of a.id t.plan.activities ≡ Some a) more
    live_at = subst (λ (u : PlanState). All (λ a. activity_of a.id u.plan.activities ≡ Some a) more) (sym at) live_then

    pub fits_at : (prefers : List Prefer) → All (IsPreferOf s.model) prefers → All (IsPreferOf t.model) prefers
    fits_at prefers fits = subst (λ (u : PlanState). All (IsPreferOf u.model) prefers) (sym is) fits

    pub worth_at : (prefers : List Prefer) → total (worth t prefers) more ≡ total (worth (applied s m) prefers) more
    worth_at prefers = ap (λ (u : PlanState). total (worth u prefers) more) at

    pub can_undo : CanReplace t leaving returning
    can_undo = subst (λ (u : PlanState). CanReplace u leaving returning) (sym at) trial.undone.can_undo

    pub as_before : (u : PlanState) → u ≡ with_plan leaving returning t → with_next s.next_id u ≡ s
    as_before u back = ap (with_next s.next_id) (back ∙ ap (with_plan leaving returning) at) ∙ trial.undone.undone

-- ---- what it gains

module _ (s : PlanState) (m : RepairMove) (whole : IsWhole s) (next : s.next_id ≤ 3999999000) (can : CanBeMade s m) (of : IsOfActivities m) (prefers : List Prefer) where
  pub gain_made : (more returning : List Activity) → more ≡ placed_by s m → returning ≡ picked s.plan.activities (gone_by s m) → total (worth (applied s m) prefers) more -ℤ total (worth s prefers) returning ≡ gain_of s prefers m
  gain_made more returning come go =
      let changed = gain_changed s (gone_by s m) (placed_by s m) whole (can_place s m whole next can of) (once_gone s whole m) prefers in
      let law = subst (λ (t : PlanState). score t prefers -ℤ score s prefers ≡ total (worth t prefers) (placed_by s m) -ℤ total (worth s prefers) (picked s.plan.activities (gone_by s m))) (placed_is s m whole next can of) changed in
      ap (λ (xs : List Activity). total (worth (applied s m) prefers) xs -ℤ total (worth s prefers) returning) come
      ∙ (ap (λ (xs : List Activity). total (worth (applied s m) prefers) (placed_by s m) -ℤ total (worth s prefers) xs) go ∙ sym law)
