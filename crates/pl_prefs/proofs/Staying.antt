-- What an activity counts that neither goes nor comes: as much as before. And the bases of levels count as much.
use Rattle.std.proofs.Common.{◌≡◌, ℕ, ◌-◌, List, refl, ap, pos, ◌*ℤ◌}
use Rattle.std.specs.Prelude.{slice_index_or, None, unwrap_or}
use Rattle.pl_points.specs.Sums.{total}
use Rattle.pl_level.specs.Effects.{counted}
use Rattle.pl_plan.specs.declared.activity.Activity.{Activity}
use Rattle.pl_plan.specs.Values.{Row}
use Rattle.pl_semantics.specs.declared.plan_state.PlanState.{PlanState}
use Rattle.pl_semantics.specs.declared.demand.Demand.{Demand}
use Rattle.pl_semantics.specs.Demands.{since, effects_of}
use Rattle.pl_semantics.specs.Whole.{IsWhole}
use Rattle.pl_update.specs.Changes.Replaced.{with_plan, CanReplace}
use Rattle.pl_update.proofs.AboutTimelines.Listing.{total_same}
use Rattle.pl_update.proofs.AboutTimelines.Replacing.{IsKept, same_demands}
use Rattle.pl_prefs.specs.declared.prefer.Prefer.{Prefer}
use Rattle.pl_prefs.specs.declared.prefer.Prefer.TheVariants.{Early, Late, Value, Level}
use Rattle.pl_prefs.specs.Scores.{of_kind}
use Rattle.pl_prefs.specs.Worths.{while_ahead, worth_for, worth, base_worth}

module _ (s : PlanState) (gone : List ℕ) (more : List Activity) (whole : IsWhole s) (can : CanReplace s gone more) where
  stays_for : (a : Activity) → IsKept s gone more a → (p : Prefer) → worth_for (with_plan gone more s) a p ≡ worth_for s a p
  stays_for a kept (Early kind w) = refl
  stays_for a kept (Late kind w) = refl
  stays_for a kept (Value kind param w) = ap (λ (row : Row). of_kind kind (λ (b : Activity). w *ℤ unwrap_or (slice_index_or row param None) (pos 0)) a) (can.kept a.id kept.untouched)
  stays_for a kept (Level line w) = ap (λ (ds : List Demand). while_ahead s (w *ℤ total (counted (since s line) (s.model.horizon - 1)) (effects_of line ds))) (same_demands s gone more whole can a kept)

  pub worth_stays : (prefers : List Prefer) (a : Activity) → IsKept s gone more a → worth (with_plan gone more s) prefers a ≡ worth s prefers a
  worth_stays prefers a kept = total_same (worth_for (with_plan gone more s) a) (worth_for s a) (stays_for a kept) prefers

  base_stays : (p : Prefer) → base_worth (with_plan gone more s) p ≡ base_worth s p
  base_stays (Early kind w) = refl
  base_stays (Late kind w) = refl
  base_stays (Value kind param w) = refl
  base_stays (Level line w) = refl

  pub bases_stay : (prefers : List Prefer) → total (base_worth (with_plan gone more s)) prefers ≡ total (base_worth s) prefers
  bases_stay prefers = total_same (base_worth (with_plan gone more s)) (base_worth s) base_stays prefers
