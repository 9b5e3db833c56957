-- What a replacement makes of a timeline at a moment: less by what goes, and more by what comes.
use Rattle.std.proofs.Common.{◌≡◌, ℕ, List, arith, ℤ, ◌+ℤ◌}
use Rattle.std.proofs.lemmas.Int.{ints}
use Rattle.pl_capacity.specs.Uses.{taken_at}
use Rattle.pl_level.specs.Effects.{counted}
use Rattle.pl_plan.specs.declared.activity.Activity.{Activity}
use Rattle.pl_semantics.specs.declared.plan_state.PlanState.{PlanState}
use Rattle.pl_semantics.specs.declared.demand.Asked.{Asked}
use Rattle.pl_semantics.specs.Whole.{IsWhole}
use Rattle.pl_semantics.specs.Demands.{demands_of, use_in, effect_in, since, use_at, level_at}
use Rattle.pl_update.specs.Changes.Replaced.{with_plan, CanReplace}
use Rattle.pl_update.specs.Timelines.Laws.{AreOnce, gone_from, coming_to}
use Rattle.pl_update.proofs.AboutTimelines.Standing.{by_item, asked_items}
use Rattle.pl_update.proofs.AboutTimelines.Replacing.{asked_before, asked_after}
use Rattle.pl_bounds.specs.Pulls.{taken_by, pulled_by}

module _ (s : PlanState) (gone : List ℕ) (more : List Activity) (whole : IsWhole s) (can : CanReplace s gone more) (once : AreOnce gone) (line t : ℕ) where
  pub use_after : (use_at (with_plan gone more s) line t +ℤ taken_by line t (gone_from s gone)) ≡ (use_at s line t +ℤ taken_by line t (coming_to (with_plan gone more s) more))
  unfolding use_at
  use_after =
      let f : Asked → ℤ = by_item use_in (taken_at t) in
      omega (
        arith,
        ints,
        asked_before s gone more whole can once line f,
        asked_after s gone more whole can line f,
        asked_items use_in (taken_at t) line (demands_of s),
        asked_items use_in (taken_at t) line (demands_of (with_plan gone more s)),
        asked_items use_in (taken_at t) line (gone_from s gone),
        asked_items use_in (taken_at t) line (coming_to (with_plan gone more s) more),
      )

  pub level_after : (level_at (with_plan gone more s) line t +ℤ pulled_by s line t (gone_from s gone)) ≡ (level_at s line t +ℤ pulled_by s line t (coming_to (with_plan gone more s) more))
  unfolding level_at
  level_after =
      let g = counted (since s line) t in
      let f : Asked → ℤ = by_item effect_in g in
      omega (
        arith,
        ints,
        asked_before s gone more whole can once line f,
        asked_after s gone more whole can line f,
        asked_items effect_in g line (demands_of s),
        asked_items effect_in g line (demands_of (with_plan gone more s)),
        asked_items effect_in g line (gone_from s gone),
        asked_items effect_in g line (coming_to (with_plan gone more s) more),
      )
