-- What is wrong with states that what comes needs and sets stands once the replacement is made.
use Rattle.std.proofs.Common.{◌≡◌, ℕ, ◌<◌, ◌≤◌, List, Option, Some, None, refl, sym, ap, ◌∙◌, subst, arith, ℤ, pos, negsuc}
use Rattle.std.specs.Prelude.{◌≢◌, slice_get}
use Rattle.std.proofs.lemmas.Int.{ints}
use Rattle.pl_conflict.specs.declared.conflict.Code.TheVariants as code
use Rattle.pl_detect.specs.Based.{IsStateLine}
use Rattle.pl_facts.specs.Bases.{base_of}
use Rattle.pl_model.specs.declared.timelines.Timeline.{Timeline}
use Rattle.pl_model.specs.declared.timelines.Timeline.TheVariants.{States}
use Rattle.pl_plan.specs.declared.activity.Activity.{Activity}
use Rattle.pl_state.specs.declared.reservation.Setting.{Setting}
use Rattle.pl_state.specs.declared.reservation.Must.{Must}
use Rattle.pl_state.specs.Keys.{Has}
use Rattle.pl_state.specs.Sets.{is_allowed}
use Rattle.pl_semantics.specs.declared.plan_state.PlanState.{PlanState}
use Rattle.pl_semantics.specs.declared.demand.Demand.{Demand}
use Rattle.pl_semantics.specs.Demands.{demands_of, moment_of_base, since, state_at}
use Rattle.pl_semantics.specs.Whole.{IsWhole, IsBase}
use Rattle.pl_update.specs.Changes.Replaced.{with_plan}
use Rattle.pl_update.specs.Timelines.Laws.{coming_to, gone_from}
use Rattle.pl_update.proofs.AboutTimelines.StandingApart.{sets_sorted}
use Rattle.pl_update.proofs.AboutTimelines.Replacing.{whole_after}
use Rattle.pl_bounds.specs.Exchanges.{IsExchange}
use Rattle.pl_bounds.specs.Marks.{mark_of, Stands}
use Rattle.pl_bounds.specs.Seen.{DoesNotAllow, EachSet, IsOtherBefore, IsSeen}
use Rattle.pl_bounds.specs.Settings.{HangsOnNone, musts_asked, sets_asked}
use Rattle.pl_bounds.specs.declared.seen.Seen.{Seen}
use Rattle.pl_bounds.proofs.Comers.{entering_is}
use Rattle.pl_bounds.proofs.Needed.{must_stands}
use Rattle.pl_bounds.proofs.States.{comer_there, distinct_sets, must_comes, state_stays}
use Rattle.pl_bounds.proofs.Steps.{entering, step_stands}

-- a base was told at the present or before
pub since_now : (s : PlanState) → IsWhole s → (line : ℕ) → IsStateLine (slice_get s.model.timelines line) → since s line ≤ s.moment
since_now s whole line is = by (slice_get s.model.timelines line) refl is
  where
    by_base : (t : Timeline) → IsStateLine (Some t) → (o : Option (ℤ × ℤ)) → IsBase s.moment t o → moment_of_base o ≤ s.moment
    by_base (States name states start any steps) of None base = absurd base
    by_base (States name states start any steps) of (Some (pos n, v)) base = omega (arith, ints, base.0)
    by_base (States name states start any steps) of (Some (negsuc n, v)) base = omega arith
    by_base _ of o base = absurd (of)

    by : (o : Option Timeline) → slice_get s.model.timelines line ≡ o → IsStateLine o → since s line ≤ s.moment
    by None e of = absurd of
    by (Some t) e of = by_base t of (base_of line s.bases) (whole.bases line t e)

module _ (s : PlanState) (gone : List ℕ) (more : List Activity) (whole : IsWhole s) (going coming : List Demand) (exchange : IsExchange s gone more going coming) (u : Seen) (seen : IsSeen s u) (goes : HangsOnNone s u.line u.at going) where
  abbrev t : PlanState
  t = with_plan gone more s

  -- a state that is needed at that moment
  pub unmet_then : (m : Must) → Has m (musts_asked u.line coming) → m.from ≤ u.at → u.at < m.to → u.state ≢ m.state → HangsOnNone s u.line u.at coming → Stands t (mark_of code.Must m.id m.index)
  unmet_then m needed from to other comes =
      let stays : state_at t u.line u.at ≡ state_at s u.line u.at =
      state_stays s gone more whole exchange.can exchange.once u.line u.at (subst (λ (ds : List Demand). HangsOnNone s u.line u.at ds) exchange.goes goes) (subst (λ (ds : List Demand). HangsOnNone s u.line u.at ds) exchange.comes comes) in
      let there : Has m (musts_asked u.line (demands_of t)) = must_comes s gone more whole exchange.can exchange.once u.line m (subst (λ (ds : List Demand). Has m (musts_asked u.line ds)) exchange.comes needed) in
      must_stands t u.line m u.at seen.line there from to seen.now seen.horizon (λ e. other (sym seen.is ∙ (sym stays ∙ e)))

  -- a step that is taken there
  pub bad_step_then : (x : Setting) → Has x (sets_asked u.line coming) → s.next_id ≤ x.id → u.at ≡ x.at → s.moment < x.at → DoesNotAllow (slice_get s.model.timelines u.line) u.state x.state → EachSet u.line (IsOtherBefore s u x) coming → Stands t (mark_of code.BadStep x.id x.index)
  bad_step_then x asked newest at later forbids comes =
      let new : Has x (sets_asked u.line (coming_to t more)) = subst (λ (ds : List Demand). Has x (sets_asked u.line ds)) exchange.comes asked in
      let hangs : HangsOnNone s u.line x.at (gone_from s gone) = subst (λ (n : ℕ). HangsOnNone s u.line n (gone_from s gone)) at (subst (λ (ds : List Demand). HangsOnNone s u.line u.at ds) exchange.goes goes) in
      let others : EachSet u.line (IsOtherBefore s u x) (coming_to t more) = subst (λ (ds : List Demand). EachSet u.line (IsOtherBefore s u x) ds) exchange.comes comes in
      let from : entering t u.line x ≡ u.state =
      entering_is s gone more whole exchange.can exchange.once u.line x new newest hangs (λ z has first e. others z has first (e ∙ ap (state_at s u.line) (sym at))) ∙ (ap (state_at s u.line) (sym at) ∙ seen.is) in
      let told : since s u.line ≤ s.moment = since_now s whole u.line seen.line in
      let upto : x.at < s.model.horizon = subst (λ (n : ℕ). n < s.model.horizon) at seen.horizon in
      step_stands t u.line forbids.any forbids.steps x (slice_get s.model.timelines u.line) refl forbids.has (sets_sorted u.line (demands_of t)) (distinct_sets t (whole_after s gone more whole exchange.can).rising u.line)
      (comer_there s gone more whole exchange.can exchange.once u.line x new) (omega (arith, told, later)) upto (omega (arith, later)) (ap (λ (n : ℕ). is_allowed forbids.any forbids.steps n x.state) from ∙ forbids.bad)
