-- The forecast by hinges is the one that is meant.
use Rattle.std.proofs.Common.{◌≡◌, ⊎_elim, ℕ, suc, ◌-◌, ◌≤◌, ◌<◌, Bool, true, false, List, [], ◌∷◌, ◌++◌, map, Option, Some, refl, sym, ap, ◌∙◌, subst, arith, append_assoc, ℤ, ◌+ℤ◌}
use Rattle.std.specs.Prelude.{min, int_lt}
use Rattle.std.specs.List.{flat_map}
use Rattle.std.proofs.lemmas.Bool.{cases_lt}
use Rattle.pl_model.specs.declared.timelines.Timeline.{Timeline}
use Rattle.pl_model.specs.declared.timelines.Timeline.TheVariants as timeline
use Rattle.pl_model.specs.declared.whole.Model.{Model}
use Rattle.pl_facts.specs.Bases.{base_of}
use Rattle.pl_points.specs.declared.span.Span.{Span}
use Rattle.pl_points.specs.declared.limit.Limit.{Limit}
use Rattle.pl_points.specs.Spans.{spans_of, span}
use Rattle.pl_points.specs.Limits.{is_outside}
use Rattle.pl_points.proofs.Maximal.{local}
use Rattle.pl_plan.specs.State.{PlanValue}
use Rattle.pl_semantics.specs.declared.plan_state.PlanState.{PlanState}
use Rattle.pl_semantics.specs.PlanStates.{numbered}
use Rattle.pl_semantics.specs.Demands.{told, value_of_base, level_at, demands_at}
use Rattle.pl_rate.specs.Courses.{sum_of}
use Rattle.pl_rate.specs.declared.hinge.Hinge.{Hinge}
use Rattle.pl_rate.specs.declared.rate.Rate.{Rate}
use Rattle.pl_rate.specs.declared.outside.Outside.{Outside}
use Rattle.pl_rate.specs.Fores.{fore, outside, outsides, lows, highs, forecast_of, Has}
use Rattle.pl_rate.specs.Hinges.{sum_on, seen, level_by, lows_by, highs_by, outsides_by}

-- ---- windows

abbrev pub window_of : ℕ → ℕ → Span
window_of now horizon = span (min now horizon) horizon

-- where the present is past the horizon, there is no moment in either
same_window : (P Q : ℕ → Bool) (now horizon : ℕ) → ((t : ℕ) → t < horizon → P t ≡ Q t) → spans_of P (min now horizon) (horizon - min now horizon) ≡ spans_of Q now (horizon - now)
same_window P Q now horizon same =
    ⊎_elim
    (λ (past : horizon < now).
    let none : horizon - min now horizon ≡ 0 = omega (arith, past) in
    let none' : horizon - now ≡ 0 = omega (arith, past) in
    rw (none, none') refl)
    (λ (before : now ≤ horizon).
    let is : min now horizon ≡ now = omega (arith, before) in
    rw is (local P Q now (horizon - now) (λ t low lt. same t (omega (arith, before, lt)))))
    (cases_lt horizon now)

-- ---- each line

module _ (s : PlanState) (rates : List Rate) (hs : List Hinge) (known : (line t : ℕ) → t < s.model.horizon → level_by hs s.bases line t ≡ fore s rates line t) where
  lows_are : (line : ℕ) (least : ℤ) → lows_by hs s.bases (window_of s.moment s.model.horizon) line least ≡ lows s rates line least
  lows_are line least = ap (map (outside line false)) (same_window (λ t. int_lt (level_by hs s.bases line t) least) (λ t. int_lt (fore s rates line t) least) s.moment s.model.horizon (λ t lt. ap (λ z. int_lt z least) (known line t lt)))

  highs_are : (line : ℕ) (most : ℤ) → highs_by hs s.bases (window_of s.moment s.model.horizon) line most ≡ highs s rates line most
  highs_are line most = ap (map (outside line true)) (same_window (λ t. int_lt most (level_by hs s.bases line t)) (λ t. int_lt most (fore s rates line t)) s.moment s.model.horizon (λ t lt. ap (λ z. int_lt most z) (known line t lt)))

  one_is : (line : ℕ) (t : Timeline) → outsides_by hs s.bases (window_of s.moment s.model.horizon) (line, t) ≡ outsides s rates (line, t)
  one_is line (timeline.Capacity name most) = refl
  one_is line (timeline.Level name least most start) =
      ap (λ l. l ++ highs_by hs s.bases (window_of s.moment s.model.horizon) line most) (lows_are line least)
      ∙ ap (λ l. lows s rates line least ++ l) (highs_are line most)
  one_is line (timeline.States name states start any steps) = refl

  all_are : (n : ℕ) (ts : List Timeline) → flat_map (outsides_by hs s.bases (window_of s.moment s.model.horizon)) (numbered n ts) ≡ flat_map (outsides s rates) (numbered n ts)
  all_are n [] = refl
  all_are n (t ∷ ts) =
      ap (λ l. l ++ flat_map (outsides_by hs s.bases (window_of s.moment s.model.horizon)) (numbered (suc n) ts)) (one_is n t)
      ∙ ap (λ l. outsides s rates (n, t) ++ l) (all_are (suc n) ts)

  forecast_is : flat_map (outsides_by hs s.bases (window_of s.moment s.model.horizon)) (numbered 0 s.model.timelines) ≡ forecast_of s rates
  unfolding forecast_of
  forecast_is = all_are 0 s.model.timelines

-- ---- of every such plan state

-- the levels by hinges are those by rates before the horizon
abbrev pub AreKnown : List Hinge → List Rate → Model → PlanValue → List (Option (ℤ × ℤ)) → Type 0
AreKnown hs rates model plan bases = (line t : ℕ) → t < model.horizon → told (seen model plan bases 0) line +ℤ sum_on hs line t ≡ fore (seen model plan bases 0) rates line t

seen_same : (s : PlanState) (rates : List Rate) (line t : ℕ) → fore (seen s.model s.plan s.bases 0) rates line t ≡ fore s rates line t
unfolding level_at demands_at
seen_same s rates line t = refl

by_own : (s : PlanState) (rates : List Rate) (hs : List Hinge) → AreKnown hs rates s.model s.plan s.bases → flat_map (outsides_by hs s.bases (window_of s.moment s.model.horizon)) (numbered 0 s.model.timelines) ≡ forecast_of s rates
by_own s rates hs known = forecast_is s rates hs (λ line t lt. known line t lt ∙ seen_same s rates line t)

pub forecasts : (hs : List Hinge) (rates : List Rate) (model : Model) (plan : PlanValue) (bases : List (Option (ℤ × ℤ))) (now : ℕ) → AreKnown hs rates model plan bases
    → (s : PlanState) → Has s model plan bases now → flat_map (outsides_by hs bases (window_of now model.horizon)) (numbered 0 model.timelines) ≡ forecast_of s rates
forecasts hs rates model plan bases now known s has =
    let L : Model → List (Option (ℤ × ℤ)) → ℕ → List Outside = λ m b n. flat_map (outsides_by hs b (window_of n m.horizon)) (numbered 0 m.timelines) in
    let of_model : AreKnown hs rates s.model plan bases = subst (λ m. AreKnown hs rates m plan bases) (sym has.of_model) known in
    let of_plan : AreKnown hs rates s.model s.plan bases = subst (λ p. AreKnown hs rates s.model p bases) (sym has.of_plan) of_model in
    let of_bases : AreKnown hs rates s.model s.plan s.bases = subst (λ b. AreKnown hs rates s.model s.plan b) (sym has.of_bases) of_plan in
    let at : L model bases now ≡ L s.model s.bases s.moment =
    ap (λ m. L m bases now) (sym has.of_model) ∙ (ap (λ b. L s.model b now) (sym has.of_bases) ∙ ap (λ n. L s.model s.bases n) (sym has.at)) in
    at ∙ by_own s rates hs of_bases

-- ---- one level

-- the spans of the value that own hinges make are those of the level by all
pub spans_same : (hs own : List Hinge) (bases : List (Option (ℤ × ℤ))) (line : ℕ) (told : ℤ × ℤ) (limit : Limit) (a n : ℕ) → base_of line bases ≡ Some told → ((t : ℕ) → sum_of own t ≡ sum_on hs line t)
    → spans_of (λ t. is_outside limit (told.1 +ℤ sum_of own t)) a n ≡ spans_of (λ t. is_outside limit (level_by hs bases line t)) a n
spans_same hs own bases line told limit a n base sums =
    local _ _ a n (λ t low lt. ap (is_outside limit) (ap (λ z. told.1 +ℤ z) (sums t) ∙ ap (λ (o : Option (ℤ × ℤ)). value_of_base o +ℤ sum_on hs line t) (sym base)))

-- two lists put behind one
pub both_put : (old mid new one other : List Outside) → mid ≡ old ++ one → new ≡ mid ++ other → new ≡ old ++ (one ++ other)
both_put old mid new one other first second = second ∙ (ap (λ l. l ++ other) first ∙ append_assoc old one other)
