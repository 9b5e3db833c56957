-- What hinges of drifts and of activities add is what effects and rates add; and what is asked of reservations, rates and bases.
use Rattle.std.proofs.Common.{◌≡◌, ℕ, zero, suc, ◌+◌, ◌-◌, ◌<◌, Bool, true, false, ◌&&◌, List, [], ◌∷◌, length, map, Option, Some, None, refl, sym, ap, ◌∙◌, subst, arith, eqb, ℤ, pos, ◌+ℤ◌, ◌*ℤ◌, if◌then◌else◌, rules}
use Rattle.std.specs.Prelude.{All, IsSome, is_some, is_none, slice_get, min, max, ◌==◌, nat_lt}
use Rattle.std.proofs.lemmas.Int.{ints}
use Rattle.std.proofs.lemmas.Bool.{eqb-true}
use Rattle.std.proofs.Math.IntN.{*ℤ-zero}
use Rattle.std.proofs.lemmas.List.Elements.{All-weaker}
use Rattle.std.proofs.lemmas.List.Sums.{AllPass-from_list_all}
use Rattle.pl_model.specs.declared.reservations.Reservation.{Reservation}
use Rattle.pl_model.specs.declared.reservations.Reservation.TheVariants as reservation
use Rattle.pl_model.specs.declared.timelines.Timeline.{Timeline}
use Rattle.pl_model.specs.declared.timelines.Timeline.TheVariants as timeline
use Rattle.pl_model.specs.declared.kinds.Kind.{Kind}
use Rattle.pl_model.specs.declared.whole.Model.{Model}
use Rattle.pl_model.specs.Checked.{IsChecked, IsReservation, IsLevelLine}
use Rattle.pl_facts.specs.Bases.{base_of, first_base}
use Rattle.pl_points.specs.Sums.{total}
use Rattle.pl_level.specs.Effects.{counted}
use Rattle.pl_plan.specs.declared.activity.Activity.{Activity}
use Rattle.pl_plan.specs.Activities.{activity_of}
use Rattle.pl_plan.specs.Fitting.{kind_of}
use Rattle.pl_plan.specs.Index.{is_number}
use Rattle.pl_plan.specs.Values.{Row}
use Rattle.pl_plan.specs.Firm.{has_amount, amounts_with}
use Rattle.pl_plan.proofs.FirmSteps.{checked_kind}
use Rattle.pl_semantics.specs.declared.plan_state.PlanState.{PlanState}
use Rattle.pl_semantics.specs.declared.demand.Demand.{Demand}
use Rattle.pl_semantics.specs.PlanStates.{numbered, reservations_in, row_of, amounts_at, end_at, of_found}
use Rattle.pl_semantics.specs.Whole.{IsBase}
use Rattle.pl_semantics.specs.Demands.{since, told, asked_of, effect_in, effects_of, demands_until, demands_at, demands_of, level_at}
use Rattle.pl_detect.specs.Amounts.{AreGiven, asked_by}
use Rattle.pl_detect.proofs.Bounded.{firm_until}
use Rattle.pl_detect.proofs.Giving.{given, amounts_are, asked_of_all}
use Rattle.pl_rate.specs.declared.hinge.Hinge.{Hinge}
use Rattle.pl_rate.specs.declared.rate.Rate.{Rate}
use Rattle.pl_rate.specs.Rates.{IsRateOf}
use Rattle.pl_rate.specs.Fores.{AreBased, AreBasedAsMade, AreBasedAsKept, moments_with, each_moment, is_running, drifted, run, runs, fore}
use Rattle.pl_rate.specs.Hinges.{sum_on, Gains, run_over, since_of, reserved_gain, rate_gain, drift_gain, activity_gain, IsBased, IsUsable}
use Rattle.pl_rate.proofs.Bends.{count_run, count_each}
use Rattle.pl_rate.proofs.Gained.{total_same, total_both, total_none, total_flat, total_map, total_swap, gains_both}

-- ---- bases

first_is : (lines : List Timeline) (line : ℕ) → IsLevelLine (slice_get lines line) → is_some (base_of line (map first_base lines)) ≡ true
first_is [] line level = absurd level
first_is (timeline.Capacity name most ∷ lines) zero level = absurd level
first_is (timeline.Level name least most start ∷ lines) zero level = refl
first_is (timeline.States name states start any steps ∷ lines) zero level = absurd level
first_is (t ∷ lines) (suc line) level = first_is lines line level

some_is : {T : Type 0} (o : Option T) → is_some o ≡ true → IsSome o
some_is None e = absurd (cc)
some_is (Some x) e = search rules

pub level_based : AreBasedAsMade
level_based model bases of line level = some_is (base_of line bases) (of line ∙ first_is model.timelines line level)

level_has : (moment : ℕ) (t : Timeline) (base : Option (ℤ × ℤ)) → IsLevelLine (Some t) → IsBase moment t base → IsSome base
level_has moment (timeline.Capacity name most) base level is = absurd level
level_has moment (timeline.Level name least most start) None level is = absurd is
level_has moment (timeline.Level name least most start) (Some told) level is = search rules
level_has moment (timeline.States name states start any steps) base level is = absurd level

pub kept_based : AreBasedAsKept
kept_based s whole line level = by (slice_get s.model.timelines line) refl level
  where
    by : (o : Option Timeline) → slice_get s.model.timelines line ≡ o → IsLevelLine o → IsSome (base_of line s.bases)
    by None e level = absurd level
    by (Some t) e level = level_has s.moment t (base_of line s.bases) level (whole.bases line t e)

module _ (model : Model) (bases : List (Option (ℤ × ℤ))) (of : AreBased model bases) where
  reservation_based : (params : ℕ) (r : Reservation) → IsReservation model.timelines params r → IsBased bases r
  reservation_based params (reservation.Take line e) is = tt
  reservation_based params (reservation.Raise line e point) is = of line is.0
  reservation_based params (reservation.Lower line e point) is = of line is.0
  reservation_based params (reservation.Put line state point) is = tt
  reservation_based params (reservation.Must line state) is = tt

  pub rate_usable : (r : Rate) → IsRateOf model r → IsUsable bases r
  rate_usable r is = ((is.low, is.high), of r.level is.level_is)

  pub rates_usable : (rates : List Rate) → All (IsRateOf model) rates → All (IsUsable bases) rates
  rates_usable rates all = All-weaker (IsRateOf model) (IsUsable bases) rate_usable rates all

-- ---- a firm activity

pub record IsReady (bases : List (Option (ℤ × ℤ))) (amounts : Row) (rs : List Reservation) : Type 0 where
  pub given : AreGiven amounts rs
  pub based : All (IsBased bases) rs

module _ (s : PlanState) (checked : IsChecked s.model) (of : AreBased s.model s.bases) (a : Activity) (end : ℕ) (here : activity_of a.id s.plan.activities ≡ Some a) (firm : end_at s a ≡ Some end) (amounts : Row) (are : amounts ≡ amounts_at s a) where
  pub ready : (rs : List Reservation) → rs ≡ reservations_in (kind_of s.model a) → IsReady s.bases amounts rs
  ready rs is =
      let until = firm_until s.model s.plan.activities a end here firm in
      let k = until.0 in
      let row = row_of s a in
      let kind = checked_kind s.model checked a.kind k until.1.kind in
      let P : Option Kind → Type 0 = λ o. IsReady s.bases (amounts_with row (reservations_in o)) (reservations_in o) in
      let ready_for : P (Some k) = record {
        given = given row k.reservations (AllPass-from_list_all (has_amount row) k.reservations until.1.amounts);
        based = All-weaker (IsReservation s.model.timelines (length k.params)) (IsBased s.bases) (reservation_based s.model s.bases of (length k.params)) k.reservations kind.reservations;
      } in
      let own : P (kind_of s.model a) = subst P (sym until.1.kind) ready_for in
      let Q : List Reservation → Type 0 = λ l. IsReady s.bases amounts l in
      let R : Row → Type 0 = λ l. IsReady s.bases l (reservations_in (kind_of s.model a)) in
      subst Q (sym is) (subst R (sym (are ∙ amounts_are s a here)) own)

  effects_are : (rs : List Reservation) → rs ≡ reservations_in (kind_of s.model a) → (line t : ℕ) → total (λ x. reserved_gain s.bases a.id a.start end amounts x line t) (numbered 0 rs) ≡ total (counted (since s line) t) (effects_of line (demands_at s a))
  unfolding demands_at
  effects_are rs is line t =
      let f = counted (since s line) t in
      let m = asked_by a.id a.start end amounts in
      let until : demands_until s a end ≡ of_found (demands_until s a) (end_at s a) = sym (ap (λ o. of_found (demands_until s a) o) firm) in
      let mapped : total f (effects_of line (map m (numbered 0 rs))) ≡ total (λ x. total f (asked_of effect_in line (m x))) (numbered 0 rs) =
      total_flat f (asked_of effect_in line) (map m (numbered 0 rs)) ∙ total_map (λ d. total f (asked_of effect_in line d)) m (numbered 0 rs) in
      sym mapped ∙ ap (λ (ds : List Demand). total f (effects_of line ds)) (asked_of_all s a end here amounts are rs is ∙ until)

  rate_is : (line t : ℕ) (r : Rate) → rate_gain s.bases a.kind a.start end r line t ≡ run s line t r a
  rate_is line t r = ap (λ (o : Option ℕ). if (r.level == line) && is_number a.kind r.kind then r.change *ℤ pos (moments_with (is_running a.start o) (since s line) t) else pos 0) (sym firm)

  pub firm_gains : (rates : List Rate) (rs : List Reservation) → rs ≡ reservations_in (kind_of s.model a) → (old mid new : List Hinge) → Gains old mid (λ line t. total (λ x. reserved_gain s.bases a.id a.start end amounts x line t) (numbered 0 rs))
      → Gains mid new (λ line t. total (λ r. rate_gain s.bases a.kind a.start end r line t) rates) → Gains old new (activity_gain s rates a)
  firm_gains rates rs is old mid new effects by_rates =
      gains_both old mid new _ _ _ effects by_rates
      (λ line t.
      ap (λ z. z +ℤ total (λ r. rate_gain s.bases a.kind a.start end r line t) rates) (effects_are rs is line t)
      ∙ ap (λ z. total (counted (since s line) t) (effects_of line (demands_at s a)) +ℤ z) (total_same (λ r. rate_gain s.bases a.kind a.start end r line t) (λ r. run s line t r a) (rate_is line t) rates))

-- one that is not firm adds nothing
no_count : (low t : ℕ) (start : ℕ) → moments_with (is_running start None) low t ≡ 0
no_count low zero start = refl
no_count low (suc t) start = by (nat_lt low (suc t)) (no_count low t start)
  where
    by : (b : Bool) → moments_with (is_running start None) low t ≡ 0 → (if b && false then 1 else 0) + moments_with (is_running start None) low t ≡ 0
    by true e = omega (arith, e)
    by false e = omega (arith, e)

nothing : (b : Bool) (change : ℤ) (n : ℕ) → n ≡ 0 → (if b then change *ℤ pos n else pos 0) ≡ pos 0
nothing true change n e = rw e (*ℤ-zero change)
nothing false change n e = refl

pub idle_gain : (s : PlanState) (rates : List Rate) (a : Activity) → end_at s a ≡ None → (line t : ℕ) → activity_gain s rates a line t ≡ pos 0
unfolding demands_at
idle_gain s rates a none line t =
    let asked : of_found (demands_until s a) (end_at s a) ≡ [] = ap (λ o. of_found (demands_until s a) o) none in
    let effects : total (counted (since s line) t) (effects_of line (demands_at s a)) ≡ pos 0 = ap (λ (ds : List Demand). total (counted (since s line) t) (effects_of line ds)) asked in
    let each : (r : Rate) → run s line t r a ≡ pos 0 = λ r.
    nothing ((r.level == line) && is_number a.kind r.kind) r.change (moments_with (is_running a.start (end_at s a)) (since s line) t)
    (ap (λ (o : Option ℕ). moments_with (is_running a.start o) (since s line) t) none ∙ no_count (since s line) t a.start) in
    omega (arith, ints, effects, total_same (λ r. run s line t r a) (λ r. pos 0) each rates ∙ total_none rates)

-- ---- a rate of a kind, and a drift

pub rate_run : (bases : List (Option (ℤ × ℤ))) (kind start end : ℕ) (r : Rate) (line t : ℕ) → is_number kind r.kind ≡ true → (if r.level == line then run_over (max (since_of bases r.level) start) end r.change t else pos 0) ≡ rate_gain bases kind start end r line t
rate_run bases kind start end r line t number = by (eqb r.level line) refl
  where
    by : (b : Bool) → eqb r.level line ≡ b → (if b then run_over (max (since_of bases r.level) start) end r.change t else pos 0) ≡ (if b && is_number kind r.kind then r.change *ℤ pos (moments_with (is_running start (Some end)) (since_of bases line) t) else pos 0)
    by true e =
        let same : r.level ≡ line = eqb-true r.level line e in
        rw number (ap (λ n. r.change *ℤ pos n) (ap (λ l. min t end - max (since_of bases l) start) same ∙ sym (count_run start end (since_of bases line) t)))
    by false e = refl

pub other_rate : (bases : List (Option (ℤ × ℤ))) (kind start end : ℕ) (r : Rate) (line t : ℕ) → is_number kind r.kind ≡ false → rate_gain bases kind start end r line t ≡ pos 0
other_rate bases kind start end r line t number = by (eqb r.level line)
  where
    by : (b : Bool) → (if b && is_number kind r.kind then r.change *ℤ pos (moments_with (is_running start (Some end)) (since_of bases line) t) else pos 0) ≡ pos 0
    by true = rw number refl
    by false = refl

pub drift_run : (bases : List (Option (ℤ × ℤ))) (horizon : ℕ) (r : Rate) (line t : ℕ) → is_none r.kind ≡ true → (if r.level == line then run_over (since_of bases r.level) horizon r.change t else pos 0) ≡ drift_gain bases horizon r line t
drift_run bases horizon r line t none = by (eqb r.level line) refl
  where
    by : (b : Bool) → eqb r.level line ≡ b → (if b then run_over (since_of bases r.level) horizon r.change t else pos 0) ≡ (if b && is_none r.kind then run_over (since_of bases line) horizon r.change t else pos 0)
    by true e = rw none (ap (λ l. run_over (since_of bases l) horizon r.change t) (eqb-true r.level line e))
    by false e = refl

pub no_drift : (bases : List (Option (ℤ × ℤ))) (horizon : ℕ) (r : Rate) (line t : ℕ) → is_none r.kind ≡ false → drift_gain bases horizon r line t ≡ pos 0
no_drift bases horizon r line t some = by (eqb r.level line)
  where
    by : (b : Bool) → (if b && is_none r.kind then run_over (since_of bases line) horizon r.change t else pos 0) ≡ pos 0
    by true = rw some refl
    by false = refl

-- ---- the whole

module _ (s : PlanState) (rates : List Rate) (line t : ℕ) where
  drift_is : t < s.model.horizon → (r : Rate) → drift_gain s.bases s.model.horizon r line t ≡ drifted s line t r
  drift_is lt r =
      let count : min t s.model.horizon - since s line ≡ moments_with each_moment (since s line) t = let whole : min t s.model.horizon - since s line ≡ t - since s line = omega (arith, lt) in whole ∙ sym (count_each (since s line) t) in
      ap (λ n. if (r.level == line) && is_none r.kind then r.change *ℤ pos n else pos 0) count

  effects_each : total (counted (since s line) t) (effects_of line (demands_of s)) ≡ total (λ a. total (counted (since s line) t) (effects_of line (demands_at s a))) s.plan.activities
  effects_each =
      let f = counted (since s line) t in
      let h = asked_of effect_in line in
      total_flat f h (demands_of s)
      ∙ (total_flat (λ d. total f (h d)) (demands_at s) s.plan.activities
      ∙ total_same (λ a. total (λ d. total f (h d)) (demands_at s a)) (λ a. total f (effects_of line (demands_at s a))) (λ a. sym (total_flat f h (demands_at s a))) s.plan.activities)

  activities_are : total (λ a. activity_gain s rates a line t) s.plan.activities ≡ total (counted (since s line) t) (effects_of line (demands_of s)) +ℤ total (runs s line t) rates
  activities_are =
      total_both (λ a. total (counted (since s line) t) (effects_of line (demands_at s a))) (λ a. total (λ r. run s line t r a) rates) s.plan.activities
      ∙ (ap (λ z. z +ℤ total (λ a. total (λ r. run s line t r a) rates) s.plan.activities) (sym effects_each)
      ∙ ap (λ z. total (counted (since s line) t) (effects_of line (demands_of s)) +ℤ z) (sym (total_swap (λ r a. run s line t r a) rates s.plan.activities)))

  pub fore_is : (hs : List Hinge) → t < s.model.horizon → sum_on hs line t ≡ total (λ r. drift_gain s.bases s.model.horizon r line t) rates +ℤ total (λ a. activity_gain s rates a line t) s.plan.activities → told s line +ℤ sum_on hs line t ≡ fore s rates line t
  unfolding level_at
  fore_is hs lt sum =
      let drifts : total (λ r. drift_gain s.bases s.model.horizon r line t) rates ≡ total (drifted s line t) rates = total_same (λ r. drift_gain s.bases s.model.horizon r line t) (drifted s line t) (drift_is lt) rates in
      omega (arith, ints, sum, drifts, activities_are)
