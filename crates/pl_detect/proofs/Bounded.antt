-- What each demand keeps, and how few there are.
use Rattle.std.proofs.Common.{◌≡◌, ℕ, suc, ◌+◌, ◌*◌, ◌<◌, ◌≤◌, Bool, true, false, cond, List, [], ◌∷◌, length, get_or, map, Option, Some, None, refl, sym, ap, ◌∙◌, subst, arith, ℤ, pos, negsuc, ◌≤ℤ◌}
use Rattle.std.specs.Prelude.{◌&&◌, All, IfSome, nat_le, int_le, is_some, unwrap_or, option_and_then}
use Rattle.std.specs.Option.{option_map}
use Rattle.std.specs.List.{list_all, flat_map}
use Rattle.std.proofs.lemmas.Bool.{and_parts, leb-true}
use Rattle.std.proofs.lemmas.Int.{ints}
use Rattle.std.proofs.lemmas.Option.{same_Some}
use Rattle.std.proofs.lemmas.List.{length-append, length-map}
use Rattle.std.proofs.lemmas.List.Elements.{All-nil, All-cons, All-head, All-tail, All-append, All-weaker}
use Rattle.std.proofs.lemmas.List.Sums.{AllPass-from_list_all}
use Rattle.pl_lists.proofs.Numbers.{le_from_test}
use Rattle.pl_model.specs.declared.reservations.Point.{Point}
use Rattle.pl_model.specs.declared.reservations.Point.TheVariants.{Start, End}
use Rattle.pl_model.specs.declared.reservations.Reservation.{Reservation}
use Rattle.pl_model.specs.declared.reservations.Reservation.TheVariants as reservation
use Rattle.pl_model.specs.declared.kinds.Kind.{Kind}
use Rattle.pl_model.specs.declared.whole.Model.{Model}
use Rattle.pl_model.specs.Values.{value_of, NamesBelow}
use Rattle.pl_model.specs.Checked.{IsReservation, params_of}
use Rattle.pl_plan.specs.declared.activity.Activity.{Activity}
use Rattle.pl_plan.specs.Activities.{activity_of, AreRising}
use Rattle.pl_plan.specs.Fitting.{FitsAlone, kind_of}
use Rattle.pl_plan.specs.Values.{Row, values_of}
use Rattle.pl_plan.specs.Firm.{is_within, amount_of, has_amount, are_in_range, moments_in, duration_in, is_firm_with, end_with, end_in, end_of}
use Rattle.pl_plan.proofs.Climbs.{all_at}
use Rattle.pl_plan.proofs.Ids.{found_at}
use Rattle.pl_plan.proofs.FirmSteps.{checked_kind, amounts_named}
use Rattle.pl_plan.proofs.ValueLaws.{values_solve}
use Rattle.pl_links.specs.Broken.{point_of}
use Rattle.pl_semantics.specs.declared.plan_state.PlanState.{PlanState}
use Rattle.pl_semantics.specs.declared.demand.Demand.{Demand}
use Rattle.pl_semantics.specs.PlanStates.{numbered, reservations_in, row_of, end_at, of_found}
use Rattle.pl_semantics.specs.Whole.{IsWhole}
use Rattle.pl_semantics.specs.Demands.{asked_for, demands_until, demands_at, demands_of}
use Rattle.pl_detect.specs.Bounds.{IsMoment, IsBounded, IsDemandOf}

-- ---- one demand

amount_within : (o : Option ℤ) → is_within (pos 0) (pos 1000000000) o ≡ true → (pos 0 ≤ℤ unwrap_or o (pos 0)) × (unwrap_or o (pos 0) ≤ℤ pos 1000000000)
amount_within None e = absurd (cc)
amount_within (Some v) e = let both = and_parts (int_le (pos 0) v) (int_le v (pos 1000000000)) e in (le_from_test (pos 0) v both.0, le_from_test v (pos 1000000000) both.1)

-- from a start to an end
abbrev AreEnds : ℕ → ℕ → Type 0
AreEnds start end = IsMoment start × (start < end) × (end ≤ 20000000)

moment_between : (point : Point) (start end : ℕ) → AreEnds start end → IsMoment (point_of point start end)
moment_between Start start end ends = ends.0
moment_between End start end ends = (omega (arith, ends.0.0, ends.1), ends.2)

module _ (model : Model) (params id start end : ℕ) (row : Row) (ends : AreEnds start end) where
  end_moment : IsMoment end
  end_moment = (omega (arith, ends.0.0, ends.1), ends.2)

  one_asked : (n : ℕ) (r : Reservation) → IsReservation model.timelines params r → has_amount row r ≡ true → IsDemandOf model (asked_for id start end row (n, r))
  one_asked n (reservation.Take line e) is amount = let a = amount_within (value_of e row) amount in
      record { bounded = ((ends.1, a.0, omega (arith, ints, a.1)), ends.0, end_moment); of_sort = is.0 }
  one_asked n (reservation.Raise line e point) is amount = let a = amount_within (value_of e row) amount in let m = moment_between point start end ends in
      record { bounded = ((m.0, omega (arith, ints, a.0), omega (arith, ints, a.1)), m); of_sort = is.0 }
  one_asked n (reservation.Lower line e point) is amount = let a = amount_within (value_of e row) amount in let m = moment_between point start end ends in
      record { bounded = ((m.0, omega (arith, ints, a.1), omega (arith, ints, a.0)), m); of_sort = is.0 }
  one_asked n (reservation.Put line state point) is amount = record { bounded = moment_between point start end ends; of_sort = is }
  one_asked n (reservation.Must line state) is amount = record { bounded = (ends.1, ends.0, end_moment); of_sort = is }

  all_asked : (n : ℕ) (rs : List Reservation) → All (IsReservation model.timelines params) rs → list_all (has_amount row) rs ≡ true → All (IsDemandOf model) (map (asked_for id start end row) (numbered n rs))
  all_asked n [] is amounts = All-nil (IsDemandOf model)
  all_asked n (r ∷ rs) is amounts =
      let both = and_parts (has_amount row r) (list_all (has_amount row) rs) amounts in
      All-cons (IsDemandOf model) (asked_for id start end row (n, r)) (map (asked_for id start end row) (numbered (suc n) rs))
      (one_asked n r (All-head (IsReservation model.timelines params) r rs is) both.0)
      (all_asked (suc n) rs (All-tail (IsReservation model.timelines params) r rs is) both.1)

pub length-numbered : {T : Type 0} (n : ℕ) (xs : List T) → length (numbered n xs) ≡ length xs
length-numbered n [] = refl
length-numbered n (x ∷ xs) = ap suc (length-numbered (suc n) xs)

-- ---- a firm activity

-- what is known of an end that was measured: it lies behind the start, and at the horizon at the latest
abbrev pub IsEndWithin : ℕ → ℕ → Option ℕ → Type 0
IsEndWithin horizon start measured = IfSome measured (λ m. (start < m) × (m ≤ horizon))

duration_ends : (horizon start end : ℕ) (measured : Option ℕ) (o : Option ℤ) → IsEndWithin horizon start measured → option_map (λ d. unwrap_or measured (start + d)) (moments_in horizon o) ≡ Some end → (start < end) × (end ≤ start + horizon)
duration_ends horizon start end measured None within e = absurd (cc)
duration_ends horizon start end measured (Some (negsuc n)) within e = absurd (cc)
duration_ends horizon start end measured (Some (pos n)) within e = cases (nat_le 1 n && nat_le n horizon) refl measured within e
  where
    cases : (b : Bool) → (nat_le 1 n && nat_le n horizon) ≡ b → (o : Option ℕ) → IsEndWithin horizon start o → option_map (λ d. unwrap_or o (start + d)) (cond b (Some n) None) ≡ Some end → (start < end) × (end ≤ start + horizon)
    cases false t o h e = absurd (cc)
    cases true t None h e =
        let both = and_parts (nat_le 1 n) (nat_le n horizon) t in
        let is : start + n ≡ end = same_Some (start + n) end e in
        (omega (arith, leb-true 1 n both.0, is), omega (arith, leb-true n horizon both.1, is))
    cases true t (Some m) h e =
        let is : m ≡ end = same_Some m end e in
        (omega (arith, h.0, is), omega (arith, h.1, is))

-- what its kind and its values tell of an activity that is firm
pub record IsFirmUntil (model : Model) (a : Activity) (row : Row) (end : ℕ) (k : Kind) : Type 0 where
  pub kind : kind_of model a ≡ Some k
  pub amounts : list_all (has_amount row) k.reservations ≡ true
  pub ends : IsEndWithin model.horizon a.start a.measured → (a.start < end) × (end ≤ a.start + model.horizon)

firm_end : (model : Model) (a : Activity) (row : Row) (end : ℕ) (k : Kind) → kind_of model a ≡ Some k → end_with model.horizon k a.start a.measured row ≡ Some end → IsFirmUntil model a row end k
firm_end model a row end k kind e = cases (is_firm_with model.horizon k row) refl e
  where
    cases : (b : Bool) → is_firm_with model.horizon k row ≡ b → cond b (option_map (λ d. unwrap_or a.measured (a.start + d)) (duration_in model.horizon k row)) None ≡ Some end → IsFirmUntil model a row end k
    cases false t e = absurd (cc)
    cases true t e =
        let both = and_parts (are_in_range 0 k.params row && is_some (duration_in model.horizon k row)) (list_all (has_amount row) k.reservations) t in
        record { kind = kind; amounts = both.1; ends = λ within. duration_ends model.horizon a.start end a.measured (value_of k.duration row) within e }

pub firm_until : (model : Model) (xs : List Activity) (a : Activity) (end : ℕ) → activity_of a.id xs ≡ Some a → end_of model xs a.id ≡ Some end → (k : Kind) × IsFirmUntil model a (values_of model xs a.id) end k
unfolding end_of
firm_until model xs a end here e =
    let found : end_in model (Some a) (values_of model xs a.id) ≡ Some end = sym (ap (λ o. end_in model o (values_of model xs a.id)) here) ∙ e in
    cases (kind_of model a) refl found
  where
    cases : (o : Option Kind) → kind_of model a ≡ o → option_and_then (λ k. end_with model.horizon k a.start a.measured (values_of model xs a.id)) o ≡ Some end → (k : Kind) × IsFirmUntil model a (values_of model xs a.id) end k
    cases None t e = absurd (cc)
    cases (Some k) t e = (k, firm_end model a (values_of model xs a.id) end k t e)

-- ---- what one activity asks for

pub record MayAsk (row : Row) (rs : List Reservation) : Type 0 where
  pub few : length rs ≤ 32
  pub amounts : All (λ r. has_amount row r ≡ true) rs
  pub names : All (λ r. IfSome (amount_of r) (NamesBelow (length row))) rs

pub record AreBounded (model : Model) (ds : List Demand) : Type 0 where
  pub each : All (IsDemandOf model) ds
  pub few : length ds ≤ 32

module _ (s : PlanState) (whole : IsWhole s) where
  until : (a : Activity) (end : ℕ) → activity_of a.id s.plan.activities ≡ Some a → end_at s a ≡ Some end → AreBounded s.model (demands_until s a end)
  until a end here e =
      let alone = (all_at (FitsAlone s.model) s.plan.activities a.id a whole.fits.each here).0 in
      let firm = firm_until s.model s.plan.activities a end here e in
      let k = firm.0 in
      let is = firm.1 in
      let checked = checked_kind s.model whole.checked a.kind k is.kind in
      let start = alone.start in
      let horizon = whole.checked.horizon in
      let between = is.ends alone.measured in
      let ends : AreEnds a.start end = ((start.0, omega (arith, start.1, horizon.1)), between.0, omega (arith, start.1, horizon.1, between.1)) in
      let P : Option Kind → Type 0 = λ o. AreBounded s.model (map (asked_for a.id a.start end (row_of s a)) (numbered 0 (reservations_in o))) in
      subst P (sym is.kind) (record {
        each = all_asked s.model (length k.params) a.id a.start end (row_of s a) ends 0 k.reservations checked.reservations is.amounts;
        few = rw (length-map, length-numbered) checked.few_reservations;
      })

  -- what its values and its reservations owe
  pub may_ask : (a : Activity) (end : ℕ) → activity_of a.id s.plan.activities ≡ Some a → end_at s a ≡ Some end → MayAsk (row_of s a) (reservations_in (kind_of s.model a))
  may_ask a end here e =
      let firm = firm_until s.model s.plan.activities a end here e in
      let k = firm.0 in
      let is = firm.1 in
      let checked = checked_kind s.model whole.checked a.kind k is.kind in
      let len : length (row_of s a) ≡ length k.params = (values_solve s.model s.plan.activities whole.checked whole.fits.rooted).places a.id a here ∙ ap (λ (o : Option Kind). length (params_of o)) is.kind in
      let P : Option Kind → Type 0 = λ o. MayAsk (row_of s a) (reservations_in o) in
      subst P (sym is.kind) (record {
        few = checked.few_reservations;
        amounts = AllPass-from_list_all (has_amount (row_of s a)) k.reservations is.amounts;
        names = amounts_named s.model k checked (length (row_of s a)) len;
      })

  pub bounded_at : (a : Activity) → activity_of a.id s.plan.activities ≡ Some a → AreBounded s.model (demands_at s a)
  unfolding demands_at
  bounded_at a here = cases (end_at s a) refl
    where
      cases : (o : Option ℕ) → end_at s a ≡ o → AreBounded s.model (of_found (demands_until s a) o)
      cases None e = record { each = All-nil (IsDemandOf s.model); few = omega arith }
      cases (Some end) e = until a end here e

  -- ---- what all ask for

  pub each_live : (i : ℕ) (d : Activity) → i < length s.plan.activities → activity_of (get_or s.plan.activities i d).id s.plan.activities ≡ Some (get_or s.plan.activities i d)
  each_live i d lt = found_at s.plan.activities 0 i (get_or s.plan.activities i d).id d whole.rising lt refl

  all_bounded : All (λ a. AreBounded s.model (demands_at s a)) s.plan.activities
  all_bounded = λ i d lt. bounded_at (get_or s.plan.activities i d) (each_live i d lt)

  pub all_of : All (IsDemandOf s.model) (demands_of s)
  all_of = all_in s.plan.activities all_bounded
    where
      all_in : (xs : List Activity) → All (λ a. AreBounded s.model (demands_at s a)) xs → All (IsDemandOf s.model) (flat_map (demands_at s) xs)
      all_in [] all = All-nil (IsDemandOf s.model)
      all_in (x ∷ xs) all = All-append (IsDemandOf s.model) (demands_at s x) (flat_map (demands_at s) xs)
          (All-head (λ a. AreBounded s.model (demands_at s a)) x xs all).each
          (all_in xs (All-tail (λ a. AreBounded s.model (demands_at s a)) x xs all))

  pub few_of : length (demands_of s) ≤ 320000
  few_of = omega (arith, few_in s.plan.activities all_bounded, whole.live, whole.limit)
    where
      few_in : (xs : List Activity) → All (λ a. AreBounded s.model (demands_at s a)) xs → length (flat_map (demands_at s) xs) ≤ 32 * length xs
      few_in [] all = omega arith
      few_in (x ∷ xs) all =
          let here = (All-head (λ a. AreBounded s.model (demands_at s a)) x xs all).few in
          let more = few_in xs (All-tail (λ a. AreBounded s.model (demands_at s a)) x xs all) in
          omega (arith, length-append (demands_at s x) (flat_map (demands_at s) xs), here, more)

-- ---- for those that go over a list of all

pub bounded_in : (s : PlanState) → IsWhole s → (ds : List Demand) → ds ≡ demands_of s → All (λ d. IsBounded d.asked) ds
bounded_in s whole ds is =
    let P : List Demand → Type 0 = λ xs. All (λ d. IsBounded d.asked) xs in
    subst P (sym is) (All-weaker (IsDemandOf s.model) (λ d. IsBounded d.asked) (λ d of. of.bounded) (demands_of s) (all_of s whole))

pub few_in : (s : PlanState) → IsWhole s → (ds : List Demand) → ds ≡ demands_of s → length ds ≤ 320000
few_in s whole ds is = rw is (few_of s whole)

-- an activity that a loop has come to is live
pub item_live : (xs ys : List Activity) (i : ℕ) (a : Activity) → ys ≡ xs → AreRising xs → i < length ys → a ≡ get_or ys i a → activity_of a.id xs ≡ Some a
item_live xs ys i a same rising lt is =
    let lt' : i < length xs = rw (sym same) lt in
    let is' : a ≡ get_or xs i a = is ∙ ap (λ (zs : List Activity). get_or zs i a) same in
    found_at xs 0 i a.id a rising lt' (ap (λ (x : Activity). x.id) (sym is')) ∙ ap Some (sym is')
