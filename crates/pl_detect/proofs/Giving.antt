-- The amounts of reservations by their places: a firm activity has them, and asks by them for what it asks for by its values.
use Rattle.std.proofs.Common.{◌≡◌, ℕ, suc, ◌+◌, ◌++◌, true, List, [], ◌∷◌, length, get_or, map, Option, Some, None, refl, ap, ◌∙◌, subst, arith, ℤ}
use Rattle.std.specs.Prelude.{All, option_and_then}
use Rattle.std.proofs.lemmas.List.{length-map, get_or-map, get_or-append-add, append_assoc, length_push}
use Rattle.pl_model.specs.declared.reservations.Reservation.{Reservation}
use Rattle.pl_model.specs.declared.reservations.Reservation.TheVariants as reservation
use Rattle.pl_model.specs.declared.kinds.Kind.{Kind}
use Rattle.pl_plan.specs.declared.activity.Activity.{Activity}
use Rattle.pl_plan.specs.Activities.{activity_of}
use Rattle.pl_plan.specs.Fitting.{kind_of}
use Rattle.pl_plan.specs.Values.{Row}
use Rattle.pl_plan.specs.Firm.{has_amount, amount_with, amounts_with, amounts_in, amounts_of}
use Rattle.pl_semantics.specs.declared.plan_state.PlanState.{PlanState}
use Rattle.pl_semantics.specs.declared.demand.Demand.{Demand}
use Rattle.pl_semantics.specs.PlanStates.{numbered, reservations_in, row_of, amounts_at}
use Rattle.pl_semantics.specs.Demands.{asked_with, asked_for, demands_until}
use Rattle.pl_detect.specs.Amounts.{is_given, AreGiven, asked_by}

-- ---- they are given

given_one : (values : Row) (r : Reservation) → has_amount values r ≡ true → is_given (amount_with values r) r ≡ true
given_one values (reservation.Take line e) has = has
given_one values (reservation.Raise line e point) has = has
given_one values (reservation.Lower line e point) has = has
given_one values (reservation.Put line state point) has = has
given_one values (reservation.Must line state) has = has

pub given : (values : Row) (rs : List Reservation) → All (λ r. has_amount values r ≡ true) rs → AreGiven (amounts_with values rs) rs
given values rs has = record {
  places = length-map rs (amount_with values);
  each = λ n r lt.
      let is : get_or (map (amount_with values) rs) n None ≡ amount_with values (get_or rs n r) = get_or-map (amount_with values) rs n r None lt in
      rw is (given_one values (get_or rs n r) (has n r lt));
}

-- ---- the same is asked for

module _ (id start end : ℕ) (values : Row) where
  along : (before : Row) (n : ℕ) (rs : List Reservation) → n ≡ length before → map (asked_by id start end (before ++ amounts_with values rs)) (numbered n rs) ≡ map (asked_for id start end values) (numbered n rs)
  along before n [] is = refl
  along before n (r ∷ rs) is =
      let x = amount_with values r in
      let more = amounts_with values rs in
      let place : n ≡ length before + 0 = omega (arith, is) in
      let here : get_or (before ++ x ∷ more) n None ≡ x = ap (λ (i : ℕ). get_or (before ++ x ∷ more) i None) place ∙ get_or-append-add before (x ∷ more) 0 None in
      let head : asked_by id start end (before ++ x ∷ more) (n, r) ≡ asked_for id start end values (n, r) = ap (λ (o : Option ℤ). asked_with id start end o (n, r)) here in
      let same : (before ++ x ∷ []) ++ more ≡ before ++ x ∷ more = append_assoc before (x ∷ []) more in
      let next : suc n ≡ length (before ++ x ∷ []) = omega (arith, is, length_push before x) in
      let rest : map (asked_by id start end (before ++ x ∷ more)) (numbered (suc n) rs) ≡ map (asked_for id start end values) (numbered (suc n) rs) =
      subst (λ (l : Row). map (asked_by id start end l) (numbered (suc n) rs) ≡ map (asked_for id start end values) (numbered (suc n) rs)) same (along (before ++ x ∷ []) (suc n) rs next) in
      ap (λ (d : Demand). d ∷ map (asked_by id start end (before ++ x ∷ more)) (numbered (suc n) rs)) head
      ∙ ap (λ (l : List Demand). asked_for id start end values (n, r) ∷ l) rest

  pub same_asked : (rs : List Reservation) → map (asked_by id start end (amounts_with values rs)) (numbered 0 rs) ≡ map (asked_for id start end values) (numbered 0 rs)
  same_asked rs = along [] 0 rs refl

-- ---- of an activity

-- by its own kind and values
pub amounts_are : (s : PlanState) (a : Activity) → activity_of a.id s.plan.activities ≡ Some a → amounts_at s a ≡ amounts_with (row_of s a) (reservations_in (kind_of s.model a))
unfolding amounts_of
amounts_are s a here = ap (λ (o : Option Activity). amounts_in (option_and_then (kind_of s.model) o) (row_of s a)) here ∙ by_kind (kind_of s.model a)
  where
    by_kind : (o : Option Kind) → amounts_in o (row_of s a) ≡ amounts_with (row_of s a) (reservations_in o)
    by_kind None = refl
    by_kind (Some k) = refl

-- by its amounts it asks for what it asks for
pub asked_of_all : (s : PlanState) (a : Activity) (end : ℕ) → activity_of a.id s.plan.activities ≡ Some a → (amounts : Row) → amounts ≡ amounts_at s a → (rs : List Reservation) → rs ≡ reservations_in (kind_of s.model a) → map (asked_by a.id a.start end amounts) (numbered 0 rs) ≡ demands_until s a end
asked_of_all s a end here amounts are rs is =
    let row = row_of s a in
    let all = reservations_in (kind_of s.model a) in
    ap (λ (l : Row). map (asked_by a.id a.start end l) (numbered 0 rs)) (are ∙ amounts_are s a here)
    ∙ (ap (λ (l : List Reservation). map (asked_by a.id a.start end (amounts_with row all)) (numbered 0 l)) is
    ∙ same_asked a.id a.start end row all)
