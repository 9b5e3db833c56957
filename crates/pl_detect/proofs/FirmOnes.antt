-- A firm activity has all its values, its duration and its amounts, in range: nothing of it is unset or bad.
use Rattle.std.proofs.Common.{◌≡◌, ℕ, zero, suc, ◌+◌, ◌<◌, Bool, true, false, cond, not, ◌&&◌, List, [], ◌∷◌, ◌++◌, length, get_or, ℤ, pos, negsuc, nat_le, Option, Some, None, is_some, is_none, append-nil, option_map, refl, sym, ap, ◌∙◌, subst, arith}
use Rattle.std.specs.Prelude.{unwrap_or}
use Rattle.std.specs.List.{list_all, flat_map}
use Rattle.std.proofs.lemmas.Bool.{and_parts, and_right, or_from}
use Rattle.pl_conflict.specs.declared.conflict.Conflict.{Conflict}
use Rattle.pl_conflict.specs.declared.conflict.Code.TheVariants.{Unset, BadValue}
use Rattle.pl_model.specs.declared.expressions.Expr.{Expr}
use Rattle.pl_model.specs.declared.parameters.Param.{Param}
use Rattle.pl_model.specs.declared.parameters.Origin.{Origin}
use Rattle.pl_model.specs.declared.parameters.Origin.TheVariants.{Free, Dependent}
use Rattle.pl_model.specs.declared.reservations.Reservation.{Reservation}
use Rattle.pl_model.specs.declared.kinds.Kind.{Kind}
use Rattle.pl_model.specs.Values.{value_of}
use Rattle.pl_model.specs.Checked.{params_of}
use Rattle.pl_plan.specs.declared.activity.Activity.{Activity}
use Rattle.pl_plan.specs.Activities.{activity_of}
use Rattle.pl_plan.specs.Fitting.{kind_of}
use Rattle.pl_plan.specs.Values.{Row, binding_of, values_of}
use Rattle.pl_plan.specs.Laws.{MeansValue, above_of}
use Rattle.pl_plan.specs.Firm.{is_within, are_in_range, is_amount, has_amount, amount_of, moments_in, duration_in, is_firm_with, end_with}
use Rattle.pl_plan.specs.Known.{is_known, lacks_value, is_outside, is_bad, lacks_by, is_bad_param, is_bad_amount_of, is_unset}
use Rattle.pl_plan.proofs.ValueLaws.{values_solve}
use Rattle.pl_plan.proofs.FirmSteps.{end_is}
use Rattle.pl_semantics.specs.declared.plan_state.PlanState.{PlanState}
use Rattle.pl_semantics.specs.PlanStates.{row_of, end_at, numbered, reservations_in, of_found, when}
use Rattle.pl_semantics.specs.Whole.{IsWhole}
use Rattle.pl_semantics.specs.Activities.{at_start, bindings_of, row_above, unset_one, unset_at, bad_param, bad_duration, bad_amount, bad_values_at}

-- ---- one value

does_not_lack : (row : Row) (e : Expr) (v : ℤ) → Some v ≡ value_of e row → lacks_value row e ≡ false
does_not_lack row e v is = and_right (is_known row e) (is_none (value_of e row)) (ap is_none (sym is))

-- an expression that has a value in range is not bad
is_good : (low high : ℤ) (row : Row) (e : Expr) → is_within low high (value_of e row) ≡ true → is_bad low high row e ≡ false
is_good low high row e within = by (value_of e row) refl within
  where
    by : (o : Option ℤ) → value_of e row ≡ o → is_within low high o ≡ true → is_bad low high row e ≡ false
    by None is t = absurd (cc)
    by (Some v) is t = or_from (is_outside low high (value_of e row)) (lacks_value row e) (ap (is_outside low high) is ∙ ap not t) (does_not_lack row e v (sym is))

-- what gives a parameter the value that it has lacks none
is_given : (binding : Option Expr) (origin : Origin) (set : Option ℤ) (above own : Row) (v : ℤ) → MeansValue binding origin set above own (Some v) → lacks_by binding origin above own ≡ false
is_given (Some e) origin set above own v means = does_not_lack above e v (means.bound e refl)
is_given None (Free default) set above own v means = refl
is_given None (Dependent e) set above own v means = does_not_lack own e v (means.dependent e refl refl)

is_good_param : (binding : Option Expr) (p : Param) (set : Option ℤ) (above own : Row) (value : Option ℤ) → MeansValue binding p.origin set above own value → is_within p.low p.high value ≡ true → is_bad_param binding p above own value ≡ false
is_good_param binding p set above own None means t = absurd (cc)
is_good_param binding p set above own (Some v) means t = or_from (is_outside p.low p.high (Some v)) (lacks_by binding p.origin above own) (ap not t) (is_given binding p.origin set above own v means)

has_value : (binding : Option Expr) (origin : Origin) (low high : ℤ) (value : Option ℤ) → is_within low high value ≡ true → is_unset binding origin value ≡ false
has_value binding origin low high None t = absurd (cc)
has_value (Some e) origin low high (Some v) t = refl
has_value None (Free default) low high (Some v) t = refl
has_value None (Dependent e) low high (Some v) t = refl

is_good_amount : (row : Row) (o : Option Expr) → is_amount row o ≡ true → is_bad_amount_of row o ≡ false
is_good_amount row None t = refl
is_good_amount row (Some e) t = is_good (pos 0) (pos 1000000000) row e t

duration_within : (horizon : ℕ) (o : Option ℤ) → is_some (moments_in horizon o) ≡ true → is_within (pos 1) (pos horizon) o ≡ true
duration_within horizon None t = absurd (cc)
duration_within horizon (Some (negsuc n)) t = absurd (cc)
duration_within horizon (Some (pos n)) t = cases (nat_le 1 n && nat_le n horizon) refl t
  where
    cases : (b : Bool) → (nat_le 1 n && nat_le n horizon) ≡ b → is_some (cond b (Some n) None) ≡ true → (nat_le 1 n && nat_le n horizon) ≡ true
    cases true is t = is
    cases false is t = absurd (cc)

-- ---- firmness

firm_by_end : (horizon : ℕ) (k : Kind) (start : ℕ) (measured : Option ℕ) (row : Row) (end : ℕ) → end_with horizon k start measured row ≡ Some end → is_firm_with horizon k row ≡ true
firm_by_end horizon k start measured row end e = cases (is_firm_with horizon k row) refl e
  where
    cases : (b : Bool) → is_firm_with horizon k row ≡ b → cond b (option_map (λ d. unwrap_or measured (start + d)) (duration_in horizon k row)) None ≡ Some end → is_firm_with horizon k row ≡ true
    cases true is t = is
    cases false is t = absurd (cc)

-- ---- all values of one activity

none_of_two : (xs ys : List Conflict) → xs ≡ [] → ys ≡ [] → xs ++ ys ≡ []
none_of_two xs ys x y = rw (x, y) refl

module _ (s : PlanState) (a : Activity) where
  none_unset : (n : ℕ) (ps : List Param) → are_in_range n ps (row_of s a) ≡ true → flat_map (unset_one s a) (numbered n ps) ≡ []
  none_unset n [] t = refl
  none_unset n (p ∷ ps) t =
      let both = and_parts (is_within p.low p.high (get_or (row_of s a) n None)) (are_in_range (suc n) ps (row_of s a)) t in
      none_of_two (unset_one s a (n, p)) (flat_map (unset_one s a) (numbered (suc n) ps))
      (ap (λ b. when b (at_start a Unset n 0)) (has_value (binding_of n (bindings_of s a)) p.origin p.low p.high (get_or (row_of s a) n None) both.0))
      (none_unset (suc n) ps both.1)

  -- what the parameter of this number means, if this is its origin
  abbrev IsMeant : ℕ → Origin → Type 0
  IsMeant n origin = MeansValue (binding_of n (bindings_of s a)) origin (get_or a.set n None) (row_above s a.parent) (row_of s a) (get_or (row_of s a) n None)

  none_bad : (n : ℕ) (ps : List Param) → ((i : ℕ) (d : Param) → i < length ps → IsMeant (i + n) (get_or ps i d).origin) → are_in_range n ps (row_of s a) ≡ true → flat_map (bad_param s a) (numbered n ps) ≡ []
  none_bad n [] means t = refl
  none_bad n (p ∷ ps) means t =
      let both = and_parts (is_within p.low p.high (get_or (row_of s a) n None)) (are_in_range (suc n) ps (row_of s a)) t in
      let zeroth : 0 + n ≡ n = omega arith in
      none_of_two (bad_param s a (n, p)) (flat_map (bad_param s a) (numbered (suc n) ps))
      (ap (λ b. when b (at_start a BadValue n 0)) (is_good_param (binding_of n (bindings_of s a)) p (get_or a.set n None) (row_above s a.parent) (row_of s a) (get_or (row_of s a) n None) (subst (λ m. IsMeant m p.origin) zeroth (means zero p (omega arith))) both.0))
      (none_bad (suc n) ps (λ i d lt. let next : suc i + n ≡ i + suc n = omega arith in subst (λ m. IsMeant m (get_or ps i d).origin) next (means (suc i) d (omega (arith, lt)))) both.1)

  none_short : (n : ℕ) (rs : List Reservation) → list_all (has_amount (row_of s a)) rs ≡ true → flat_map (bad_amount s a) (numbered n rs) ≡ []
  none_short n [] t = refl
  none_short n (r ∷ rs) t =
      let both = and_parts (has_amount (row_of s a) r) (list_all (has_amount (row_of s a)) rs) t in
      none_of_two (bad_amount s a (n, r)) (flat_map (bad_amount s a) (numbered (suc n) rs))
      (ap (λ b. when b (at_start a BadValue (17 + n) 0)) (is_good_amount (row_of s a) (amount_of r) both.0))
      (none_short (suc n) rs both.1)

  duration_good : (k : Kind) → is_some (duration_in s.model.horizon k (row_of s a)) ≡ true → bad_duration s a k ≡ []
  duration_good k t =
      let within : is_within (pos 1) (pos s.model.horizon) (value_of k.duration (row_of s a)) ≡ true = duration_within s.model.horizon (value_of k.duration (row_of s a)) t in
      ap (λ b. when b (at_start a BadValue 16 0)) (is_good (pos 1) (pos s.model.horizon) (row_of s a) k.duration within)

  above_is : (o : Option (ℕ × ℕ)) → above_of (values_of s.model s.plan.activities) o ≡ row_above s o
  above_is None = refl
  above_is (Some p) = refl

  module _ (whole : IsWhole s) (live : activity_of a.id s.plan.activities ≡ Some a) (k : Kind) (kind : kind_of s.model a ≡ Some k) where
    means_at : (i : ℕ) (d : Param) → i < length k.params → IsMeant (i + 0) (get_or k.params i d).origin
    means_at i d lt =
        let M : List Param → Row → ℕ → Type 0 = λ ps above m. MeansValue (binding_of m (bindings_of s a)) (get_or ps i d).origin (get_or a.set m None) above (row_of s a) (get_or (row_of s a) m None) in
        let same : params_of (kind_of s.model a) ≡ k.params = ap params_of kind in
        let lt' : i < length (params_of (kind_of s.model a)) = subst (λ (ps : List Param). i < length ps) (sym same) lt in
        let m : M (params_of (kind_of s.model a)) (above_of (values_of s.model s.plan.activities) a.parent) i = (values_solve s.model s.plan.activities whole.checked whole.fits.rooted).means a.id a i d live lt' in
        let at : i ≡ i + 0 = omega arith in
        subst (M k.params (row_above s a.parent)) at
        (subst (λ above. M k.params above i) (above_is a.parent)
        (subst (λ ps. M ps (above_of (values_of s.model s.plan.activities) a.parent) i) same m))

    module _ (end : ℕ) (firm : end_at s a ≡ Some end) where
      is_firm : is_firm_with s.model.horizon k (row_of s a) ≡ true
      is_firm = firm_by_end s.model.horizon k a.start a.measured (row_of s a) end (end_is s.model s.plan.activities a.id a k (row_of s a) live kind refl ∙ firm)

      are_values : (are_in_range 0 k.params (row_of s a) && is_some (duration_in s.model.horizon k (row_of s a))) ≡ true
      are_values = (and_parts (are_in_range 0 k.params (row_of s a) && is_some (duration_in s.model.horizon k (row_of s a))) (list_all (has_amount (row_of s a)) k.reservations) is_firm).0

      are_amounts : list_all (has_amount (row_of s a)) k.reservations ≡ true
      are_amounts = (and_parts (are_in_range 0 k.params (row_of s a) && is_some (duration_in s.model.horizon k (row_of s a))) (list_all (has_amount (row_of s a)) k.reservations) is_firm).1

      in_range : are_in_range 0 k.params (row_of s a) ≡ true
      in_range = (and_parts (are_in_range 0 k.params (row_of s a)) (is_some (duration_in s.model.horizon k (row_of s a))) are_values).0

      has_duration : is_some (duration_in s.model.horizon k (row_of s a)) ≡ true
      has_duration = (and_parts (are_in_range 0 k.params (row_of s a)) (is_some (duration_in s.model.horizon k (row_of s a))) are_values).1

      firm_unset : unset_at s a ≡ []
      firm_unset = ap (λ o. flat_map (unset_one s a) (numbered 0 (params_of o))) kind ∙ none_unset 0 k.params in_range

      firm_params : flat_map (bad_param s a) (numbered 0 (params_of (kind_of s.model a))) ≡ []
      firm_params = ap (λ o. flat_map (bad_param s a) (numbered 0 (params_of o))) kind ∙ none_bad 0 k.params means_at in_range

      firm_duration : of_found (bad_duration s a) (kind_of s.model a) ≡ []
      firm_duration = ap (of_found (bad_duration s a)) kind ∙ duration_good k has_duration

      firm_amounts : flat_map (bad_amount s a) (numbered 0 (reservations_in (kind_of s.model a))) ≡ []
      firm_amounts = ap (λ o. flat_map (bad_amount s a) (numbered 0 (reservations_in o))) kind ∙ none_short 0 k.reservations are_amounts

      firm_good : bad_values_at s a ≡ []
      firm_good = none_of_two _ _ (none_of_two _ _ firm_params firm_duration) firm_amounts

    -- nothing is added of an activity whose end is there
    pub nothing_of_firm : (own_end : Option ℕ) → own_end ≡ end_at s a → is_some own_end ≡ true → (out : List Conflict) → out ≡ out ++ unset_at s a ++ bad_values_at s a
    nothing_of_firm None is t out = absurd (cc)
    nothing_of_firm (Some end) is t out = rw (firm_unset end (sym is), firm_good end (sym is)) (sym (append-nil (out ++ []) ∙ append-nil out))
