-- What the steps of a move add to a timeline: one more of them at the end, or at the front of the rest, and those of one demand.
use Rattle.std.proofs.Common.{◌≡◌, ℕ, ◌+◌, ◌<◌, ◌≤◌, Bool, true, false, cond, eqb, leb, ltb, List, [], ◌∷◌, ◌++◌, length, get_or, drop, ◌-◌, refl, sym, ap, ◌∙◌, subst, add-one, ℤ, pos, neg_ℤ, ◌+ℤ◌, ◌-ℤ◌, Option, Some, None, arith}
use Rattle.std.specs.Prelude.{SomeIff, IfSome, ◌&&◌, not}
use Rattle.std.proofs.Math.Seq.{drop-cons}
use Rattle.std.proofs.lemmas.Bool.{ltb-true, ltb-false, leb-true, leb-false}
use Rattle.std.proofs.lemmas.Int.{ints}
use Rattle.pl_points.specs.Sums.{total}
use Rattle.pl_points.proofs.Totals.{total-push}
use Rattle.pl_capacity.specs.declared.reservation.Use.{Use}
use Rattle.pl_level.specs.declared.reservation.Effect.{Effect}
use Rattle.pl_semantics.specs.declared.demand.Asked.{Asked}
use Rattle.pl_semantics.specs.declared.demand.Asked.TheVariants as asked
use Rattle.pl_semantics.specs.declared.demand.Demand.{Demand}
use Rattle.pl_semantics.specs.declared.plan_state.PlanState.{PlanState}
use Rattle.pl_semantics.specs.Timelines.{spans_ahead}
use Rattle.pl_bounds.specs.Afterwards.{asked_on, is_past_with, moved_by, pull, value_with}
use Rattle.pl_bounds.specs.Moved.{moved_to}
use Rattle.pl_bounds.specs.Sides.{is_past, value_at}
use Rattle.pl_bounds.specs.Steps.{added_by, asked_toward, demand_toward, is_past_by, step_at, step_by, step_on, steps_on}
use Rattle.pl_bounds.specs.declared.outside.Outside.{Outside}
use Rattle.pl_bounds.specs.declared.outside.Side.{Side}
use Rattle.pl_bounds.specs.declared.outside.Side.TheVariants.{Over, Low, High}
use Rattle.pl_bounds.specs.declared.stepwise.Step.{Step}
use Rattle.pl_bounds.specs.declared.stepwise.Way.{Way}
use Rattle.pl_bounds.proofs.Past.{same_spans}

-- ---- one more

next_of : {T : Type 0} (f : T → ℤ) (xs : List T) (i : ℕ) (x : T) → i < length xs → total f (drop i xs) ≡ f (get_or xs i x) +ℤ total f (drop (i + 1) xs)
next_of f xs i x lt = ap (total f) (drop-cons xs i x lt ∙ ap (λ (n : ℕ). get_or xs i x ∷ drop n xs) (sym (add-one i)))

-- what was added and the rest add what all add, one further
pub sum_next : (o : Outside) (w : Way) (t : ℕ) (steps : List Step) (i : ℕ) (step : Step) (sum more : ℤ) → i < length steps → more ≡ sum +ℤ step_on o w t (get_or steps i step)
    → (sum +ℤ steps_on o w t (drop i steps)) ≡ steps_on o w t steps → (more +ℤ steps_on o w t (drop (i + 1) steps)) ≡ steps_on o w t steps
sum_next o w t steps i step sum more lt grown same =
    let next = next_of (step_on o w t) steps i step lt in
    omega (arith, ints, grown, same, next)

-- where it fits
pub some_is : (o : Option ℤ) (P : Type 0) (x y : ℤ) → SomeIff o P x → x ≡ y → IfSome o (λ v. v ≡ y)
some_is None P x y is e = tt
some_is (Some v) P x y is e = is.1 ∙ e

-- steps of a demand more
pub demand_next : (o : Outside) (w : Way) (t : ℕ) (comes : Bool) (ds : List Demand) (i : ℕ) (d : Demand) (before so_far more : ℤ) → i < length ds
    → more ≡ so_far +ℤ demand_toward o w t comes (get_or ds i d)
    → (so_far +ℤ total (demand_toward o w t comes) (drop i ds)) ≡ before +ℤ total (demand_toward o w t comes) ds
    → (more +ℤ total (demand_toward o w t comes) (drop (i + 1) ds)) ≡ before +ℤ total (demand_toward o w t comes) ds
demand_next o w t comes ds i d before so_far more lt grown same =
    let next = next_of (demand_toward o w t comes) ds i d lt in
    omega (arith, ints, grown, same, next)

-- ---- the steps of one demand

module _ (w : Way) (t : ℕ) where
  span_of : (f e : ℕ) (z : ℤ) → f ≤ e → (cond (leb f t && true) (z -ℤ pos 0) (pos 0) +ℤ cond (leb e t && true) (pos 0 -ℤ z) (pos 0)) ≡ cond (leb f t && ltb t e) z (pos 0)
  span_of f e z le = by (leb f t) refl (leb e t) refl (ltb t e) refl
    where
      by : (b : Bool) → leb f t ≡ b → (c : Bool) → leb e t ≡ c → (d : Bool) → ltb t e ≡ d
          → (cond (b && true) (z -ℤ pos 0) (pos 0) +ℤ cond (c && true) (pos 0 -ℤ z) (pos 0)) ≡ cond (b && d) z (pos 0)
      by true p true q true r = absurd (omega (arith, leb-true e t q, ltb-true t e r))
      by true p true q false r = omega (arith, ints)
      by true p false q true r = omega (arith, ints)
      by true p false q false r = absurd (omega (arith, leb-false e t q, ltb-false t e r))
      by false p true q d r = absurd (omega (arith, le, leb-false f t p, leb-true e t q))
      by false p false q d r = omega (arith, ints)

  back_of : (b c : Bool) (z : ℤ) → (cond (b && true) (pos 0 -ℤ z) (pos 0) +ℤ cond (c && true) (z -ℤ pos 0) (pos 0)) ≡ neg_ℤ (cond (b && true) (z -ℤ pos 0) (pos 0) +ℤ cond (c && true) (pos 0 -ℤ z) (pos 0))
  back_of true true z = omega (arith, ints)
  back_of true false z = omega (arith, ints)
  back_of false true z = omega (arith, ints)
  back_of false false z = omega (arith, ints)

  -- a use
  pub span_adds : (since : ℕ) (comes : Bool) (u : Use) → u.from < u.to
      → (step_at Over since w t (step_by u.from u.amount comes comes) +ℤ step_at Over since w t (step_by u.to u.amount (not comes) comes)) ≡ asked_toward Over since w t comes (asked.Use u)
  span_adds since true u lt = span_of (moved_to w.from w.to u.from) (moved_to w.from w.to u.to) u.amount (omega (arith, lt))
  span_adds since false u lt = back_of (leb u.from t) (leb u.to t) u.amount ∙ ap neg_ℤ (span_of u.from u.to u.amount (omega (arith, lt)))

  change_of : (since at : ℕ) (z : ℤ) → cond (leb at t && ltb since at) (z -ℤ pos 0) (pos 0) ≡ cond (ltb since at && leb at t) z (pos 0)
  change_of since at z = by (leb at t) (ltb since at)
    where
      by : (b c : Bool) → cond (b && c) (z -ℤ pos 0) (pos 0) ≡ cond (c && b) z (pos 0)
      by true true = omega (arith, ints)
      by true false = refl
      by false true = refl
      by false false = refl

  taken_of : (since at : ℕ) (z : ℤ) → cond (leb at t && ltb since at) (pos 0 -ℤ z) (pos 0) ≡ neg_ℤ (cond (ltb since at && leb at t) z (pos 0))
  taken_of since at z = by (leb at t) (ltb since at)
    where
      by : (b c : Bool) → cond (b && c) (pos 0 -ℤ z) (pos 0) ≡ neg_ℤ (cond (c && b) z (pos 0))
      by true true = omega (arith, ints)
      by true false = refl
      by false true = refl
      by false false = refl

  -- an effect
  pub low_adds : (since : ℕ) (comes : Bool) (e : Effect) → step_at Low since w t (step_by e.at e.delta comes comes) ≡ asked_toward Low since w t comes (asked.Effect e)
  low_adds since true e = change_of since (moved_to w.from w.to e.at) e.delta
  low_adds since false e = taken_of since e.at e.delta

  pub high_adds : (since : ℕ) (comes : Bool) (e : Effect) → step_at High since w t (step_by e.at e.delta comes comes) ≡ asked_toward High since w t comes (asked.Effect e)
  high_adds since true e = change_of since (moved_to w.from w.to e.at) e.delta
  high_adds since false e = taken_of since e.at e.delta

-- ---- steps that are put behind others

pub pushed : (o : Outside) (w : Way) (t : ℕ) (steps more : List Step) (step : Step) → more ≡ steps ++ step ∷ [] → steps_on o w t more ≡ steps_on o w t steps +ℤ step_on o w t step
pushed o w t steps more step is = ap (λ (xs : List Step). steps_on o w t xs) is ∙ total-push (step_on o w t) steps step

module _ (o : Outside) (w : Way) (t : ℕ) (comes : Bool) where
  -- what is asked for adds, on the side that the timeline is looked at from
  abbrev toward : Side → Asked → ℤ
  toward side a = asked_toward side o.since w t comes a

  pub span_pushed : (u : Use) (steps one both : List Step) → o.side ≡ Over → u.from < u.to
      → one ≡ steps ++ step_by u.from u.amount comes comes ∷ [] → both ≡ one ++ step_by u.to u.amount (not comes) comes ∷ []
      → steps_on o w t both ≡ steps_on o w t steps +ℤ toward o.side (asked.Use u)
  span_pushed u steps one both over lt first second =
      let a = pushed o w t steps one (step_by u.from u.amount comes comes) first in
      let b = pushed o w t one both (step_by u.to u.amount (not comes) comes) second in
      let all = subst (λ (side : Side). (step_at side o.since w t (step_by u.from u.amount comes comes) +ℤ step_at side o.since w t (step_by u.to u.amount (not comes) comes)) ≡ toward side (asked.Use u)) (sym over) (span_adds w t o.since comes u lt) in
      omega (arith, ints, a, b, all)

  pub low_pushed : (e : Effect) (steps more : List Step) → o.side ≡ Low → more ≡ steps ++ step_by e.at e.delta comes comes ∷ [] → steps_on o w t more ≡ steps_on o w t steps +ℤ toward o.side (asked.Effect e)
  low_pushed e steps more low is =
      let a = pushed o w t steps more (step_by e.at e.delta comes comes) is in
      let same = subst (λ (side : Side). step_at side o.since w t (step_by e.at e.delta comes comes) ≡ toward side (asked.Effect e)) (sym low) (low_adds w t o.since comes e) in
      omega (arith, ints, a, same)

  pub high_pushed : (e : Effect) (steps more : List Step) → o.side ≡ High → more ≡ steps ++ step_by e.at e.delta comes comes ∷ [] → steps_on o w t more ≡ steps_on o w t steps +ℤ toward o.side (asked.Effect e)
  high_pushed e steps more high is =
      let a = pushed o w t steps more (step_by e.at e.delta comes comes) is in
      let same = subst (λ (side : Side). step_at side o.since w t (step_by e.at e.delta comes comes) ≡ toward side (asked.Effect e)) (sym high) (high_adds w t o.since comes e) in
      omega (arith, ints, a, same)

-- ---- the steps of all demands

pub coming_all : (o : Outside) (w : Way) (t : ℕ) (ds : List Demand) → total (demand_toward o w t true) ds ≡ pull o t (moved_by w ds)
coming_all o w t [] = refl
coming_all o w t (d ∷ ds) = ap (λ (z : ℤ). demand_toward o w t true d +ℤ z) (coming_all o w t ds)

going_one : (b : Bool) (z : ℤ) → cond b (neg_ℤ z) (pos 0) ≡ neg_ℤ (cond b z (pos 0))
going_one true z = refl
going_one false z = refl

pub going_all : (o : Outside) (w : Way) (t : ℕ) (ds : List Demand) → total (demand_toward o w t false) ds ≡ neg_ℤ (pull o t ds)
going_all o w t [] = refl
going_all o w t (d ∷ ds) =
    let one = going_one (eqb d.line o.line) (asked_on o.side o.since t d.asked) in
    let more = going_all o w t ds in
    omega (arith, ints, one, more)

-- those of what goes and behind them those of what comes
pub with_both : (none first all out back going coming : ℤ) → none ≡ pos 0 → first ≡ none +ℤ out → all ≡ first +ℤ back → out ≡ neg_ℤ going → back ≡ coming → all ≡ coming -ℤ going
with_both none first all out back going coming is goes comes less more = omega (arith, ints, is, goes, comes, less, more)

-- ---- how often a timeline is past its limit

module _ (s : PlanState) (o : Outside) (w : Way) where
  -- with the steps of a move as often as once what goes is gone and what comes has come
  pub times_stepped : (steps : List Step) (going coming : List Demand) → ((t : ℕ) → steps_on o w t steps ≡ added_by o going (moved_by w coming) t)
      → length (spans_ahead s (is_past_by s o w steps)) ≡ length (spans_ahead s (is_past_with s o going (moved_by w coming)))
  times_stepped steps going coming is = ap length (same_spans (is_past_by s o w steps) (is_past_with s o going (moved_by w coming)) same (s.model.horizon - s.moment) s.moment)
    where
      value : (t : ℕ) (z : ℤ) → (z +ℤ steps_on o w t steps) ≡ value_with o going (moved_by w coming) t z
      value t z = omega (arith, ints, is t)

      same : (t : ℕ) → is_past_by s o w steps t ≡ is_past_with s o going (moved_by w coming) t
      same t = ap (is_past o.side o.limit) (value t (value_at s o.side o.line t))

  -- without steps as often as it is now
  pub times_still : length (spans_ahead s (is_past_by s o w [])) ≡ length (spans_ahead s (λ t. is_past o.side o.limit (value_at s o.side o.line t)))
  times_still = ap length (same_spans (is_past_by s o w []) (λ t. is_past o.side o.limit (value_at s o.side o.line t)) same (s.model.horizon - s.moment) s.moment)
    where
      value : (z : ℤ) → (z +ℤ pos 0) ≡ z
      value z = omega (arith, ints)

      same : (t : ℕ) → is_past_by s o w [] t ≡ is_past o.side o.limit (value_at s o.side o.line t)
      same t = ap (is_past o.side o.limit) (value (value_at s o.side o.line t))
