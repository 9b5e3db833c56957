-- What is wrong with activities by themselves, under new ids.
use Rattle.std.proofs.Common.{◌≡◌, ℕ, ◌+◌, ltb, leb, eqb, length, refl, ap, ◌∙◌}
use Rattle.std.specs.Prelude.{◌&&◌, not, map, is_none}
use Rattle.pl_conflict.specs.declared.conflict.Conflict.{Conflict}
use Rattle.pl_conflict.specs.declared.conflict.Code.TheVariants.{Late, Unset, BadValue, Undetailed, Overrun}
use Rattle.pl_model.specs.declared.parameters.Param.{Param}
use Rattle.pl_model.specs.declared.reservations.Reservation.{Reservation}
use Rattle.pl_model.specs.declared.kinds.Kind.{Kind}
use Rattle.pl_plan.specs.declared.activity.Activity.{Activity}
use Rattle.pl_plan.specs.Trees.{IsRooted}
use Rattle.pl_plan.specs.Fitting.{kind_of, alternatives_of}
use Rattle.pl_plan.specs.Known.{is_bad_duration, is_bad_amount}
use Rattle.pl_semantics.specs.declared.plan_state.PlanState.{PlanState}
use Rattle.pl_semantics.specs.PlanStates.{is_committed, end_at, reservations_of, of_found}
use Rattle.pl_semantics.specs.Activities.{at_start, late_at, params_at, unset_one, unset_at, bad_param, bad_duration, bad_amount, bad_values_at, undetailed_at, past_end, overrun_at, wrong_at, activity_conflicts}
use Rattle.pl_renumbering.specs.Renumbered.{KeepsOrder, renumbered, renumbered_state, renumbered_conflict}
use Rattle.pl_renumbering.proofs.Lists.{flat_mapped, flat_along, both_mapped}
use Rattle.pl_renumbering.proofs.Pieces.{when_along, planned_along, of_found_along}
use Rattle.pl_renumbering.proofs.Comings.{bindings_alike, row_same, end_alike, above_same}

module _ (f : ℕ → ℕ) (next : ℕ) (s : PlanState) (keeps : KeepsOrder f) (rooted : IsRooted s.plan.activities) where
  abbrev t : PlanState
  t = renumbered_state f next s

  abbrev new : Conflict → Conflict
  new = renumbered_conflict f

  late_along : (a : Activity) → late_at t (renumbered f a) ≡ map new (late_at s a)
  late_along a = when_along new _ (leb a.start s.moment) (at_start a Late 0 0) refl

  unset_along : (a : Activity) → unset_at t (renumbered f a) ≡ map new (unset_at s a)
  unset_along a = flat_along new (unset_one t (renumbered f a)) (unset_one s a) one (params_at s a)
    where
      one : (p : ℕ × Param) → unset_one t (renumbered f a) p ≡ map new (unset_one s a p)
      one p = when_along new _ _ (at_start a Unset p.0 0)
          (rw (bindings_alike f next s keeps a, row_same f next s keeps rooted a) refl)

  bad_values_along : (a : Activity) → bad_values_at t (renumbered f a) ≡ map new (bad_values_at s a)
  bad_values_along a = both_mapped new _ _ _ _
      (both_mapped new _ _ _ _
      (flat_along new (bad_param t (renumbered f a)) (bad_param s a) param (params_at s a))
      (of_found_along new (bad_duration t (renumbered f a)) (bad_duration s a) duration (kind_of s.model a)))
      (flat_along new (bad_amount t (renumbered f a)) (bad_amount s a) amount (reservations_of s a))
    where
      param : (p : ℕ × Param) → bad_param t (renumbered f a) p ≡ map new (bad_param s a p)
      param p = when_along new _ _ (at_start a BadValue p.0 0)
          (rw (bindings_alike f next s keeps a, above_same f next s keeps rooted a.parent, row_same f next s keeps rooted a) refl)

      duration : (k : Kind) → bad_duration t (renumbered f a) k ≡ map new (bad_duration s a k)
      duration k = when_along new _ _ (at_start a BadValue 16 0) (ap (is_bad_duration s.model.horizon k) (row_same f next s keeps rooted a))

      amount : (r : ℕ × Reservation) → bad_amount t (renumbered f a) r ≡ map new (bad_amount s a r)
      amount r = when_along new _ _ (at_start a BadValue (17 + r.0) 0) (ap (λ row. is_bad_amount row r.1) (row_same f next s keeps rooted a))

  undetailed_along : (a : Activity) → undetailed_at t (renumbered f a) ≡ map new (undetailed_at s a)
  undetailed_along a = when_along new _ (not (eqb (length (alternatives_of (kind_of s.model a))) 0) && is_none a.detail) (at_start a Undetailed 0 0) refl

  overrun_along : (a : Activity) → overrun_at t (renumbered f a) ≡ map new (overrun_at s a)
  overrun_along a =
      ap (of_found (past_end t (renumbered f a))) (end_alike f next s keeps rooted a)
      ∙ of_found_along new (past_end t (renumbered f a)) (past_end s a) (λ end. when_along new _ (ltb s.model.horizon end) (at_start a Overrun 0 end) refl) (end_at s a)

  wrong_along : (a : Activity) → wrong_at t (renumbered f a) ≡ map new (wrong_at s a)
  unfolding wrong_at
  wrong_along a = planned_along new (is_committed s a) _ _
      (both_mapped new _ _ _ _ (both_mapped new _ _ _ _ (both_mapped new _ _ _ _ (both_mapped new _ _ _ _ (late_along a) (unset_along a)) (bad_values_along a)) (undetailed_along a)) (overrun_along a))

  pub wrong_renumbered : activity_conflicts (renumbered_state f next s) ≡ map (renumbered_conflict f) (activity_conflicts s)
  wrong_renumbered = flat_mapped (renumbered f) new (wrong_at t) (wrong_at s) wrong_along s.plan.activities
