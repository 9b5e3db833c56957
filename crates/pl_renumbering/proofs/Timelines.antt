-- Conflicts of timelines, under new ids.
use Rattle.std.proofs.Common.{◌≡◌, ℕ, ◌-◌, Bool, List, [], ◌∷◌, Option, Some, None, refl, ap, ◌∙◌}
use Rattle.std.specs.Prelude.{ℤ, int_lt, map}
use Rattle.std.specs.Option.{option_map}
use Rattle.pl_conflict.specs.declared.conflict.Conflict.{Conflict}
use Rattle.pl_conflict.specs.declared.conflict.Code.TheVariants as code
use Rattle.pl_model.specs.declared.timelines.Timeline.{Timeline}
use Rattle.pl_model.specs.declared.timelines.Timeline.TheVariants.{Capacity, Level, States}
use Rattle.pl_points.proofs.Maximal.{local}
use Rattle.pl_state.specs.declared.answer.BrokenMust.{BrokenMust}
use Rattle.pl_state.specs.declared.answer.BadSet.{BadSet}
use Rattle.pl_state.specs.Sets.{is_allowed, state_from, bad_from}
use Rattle.pl_state.specs.Musts.{broken_all}
use Rattle.pl_plan.specs.declared.activity.Activity.{Activity}
use Rattle.pl_plan.specs.Trees.{IsRooted}
use Rattle.pl_semantics.specs.declared.plan_state.PlanState.{PlanState}
use Rattle.pl_semantics.specs.PlanStates.{found, natural}
use Rattle.pl_semantics.specs.Demands.{demands_of, sets_of, musts_of, since, told, state_at, use_at, level_at}
use Rattle.pl_semantics.specs.Timelines.{spans_ahead, outside, overs, lows, highs, start_in, start_at, unmet_must, musts, bad_step, bad_steps, line_conflicts, lines_of, timeline_conflicts}
use Rattle.pl_renumbering.specs.Renumbered.{KeepsOrder, renumbered, renumbered_state, renumbered_conflict}
use Rattle.pl_renumbering.specs.Carried.{renumbered_broken_must, renumbered_bad_set, renumbered_setting}
use Rattle.pl_renumbering.proofs.Lists.{map_mapped, flat_along, both_mapped}
use Rattle.pl_renumbering.proofs.Comings.{found_same}
use Rattle.pl_renumbering.proofs.Demands.{demands_along, use_same, level_same}
use Rattle.pl_renumbering.proofs.States.{state_unchanged, bad_along, broken_all_along, sets_along, musts_along}

kept_by : {X Y : Type 0} (g : Y → Y) (h : X → Y) → ((x : X) → g (h x) ≡ h x) → (xs : List X) → map h xs ≡ map g (map h xs)
kept_by g h same [] = refl
kept_by g h same (x ∷ xs) = rw (same x) (ap (λ l. h x ∷ l) (kept_by g h same xs))

module _ (f : ℕ → ℕ) (next : ℕ) (s : PlanState) (keeps : KeepsOrder f) (rooted : IsRooted s.plan.activities) where
  abbrev t : PlanState
  t = renumbered_state f next s

  abbrev new : Conflict → Conflict
  new = renumbered_conflict f

  -- ---- capacities and levels: the same spans

  spans_unchanged : (P Q : ℕ → Bool) → ((moment : ℕ) → P moment ≡ Q moment) → spans_ahead t P ≡ spans_ahead s Q
  spans_unchanged P Q same = local P Q s.moment (s.model.horizon - s.moment) (λ moment le lt. same moment)

  overs_along : (line : ℕ) (most : ℤ) → overs t line most ≡ map new (overs s line most)
  overs_along line most =
      ap (map (outside code.Over line)) (spans_unchanged _ _ (λ moment. ap (int_lt most) (use_same f next s keeps rooted line moment)))
      ∙ kept_by new (outside code.Over line) (λ p. refl) (spans_ahead s (λ moment. int_lt most (use_at s line moment)))

  lows_along : (line : ℕ) (least : ℤ) → lows t line least ≡ map new (lows s line least)
  lows_along line least =
      ap (map (outside code.Low line)) (spans_unchanged _ _ (λ moment. ap (λ v. int_lt v least) (level_same f next s keeps rooted line moment)))
      ∙ kept_by new (outside code.Low line) (λ p. refl) (spans_ahead s (λ moment. int_lt (level_at s line moment) least))

  highs_along : (line : ℕ) (most : ℤ) → highs t line most ≡ map new (highs s line most)
  highs_along line most =
      ap (map (outside code.High line)) (spans_unchanged _ _ (λ moment. ap (int_lt most) (level_same f next s keeps rooted line moment)))
      ∙ kept_by new (outside code.High line) (λ p. refl) (spans_ahead s (λ moment. int_lt most (level_at s line moment)))

  -- ---- states

  sets_too : (line : ℕ) → sets_of line (demands_of t) ≡ map (renumbered_setting f) (sets_of line (demands_of s))
  sets_too line = ap (sets_of line) (demands_along f next s keeps rooted) ∙ sets_along f keeps line (demands_of s)

  pub state_same : (line moment : ℕ) → state_at t line moment ≡ state_at s line moment
  unfolding state_at
  state_same line moment = ap (state_from (since s line) moment (natural (told s line))) (sets_too line) ∙ state_unchanged f (since s line) moment (natural (told s line)) (sets_of line (demands_of s))

  starts_same : (o : Option Activity) → start_in (option_map (renumbered f) o) ≡ start_in o
  starts_same None = refl
  starts_same (Some a) = refl

  start_same : (id : ℕ) → start_at t (f id) ≡ start_at s id
  start_same id = ap start_in (found_same f next s keeps id) ∙ starts_same (found s id)

  musts_too : (line : ℕ) → musts t line ≡ map new (musts s line)
  musts_too line =
      ap (λ ms. map (unmet_must t) (broken_all (state_at t line) s.moment s.model.horizon ms)) (ap (musts_of line) (demands_along f next s keeps rooted) ∙ musts_along f keeps line (demands_of s))
      ∙ (ap (map (unmet_must t)) (broken_all_along f (state_at s line) (state_at t line) (state_same line) s.moment s.model.horizon (musts_of line (demands_of s)))
      ∙ map_mapped (renumbered_broken_must f) new (unmet_must t) (unmet_must s) one (broken_all (state_at s line) s.moment s.model.horizon (musts_of line (demands_of s))))
    where
      one : (m : BrokenMust) → unmet_must t (renumbered_broken_must f m) ≡ new (unmet_must s m)
      one m = ap (λ from. record (new (unmet_must s m)) { from = from }) (start_same m.id)

  bad_steps_along : (line : ℕ) (any : Bool) (steps : List (ℕ × ℕ)) → bad_steps t line any steps ≡ map new (bad_steps s line any steps)
  bad_steps_along line any steps =
      ap (λ xs. map (bad_step t) (bad_from (is_allowed any steps) (since s line) s.model.horizon s.moment (natural (told s line)) xs)) (sets_too line)
      ∙ (ap (map (bad_step t)) (bad_along f (is_allowed any steps) (since s line) s.model.horizon s.moment (natural (told s line)) (sets_of line (demands_of s)))
      ∙ map_mapped (renumbered_bad_set f) new (bad_step t) (bad_step s) one (bad_from (is_allowed any steps) (since s line) s.model.horizon s.moment (natural (told s line)) (sets_of line (demands_of s))))
    where
      one : (x : BadSet) → bad_step t (renumbered_bad_set f x) ≡ new (bad_step s x)
      one x = ap (λ from. record (new (bad_step s x)) { from = from }) (start_same x.id)

  -- ---- the part

  line_along : (x : ℕ × Timeline) → line_conflicts t x ≡ map new (line_conflicts s x)
  unfolding line_conflicts
  line_along (line, Capacity name most) = overs_along line most
  line_along (line, Level name least most start) = both_mapped new _ _ _ _ (lows_along line least) (highs_along line most)
  line_along (line, States name states start any steps) = both_mapped new _ _ _ _ (musts_too line) (bad_steps_along line any steps)

  pub timelines_renumbered : timeline_conflicts (renumbered_state f next s) ≡ map (renumbered_conflict f) (timeline_conflicts s)
  timelines_renumbered = flat_along new (line_conflicts t) (line_conflicts s) line_along (lines_of s)
