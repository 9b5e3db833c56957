-- What is wrong with timelines that hold what a plan asks for is what the plan says.
use Rattle.std.proofs.Common.{◌≡◌, ℕ, zero, suc, ◌+◌, ◌-◌, Bool, false, List, [], ◌∷◌, ◌++◌, map, Option, Some, None, refl, sym, ap, ◌∙◌, arith, ℤ, ◌+ℤ◌}
use Rattle.std.specs.Prelude.{slice_get, int_lt}
use Rattle.std.specs.Option.{option_map}
use Rattle.std.proofs.lemmas.Option.{slice_get-map}
use Rattle.pl_lists.proofs.Elements.{all_at}
use Rattle.pl_points.specs.Sums.{total}
use Rattle.pl_points.specs.declared.span.Span.{Span}
use Rattle.pl_points.specs.Spans.{spans_of}
use Rattle.pl_points.proofs.Maximal.{local}
use Rattle.pl_conflict.specs.declared.conflict.Conflict.{Conflict}
use Rattle.pl_conflict.specs.declared.conflict.Code.TheVariants as code
use Rattle.pl_conflict.specs.Order.{has}
use Rattle.pl_model.specs.declared.timelines.Timeline.{Timeline}
use Rattle.pl_model.specs.declared.timelines.Timeline.TheVariants as timeline
use Rattle.pl_capacity.specs.Uses as capacity
use Rattle.pl_level.specs.Effects as level
use Rattle.pl_state.specs.Timelines as states
use Rattle.pl_state.specs.declared.reservation.Setting.{Setting}
use Rattle.pl_state.specs.declared.reservation.Must.{Must}
use Rattle.pl_plan.specs.Activities.{AreRising}
use Rattle.pl_semantics.specs.declared.plan_state.PlanState.{PlanState}
use Rattle.pl_semantics.specs.PlanStates.{numbered, natural, of_found}
use Rattle.pl_semantics.specs.Parts.{part_of, of_timelines}
use Rattle.pl_semantics.specs.Owners.{owner_of}
use Rattle.pl_semantics.specs.Demands.{demands_of, sets_of, musts_of, since, told, use_at, level_at, state_at}
use Rattle.pl_semantics.specs.Timelines.{outside, spans_ahead, unmet_must, bad_step, line_conflicts, line_conflicts_of, lines_of, timeline_conflicts}
use Rattle.pl_semantics.proofs.Lines.{by_line}
use Rattle.pl_detect.specs.Fresh.{states_of}
use Rattle.pl_update.specs.declared.timelines.line.Line.{Line}
use Rattle.pl_update.specs.declared.timelines.line.Line.TheVariants.{Capacity, Level, States}
use Rattle.pl_update.specs.Timelines.Framed.{bare, idle, AreFramed, IsOrdered, AreLinesOf}
use Rattle.pl_update.specs.Timelines.Told.{wrong_with, wrong_at, IsTold}
use Rattle.pl_update.proofs.AboutTimelines.Standing.{uses_held, effects_held, sets_held, musts_held}
use Rattle.pl_update.proofs.AboutTimelines.StandingEqual.{sets_equal, musts_equal}

-- ---- places of lists

pub numbered_at : {T : Type 0} (c i n : ℕ) (xs : List T) → n ≡ c + i → slice_get (numbered c xs) i ≡ option_map (λ (x : T). (n, x)) (slice_get xs i)
numbered_at c i n [] e = refl
numbered_at c zero n (x ∷ xs) e = let same : c ≡ n = omega (arith, e) in ap (λ m. Some (m, x)) same
numbered_at c (suc i) n (x ∷ xs) e = numbered_at (suc c) i n xs (omega (arith, e))

-- ---- a timeline and the one of the model

pub frame_at : (s : PlanState) (lines : List Line) → AreFramed s lines → (line : ℕ) → option_map bare (slice_get lines line) ≡ option_map (idle s) (option_map (λ (t : Timeline). (line, t)) (slice_get s.model.timelines line))
frame_at s lines framed line =
    sym (slice_get-map bare lines line)
    ∙ ap (λ (l : List Line). slice_get l line) framed
    ∙ slice_get-map (idle s) (lines_of s) line
    ∙ ap (option_map (idle s)) (numbered_at 0 line line s.model.timelines (omega arith))

abbrev pub IsFramedAs : PlanState → ℕ → Line → Timeline → Type 0
IsFramedAs s line l t = bare l ≡ idle s (line, t)

pub framed_there : (s : PlanState) (lines : List Line) → AreFramed s lines → (line : ℕ) (l : Line) → slice_get lines line ≡ Some l → (t : Timeline) × (slice_get s.model.timelines line ≡ Some t) × IsFramedAs s line l t
framed_there s lines framed line l e = by (slice_get s.model.timelines line) refl (frame_at s lines framed line)
  where
    by : (u : Option Timeline) → slice_get s.model.timelines line ≡ u → option_map bare (slice_get lines line) ≡ option_map (idle s) (option_map (λ (t : Timeline). (line, t)) u) → (t : Timeline) × (slice_get s.model.timelines line ≡ Some t) × IsFramedAs s line l t
    by None f same = absurd (let bad : Some (bare l) ≡ None = sym (ap (option_map bare) e) ∙ same in cc)
    by (Some t) f same = let is : Some (bare l) ≡ Some (idle s (line, t)) = sym (ap (option_map bare) e) ∙ same in (t, f, (cc))

-- ---- frames of each sort

abbrev pub no_uses : capacity.Standing → capacity.Standing
no_uses c = record c { uses = [] }

abbrev pub no_effects : level.Standing → level.Standing
no_effects l = record l { effects = [] }

abbrev pub no_items : states.Standing → states.Standing
no_items x = record x { sets = []; musts = [] }

abbrev pub empty_capacity : PlanState → ℤ → capacity.Standing
empty_capacity s most = record { spoiled = false; horizon = s.model.horizon; most = most; moment = s.moment; uses = [] }

abbrev pub empty_level : PlanState → ℕ → ℤ → ℤ → level.Standing
empty_level s line least most = record { spoiled = false; horizon = s.model.horizon; least = least; most = most; moment = s.moment; base = since s line; value = told s line; effects = [] }

abbrev pub empty_states : PlanState → ℕ → Bool → List (ℕ × ℕ) → states.Standing
empty_states s line any steps = record { spoiled = false; horizon = s.model.horizon; any = any; steps = steps; moment = s.moment; base = since s line; value = natural (told s line); sets = []; musts = [] }

pub same_capacity : (a b : capacity.Standing) → Capacity a ≡ Capacity b → a ≡ b
same_capacity a b e = cc

pub same_level : (a b : level.Standing) → Level a ≡ Level b → a ≡ b
same_level a b e = cc

pub same_states : (a b : states.Standing) → States a ≡ States b → a ≡ b
same_states a b e = cc

-- ---- the values

module _ (s : PlanState) (lines : List Line) (are : AreLinesOf s lines) (line : ℕ) where
  pub used_now : (c : capacity.Standing) → slice_get lines line ≡ Some (Capacity c) → (t : ℕ) → capacity.used c.uses t ≡ use_at s line t
  unfolding use_at
  used_now c here t = uses_held lines (demands_of s) are.hold line c here (capacity.taken_at t)

  added_now : (l : level.Standing) → slice_get lines line ≡ Some (Level l) → (t : ℕ) → (told s line +ℤ total (level.counted (since s line) t) l.effects) ≡ level_at s line t
  unfolding level_at
  added_now l here t = ap (λ z. told s line +ℤ z) (effects_held lines (demands_of s) are.hold line l here (level.counted (since s line) t))

  level_based : (l : level.Standing) (t : Timeline) → IsFramedAs s line (Level l) t → (l.base ≡ since s line) × (l.value ≡ told s line)
  level_based l (timeline.Capacity name most) same = absurd (cc)
  level_based l (timeline.Level name least most start) same =
      let frame : no_effects l ≡ empty_level s line least most = same_level (no_effects l) (empty_level s line least most) same in
      (ap (λ (z : level.Standing). z.base) frame, ap (λ (z : level.Standing). z.value) frame)
  level_based l (timeline.States name all start any steps) same = absurd (cc)

  pub level_now : (l : level.Standing) → slice_get lines line ≡ Some (Level l) → (t : ℕ) → level.level l t ≡ level_at s line t
  level_now l here t =
      let there = framed_there s lines are.framed line (Level l) here in
      let based = level_based l there.0 there.2 in
      ap (λ b. l.value +ℤ total (level.counted b t) l.effects) based.0 ∙ (ap (λ v. v +ℤ total (level.counted (since s line) t) l.effects) based.1 ∙ added_now l here t)

  -- a state timeline is the one that is made anew
  pub states_fresh : (x : states.Standing) → AreRising s.plan.activities → slice_get lines line ≡ Some (States x) → (any : Bool) (steps : List (ℕ × ℕ)) → no_items x ≡ empty_states s line any steps → x ≡ states_of s line any steps
  states_fresh x rising here any steps frame =
      let sorted : IsOrdered (States x) = all_at IsOrdered lines line (States x) are.ordered here in
      ap (λ (z : states.Standing). record z { sets = x.sets; musts = x.musts }) frame
      ∙ (ap (λ (ys : List Setting). record (empty_states s line any steps) { sets = ys; musts = x.musts }) (sets_equal s line x.sets rising sorted.0 (sets_held lines (demands_of s) are.hold line x here))
      ∙ ap (λ (ms : List Must). record (empty_states s line any steps) { sets = sets_of line (demands_of s); musts = ms }) (musts_equal s line x.musts rising sorted.1 (musts_held lines (demands_of s) are.hold line x here)))

  state_sorted : (x : states.Standing) (t : Timeline) → AreRising s.plan.activities → slice_get lines line ≡ Some (States x) → IsFramedAs s line (States x) t → (any : Bool) × (steps : List (ℕ × ℕ)) × (x ≡ states_of s line any steps)
  state_sorted x (timeline.Capacity name most) rising here same = absurd (cc)
  state_sorted x (timeline.Level name least most start) rising here same = absurd (cc)
  state_sorted x (timeline.States name all start any steps) rising here same = (any, steps, states_fresh x rising here any steps (same_states (no_items x) (empty_states s line any steps) same))

  pub state_now : (x : states.Standing) → AreRising s.plan.activities → slice_get lines line ≡ Some (States x) → (t : ℕ) → states.state_at x t ≡ state_at s line t
  unfolding state_at
  state_now x rising here t =
      let there = framed_there s lines are.framed line (States x) here in
      let fresh = state_sorted x there.0 rising here there.2 in
      ap (λ (z : states.Standing). states.state_at z t) fresh.2

  pub sets_now : (x : states.Standing) → AreRising s.plan.activities → slice_get lines line ≡ Some (States x) → x.sets ≡ sets_of line (demands_of s)
  sets_now x rising here =
      let there = framed_there s lines are.framed line (States x) here in
      let fresh = state_sorted x there.0 rising here there.2 in
      ap (λ (z : states.Standing). z.sets) fresh.2

  pub musts_now : (x : states.Standing) → AreRising s.plan.activities → slice_get lines line ≡ Some (States x) → x.musts ≡ musts_of line (demands_of s)
  musts_now x rising here =
      let there = framed_there s lines are.framed line (States x) here in
      let fresh = state_sorted x there.0 rising here there.2 in
      ap (λ (z : states.Standing). z.musts) fresh.2

  -- ---- what is wrong

  over_spans : (c : capacity.Standing) → slice_get lines line ≡ Some (Capacity c) → (most : ℤ) → no_uses c ≡ empty_capacity s most → capacity.spans_now c ≡ spans_ahead s (λ t. int_lt most (use_at s line t))
  over_spans c here most frame =
      ap (λ (z : capacity.Standing). spans_of (capacity.is_over z.most c.uses) z.moment (z.horizon - z.moment)) frame
      ∙ local (capacity.is_over most c.uses) (λ t. int_lt most (use_at s line t)) s.moment (s.model.horizon - s.moment) (λ t _ _. ap (int_lt most) (used_now c here t))

  low_spans : (l : level.Standing) → slice_get lines line ≡ Some (Level l) → (least most : ℤ) → no_effects l ≡ empty_level s line least most → level.low_now l ≡ spans_ahead s (λ t. int_lt (level_at s line t) least)
  low_spans l here least most frame =
      ap (λ (z : level.Standing). spans_of (level.is_low (record z { effects = l.effects })) z.moment (z.horizon - z.moment)) frame
      ∙ local (level.is_low (record (empty_level s line least most) { effects = l.effects })) (λ t. int_lt (level_at s line t) least) s.moment (s.model.horizon - s.moment) (λ t _ _. ap (λ v. int_lt v least) (added_now l here t))

  high_spans : (l : level.Standing) → slice_get lines line ≡ Some (Level l) → (least most : ℤ) → no_effects l ≡ empty_level s line least most → level.high_now l ≡ spans_ahead s (λ t. int_lt most (level_at s line t))
  high_spans l here least most frame =
      ap (λ (z : level.Standing). spans_of (level.is_high (record z { effects = l.effects })) z.moment (z.horizon - z.moment)) frame
      ∙ local (level.is_high (record (empty_level s line least most) { effects = l.effects })) (λ t. int_lt most (level_at s line t)) s.moment (s.model.horizon - s.moment) (λ t _ _. ap (λ v. int_lt most v) (added_now l here t))

  line_is : AreRising s.plan.activities → (l : Line) (t : Timeline) → slice_get lines line ≡ Some l → IsFramedAs s line l t → wrong_with s line l ≡ line_conflicts s (line, t)
  unfolding line_conflicts state_at
  line_is rising (Capacity c) (timeline.Capacity name most) here same = ap (λ (ps : List Span). map (outside code.Over line) ps) (over_spans c here most (same_capacity (no_uses c) (empty_capacity s most) same))
  line_is rising (Capacity c) (timeline.Level name least most start) here same = absurd (cc)
  line_is rising (Capacity c) (timeline.States name all start any steps) here same = absurd (cc)
  line_is rising (Level l) (timeline.Capacity name most) here same = absurd (cc)
  line_is rising (Level l) (timeline.Level name least most start) here same =
      let frame : no_effects l ≡ empty_level s line least most = same_level (no_effects l) (empty_level s line least most) same in
      ap (λ (ps : List Span). map (outside code.Low line) ps ++ map (outside code.High line) (level.high_now l)) (low_spans l here least most frame)
      ∙ ap (λ (ps : List Span). map (outside code.Low line) (spans_ahead s (λ t. int_lt (level_at s line t) least)) ++ map (outside code.High line) ps) (high_spans l here least most frame)
  line_is rising (Level l) (timeline.States name all start any steps) here same = absurd (cc)
  line_is rising (States x) (timeline.Capacity name most) here same = absurd (cc)
  line_is rising (States x) (timeline.Level name least most start) here same = absurd (cc)
  line_is rising (States x) (timeline.States name all start any steps) here same =
      ap (λ (z : states.Standing). map (unmet_must s) (states.broken_now z) ++ map (bad_step s) (states.bad_now z)) (states_fresh x rising here any steps (same_states (no_items x) (empty_states s line any steps) same))

  pub wrong_is : AreRising s.plan.activities → wrong_at s lines line ≡ line_conflicts_of s line
  wrong_is rising = by (slice_get lines line) refl (slice_get s.model.timelines line) (frame_at s lines are.framed line)
    where
      by : (o : Option Line) → slice_get lines line ≡ o → (u : Option Timeline) → option_map bare o ≡ option_map (idle s) (option_map (λ (t : Timeline). (line, t)) u) → of_found (wrong_with s line) o ≡ of_found (λ (t : Timeline). line_conflicts s (line, t)) u
      by None e None same = refl
      by None e (Some t) same = absurd (cc)
      by (Some l) e None same = absurd (cc)
      by (Some l) e (Some t) same = line_is rising l t e (cc)

-- ---- the set

module _ (s : PlanState) (lines : List Line) (rising : AreRising s.plan.activities) (are : AreLinesOf s lines) where
  wrong_where : (o : Option ℕ) → of_found (wrong_at s lines) o ≡ of_found (line_conflicts_of s) o
  wrong_where None = refl
  wrong_where (Some line) = wrong_is s lines are line rising

  -- of the conflicts of timelines, a set that tells them has exactly those of the plan
  pub told_all : (set : List Conflict) → IsTold s lines set → (q : Conflict) → part_of q.code ≡ of_timelines → has q set ≡ has q (timeline_conflicts s)
  told_all set told q of = told q of ∙ (ap (has q) (wrong_where (owner_of s q)) ∙ sym (by_line s rising q))

  pub all_told : (set : List Conflict) → ((q : Conflict) → part_of q.code ≡ of_timelines → has q set ≡ has q (timeline_conflicts s)) → IsTold s lines set
  all_told set all q of = all q of ∙ (by_line s rising q ∙ sym (ap (has q) (wrong_where (owner_of s q))))
