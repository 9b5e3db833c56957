-- What may be asked of timelines that hold what a plan asks for, by what stands in the plan's model.
use Rattle.std.proofs.Common.{◌≡◌, ℕ, suc, ◌<◌, ◌≤◌, Bool, false, List, [], ◌∷◌, length, Option, Some, None, refl, sym, ap, ◌∙◌, subst, arith, ℤ, pos, negsuc, ◌≤ℤ◌}
use Rattle.std.specs.Prelude.{All, slice_get}
use Rattle.std.specs.Option.{option_map}
use Rattle.std.proofs.lemmas.Int.{ints}
use Rattle.std.proofs.lemmas.List.Elements.{All-nil, All-cons}
use Rattle.pl_lists.proofs.Elements.{all_at}
use Rattle.pl_model.specs.declared.timelines.Timeline.{Timeline}
use Rattle.pl_model.specs.declared.timelines.Timeline.TheVariants as timeline
use Rattle.pl_model.specs.Checked.{IsCheckedLine, IsCapacityLine, IsLevelLine}
use Rattle.pl_capacity.specs.Uses as capacity
use Rattle.pl_level.specs.Effects as level
use Rattle.pl_state.specs.Timelines as state_lines
use Rattle.pl_plan.specs.Activities.{AreRising}
use Rattle.pl_semantics.specs.declared.plan_state.PlanState.{PlanState}
use Rattle.pl_semantics.specs.Whole.{IsWhole, IsStateOf}
use Rattle.pl_semantics.specs.Demands.{demands_of, sets_of, musts_of, use_at, level_at, state_at}
use Rattle.pl_detect.specs.Based.{IsStateLine}
use Rattle.pl_update.specs.Changes.Changes.{CanTell}
use Rattle.pl_update.specs.declared.timelines.line.Line.{Line}
use Rattle.pl_update.specs.declared.timelines.line.Line.TheVariants.{Capacity, Level, States}
use Rattle.pl_update.specs.Timelines.Framed.{bare, idle, AreFramed, AreLinesOf}
use Rattle.pl_update.specs.Timelines.Moments.{MayReach, CanHave, CanHaveAt}
use Rattle.pl_update.specs.Timelines.Readings.{IsCapacityAt, IsLevelAt, IsLevelIn, AreStatesAt, used_of, level_of, state_of, sets_standing, musts_standing}
use Rattle.pl_update.proofs.AboutTimelines.StandingLines.{frame_at, framed_there, IsFramedAs, no_uses, no_effects, no_items, empty_capacity, empty_level, empty_states, same_capacity, same_level, same_states, used_now, level_now, state_now, sets_now, musts_now}

-- a timeline of the plan's horizon, at its present
pub record IsAt (s : PlanState) (spoiled : Bool) (horizon moment : ℕ) : Type 0 where
  pub sound : spoiled ≡ false
  pub end : horizon ≡ s.model.horizon
  pub present : moment ≡ s.moment

capacity_is : (s : PlanState) (line : ℕ) (c : capacity.Standing) (t : Timeline) → IsFramedAs s line (Capacity c) t → IsAt s c.spoiled c.horizon c.moment
capacity_is s line c (timeline.Capacity name most) same =
    let frame : no_uses c ≡ empty_capacity s most = same_capacity (no_uses c) (empty_capacity s most) same in
    record { sound = ap (λ (z : capacity.Standing). z.spoiled) frame; end = ap (λ (z : capacity.Standing). z.horizon) frame; present = ap (λ (z : capacity.Standing). z.moment) frame }
capacity_is s line c (timeline.Level name least most start) same = absurd (cc)
capacity_is s line c (timeline.States name all start any steps) same = absurd (cc)

level_is : (s : PlanState) (line : ℕ) (l : level.Standing) (t : Timeline) → IsFramedAs s line (Level l) t → IsAt s l.spoiled l.horizon l.moment
level_is s line l (timeline.Capacity name most) same = absurd (cc)
level_is s line l (timeline.Level name least most start) same =
    let frame : no_effects l ≡ empty_level s line least most = same_level (no_effects l) (empty_level s line least most) same in
    record { sound = ap (λ (z : level.Standing). z.spoiled) frame; end = ap (λ (z : level.Standing). z.horizon) frame; present = ap (λ (z : level.Standing). z.moment) frame }
level_is s line l (timeline.States name all start any steps) same = absurd (cc)

states_is : (s : PlanState) (line : ℕ) (x : state_lines.Standing) (t : Timeline) → IsFramedAs s line (States x) t → IsAt s x.spoiled x.horizon x.moment
states_is s line x (timeline.Capacity name most) same = absurd (cc)
states_is s line x (timeline.Level name least most start) same = absurd (cc)
states_is s line x (timeline.States name all start any steps) same =
    let frame : no_items x ≡ empty_states s line any steps = same_states (no_items x) (empty_states s line any steps) same in
    record { sound = ap (λ (z : state_lines.Standing). z.spoiled) frame; end = ap (λ (z : state_lines.Standing). z.horizon) frame; present = ap (λ (z : state_lines.Standing). z.moment) frame }

-- ---- which timeline stands where

module _ (s : PlanState) (lines : List Line) (framed : AreFramed s lines) (line : ℕ) where
  -- the timeline of a number that the model has
  pub line_there : (t : Timeline) → slice_get s.model.timelines line ≡ Some t → (l : Line) × (slice_get lines line ≡ Some l) × IsFramedAs s line l t
  line_there t f = by (slice_get lines line) refl (frame_at s lines framed line)
    where
      by : (o : Option Line) → slice_get lines line ≡ o → option_map bare (slice_get lines line) ≡ option_map (idle s) (option_map (λ (u : Timeline). (line, u)) (slice_get s.model.timelines line)) → (l : Line) × (slice_get lines line ≡ Some l) × IsFramedAs s line l t
      by None e same = absurd (let bad : None ≡ Some (idle s (line, t)) = sym (ap (option_map bare) e) ∙ (same ∙ ap (λ (u : Option Timeline). option_map (idle s) (option_map (λ (v : Timeline). (line, v)) u)) f) in cc)
      by (Some l) e same = let is : Some (bare l) ≡ Some (idle s (line, t)) = sym (ap (option_map bare) e) ∙ (same ∙ ap (λ (u : Option Timeline). option_map (idle s) (option_map (λ (v : Timeline). (line, v)) u)) f) in (l, e, (cc))

  pub capacity_there : IsCapacityLine (slice_get s.model.timelines line) → (c : capacity.Standing) × (slice_get lines line ≡ Some (Capacity c)) × IsAt s c.spoiled c.horizon c.moment
  capacity_there of = by (slice_get s.model.timelines line) refl of
    where
      one : (t : Timeline) → IsCapacityLine (Some t) → (l : Line) → slice_get lines line ≡ Some l → IsFramedAs s line l t → (c : capacity.Standing) × (slice_get lines line ≡ Some (Capacity c)) × IsAt s c.spoiled c.horizon c.moment
      one (timeline.Capacity name most) of (Capacity c) e same = (c, e, capacity_is s line c (timeline.Capacity name most) same)
      one (timeline.Capacity name most) of (Level l) e same = absurd (cc)
      one (timeline.Capacity name most) of (States x) e same = absurd (cc)
      one (timeline.Level name least most start) of l e same = absurd of
      one (timeline.States name all start any steps) of l e same = absurd of

      by : (u : Option Timeline) → slice_get s.model.timelines line ≡ u → IsCapacityLine u → (c : capacity.Standing) × (slice_get lines line ≡ Some (Capacity c)) × IsAt s c.spoiled c.horizon c.moment
      by None f of = absurd of
      by (Some t) f of = let there = line_there t f in one t of there.0 there.1 there.2

  pub level_there : IsLevelLine (slice_get s.model.timelines line) → (x : level.Standing) × (slice_get lines line ≡ Some (Level x)) × IsAt s x.spoiled x.horizon x.moment
  level_there of = by (slice_get s.model.timelines line) refl of
    where
      one : (t : Timeline) → IsLevelLine (Some t) → (l : Line) → slice_get lines line ≡ Some l → IsFramedAs s line l t → (x : level.Standing) × (slice_get lines line ≡ Some (Level x)) × IsAt s x.spoiled x.horizon x.moment
      one (timeline.Capacity name most) of l e same = absurd of
      one (timeline.Level name least most start) of (Capacity c) e same = absurd (cc)
      one (timeline.Level name least most start) of (Level x) e same = (x, e, level_is s line x (timeline.Level name least most start) same)
      one (timeline.Level name least most start) of (States x) e same = absurd (cc)
      one (timeline.States name all start any steps) of l e same = absurd of

      by : (u : Option Timeline) → slice_get s.model.timelines line ≡ u → IsLevelLine u → (x : level.Standing) × (slice_get lines line ≡ Some (Level x)) × IsAt s x.spoiled x.horizon x.moment
      by None f of = absurd of
      by (Some t) f of = let there = line_there t f in one t of there.0 there.1 there.2

  pub states_there : IsStateLine (slice_get s.model.timelines line) → (x : state_lines.Standing) × (slice_get lines line ≡ Some (States x)) × IsAt s x.spoiled x.horizon x.moment
  states_there of = by (slice_get s.model.timelines line) refl of
    where
      one : (t : Timeline) → IsStateLine (Some t) → (l : Line) → slice_get lines line ≡ Some l → IsFramedAs s line l t → (x : state_lines.Standing) × (slice_get lines line ≡ Some (States x)) × IsAt s x.spoiled x.horizon x.moment
      one (timeline.Capacity name most) of l e same = absurd of
      one (timeline.Level name least most start) of l e same = absurd of
      one (timeline.States name all start any steps) of (Capacity c) e same = absurd (cc)
      one (timeline.States name all start any steps) of (Level l) e same = absurd (cc)
      one (timeline.States name all start any steps) of (States x) e same = (x, e, states_is s line x (timeline.States name all start any steps) same)

      by : (u : Option Timeline) → slice_get s.model.timelines line ≡ u → IsStateLine u → (x : state_lines.Standing) × (slice_get lines line ≡ Some (States x)) × IsAt s x.spoiled x.horizon x.moment
      by None f of = absurd of
      by (Some t) f of = let there = line_there t f in one t of there.0 there.1 there.2

-- ---- what may be read, and what it says

module _ (s : PlanState) (lines : List Line) (are : AreLinesOf s lines) (line t : ℕ) where
  pub capacity_at : IsCapacityLine (slice_get s.model.timelines line) → s.moment ≤ t → t < s.model.horizon → IsCapacityAt t (slice_get lines line)
  capacity_at of le lt =
      let there = capacity_there s lines are.framed line of in
      let is = there.2 in
      subst (IsCapacityAt t) (sym there.1) (is.sound, omega (arith, is.present, le), omega (arith, is.end, lt))

  pub used_at : IsCapacityLine (slice_get s.model.timelines line) → used_of t (slice_get lines line) ≡ use_at s line t
  used_at of =
      let there = capacity_there s lines are.framed line of in
      ap (used_of t) there.1 ∙ used_now s lines are line there.0 there.1 t

  pub level_readable : IsLevelLine (slice_get s.model.timelines line) → s.moment ≤ t → t < s.model.horizon → IsLevelAt t (slice_get lines line)
  level_readable of le lt =
      let there = level_there s lines are.framed line of in
      let is = there.2 in
      subst (IsLevelAt t) (sym there.1) (is.sound, omega (arith, is.present, le), omega (arith, is.end, lt))

  pub level_readable_in : (to : ℕ) → IsLevelLine (slice_get s.model.timelines line) → s.moment ≤ t → t ≤ to → to ≤ s.model.horizon → IsLevelIn t to (slice_get lines line)
  level_readable_in to of le order bound =
      let there = level_there s lines are.framed line of in
      let is = there.2 in
      subst (IsLevelIn t to) (sym there.1) (is.sound, omega (arith, is.present, le), order, omega (arith, is.end, bound))

  pub level_read : IsLevelLine (slice_get s.model.timelines line) → level_of t (slice_get lines line) ≡ level_at s line t
  level_read of =
      let there = level_there s lines are.framed line of in
      ap (level_of t) there.1 ∙ level_now s lines are line there.0 there.1 t

  pub state_readable : IsStateLine (slice_get s.model.timelines line) → s.moment ≤ t → t < s.model.horizon → AreStatesAt t (slice_get lines line)
  state_readable of le lt =
      let there = states_there s lines are.framed line of in
      let is = there.2 in
      subst (AreStatesAt t) (sym there.1) (is.sound, omega (arith, is.present, le), omega (arith, is.end, lt))

  pub state_read : AreRising s.plan.activities → IsStateLine (slice_get s.model.timelines line) → state_of t (slice_get lines line) ≡ state_at s line t
  state_read rising of =
      let there = states_there s lines are.framed line of in
      ap (state_of t) there.1 ∙ state_now s lines are line there.0 rising there.1 t

  pub sets_read : AreRising s.plan.activities → IsStateLine (slice_get s.model.timelines line) → sets_standing (slice_get lines line) ≡ sets_of line (demands_of s)
  sets_read rising of =
      let there = states_there s lines are.framed line of in
      ap sets_standing there.1 ∙ sets_now s lines are line there.0 rising there.1

  pub musts_read : AreRising s.plan.activities → IsStateLine (slice_get s.model.timelines line) → musts_standing (slice_get lines line) ≡ musts_of line (demands_of s)
  musts_read rising of =
      let there = states_there s lines are.framed line of in
      ap musts_standing there.1 ∙ musts_now s lines are line there.0 rising there.1

-- ---- how far the present may move, and what may be told

reach_one : (s : PlanState) (now line : ℕ) (l : Line) (t : Timeline) → s.moment ≤ now → now ≤ s.model.horizon → IsFramedAs s line l t → MayReach now l
reach_one s now line (Capacity c) t later bound same = λ _. (let is = capacity_is s line c t same in (omega (arith, is.present, later), omega (arith, is.end, bound)))
reach_one s now line (Level l) t later bound same = λ _. (let is = level_is s line l t same in (omega (arith, is.present, later), omega (arith, is.end, bound)))
reach_one s now line (States x) t later bound same = λ _. (let is = states_is s line x t same in (omega (arith, is.present, later), omega (arith, is.end, bound)))

all_places : {T : Type 0} (P : T → Type 0) (xs : List T) → ((i : ℕ) (x : T) → slice_get xs i ≡ Some x → P x) → All P xs
all_places P [] each = All-nil P
all_places P (x ∷ xs) each = All-cons P x xs (each 0 x refl) (all_places P xs (λ i y here. each (suc i) y here))

pub may_reach : (s : PlanState) (now : ℕ) (lines : List Line) → AreFramed s lines → s.moment ≤ now → now ≤ s.model.horizon → All (MayReach now) lines
may_reach s now lines framed later bound = all_places (MayReach now) lines (λ line l here. (let there = framed_there s lines framed line l here in reach_one s now line l there.0 later bound there.2))

state_value : (n : ℕ) (value : ℤ) → n ≤ 32 → IsStateOf n value → (pos 0 ≤ℤ value) × (value ≤ℤ pos 4294967295)
state_value n (pos m) few is = (omega (arith, ints), omega (arith, ints, few, is))
state_value n (negsuc m) few is = absurd is

have_one : (s : PlanState) (line : ℕ) (value : ℤ) (l : Line) (t : Timeline) → IsCheckedLine t → CanTell value (Some t) → IsFramedAs s line l t → CanHave value l
have_one s line value l (timeline.Capacity name most) checked can same = absurd can
have_one s line value (Capacity c) (timeline.Level name least most start) checked can same = absurd (cc)
have_one s line value (Level l) (timeline.Level name least most start) checked can same = can
have_one s line value (States x) (timeline.Level name least most start) checked can same = absurd (cc)
have_one s line value (Capacity c) (timeline.States name all start any steps) checked can same = absurd (cc)
have_one s line value (Level l) (timeline.States name all start any steps) checked can same = absurd (cc)
have_one s line value (States x) (timeline.States name all start any steps) checked can same = state_value (length all) value checked.0 can

pub can_have : (s : PlanState) (line : ℕ) (value : ℤ) (lines : List Line) → IsWhole s → AreFramed s lines → CanTell value (slice_get s.model.timelines line) → CanHaveAt value (slice_get lines line)
can_have s line value lines whole framed can = by (slice_get s.model.timelines line) refl can
  where
    by : (u : Option Timeline) → slice_get s.model.timelines line ≡ u → CanTell value u → CanHaveAt value (slice_get lines line)
    by None f can = absurd can
    by (Some t) f can =
        let there = line_there s lines framed line t f in
        subst (CanHaveAt value) (sym there.1) (have_one s line value there.0 t (all_at IsCheckedLine s.model.timelines line t whole.checked.timelines f) can there.2)
