-- What timelines hold as the present moves on, as one is told anew, as goals change, and at first.
use Rattle.std.proofs.Common.{◌≡◌, ◌≢◌, ℕ, zero, suc, false, List, [], ◌∷◌, map, Option, Some, None, refl, sym, ap, ◌∙◌, subst, arith, ⊎_elim, ℤ, pos}
use Rattle.std.specs.Prelude.{slice_get, slice_set}
use Rattle.std.specs.Option.{option_map}
use Rattle.std.specs.List.{flat_map}
use Rattle.std.proofs.lemmas.Int.{ints}
use Rattle.std.proofs.lemmas.Bool.{cases_eq}
use Rattle.std.proofs.lemmas.List.{get_or-set_same, get_or-set_other}
use Rattle.std.proofs.lemmas.List.Elements.{All-map, All-weaker, All-set}
use Rattle.std.proofs.lemmas.Option.{slice_get-map}
use Rattle.pl_lists.proofs.Elements.{all_at}
use Rattle.pl_conflict.specs.declared.conflict.Conflict.{Conflict}
use Rattle.pl_facts.specs.declared.goal.Goal.{Goal}
use Rattle.pl_facts.specs.Bases.{base_of}
use Rattle.pl_model.specs.declared.timelines.Timeline.{Timeline}
use Rattle.pl_model.specs.declared.timelines.Timeline.TheVariants as timeline
use Rattle.pl_level.specs.Effects as level
use Rattle.pl_state.specs.Timelines as state_lines
use Rattle.pl_plan.specs.declared.activity.Activity.{Activity}
use Rattle.pl_semantics.specs.declared.plan_state.PlanState.{PlanState}
use Rattle.pl_semantics.specs.declared.demand.Demand.{Demand}
use Rattle.pl_semantics.specs.declared.demand.Asked.{Asked}
use Rattle.pl_semantics.specs.PlanStates.{natural}
use Rattle.pl_semantics.specs.Whole.{IsWhole}
use Rattle.pl_semantics.specs.Demands.{demands_at, demands_of, moment_of_base, value_of_base}
use Rattle.pl_semantics.specs.Timelines.{lines_of}
use Rattle.pl_update.specs.Changes.Changes.{with_goal, without_goal, moved_on, told_now, committed_to, with_next, CanTell}
use Rattle.pl_update.proofs.AboutChanges.Telling.{can_set, within_bases}
use Rattle.pl_update.proofs.AboutChanges.Keeping.{demands_next}
use Rattle.pl_update.specs.declared.timelines.line.Line.{Line}
use Rattle.pl_update.specs.declared.timelines.line.Line.TheVariants.{Capacity, Level, States}
use Rattle.pl_update.specs.Timelines.Held.{held, held_in, held_at, asked_at, Hold}
use Rattle.pl_update.specs.Timelines.Framed.{bare, idle, IsOrdered, AreLinesOf}
use Rattle.pl_update.specs.Timelines.Told.{IsTold}
use Rattle.pl_update.specs.Timelines.Moments.{at_moment, based_on, rebased_in}
use Rattle.pl_update.proofs.AboutTimelines.StandingLines.{numbered_at, frame_at, framed_there, IsFramedAs, no_effects, no_items, empty_level, empty_states, same_level, same_states}

-- ---- what is asked for is the same

pub demands_moved : (s : PlanState) (now : ℕ) → demands_of (moved_on now s) ≡ demands_of s
unfolding demands_at
demands_moved s now = refl

pub demands_told : (s : PlanState) (line : ℕ) (value : ℤ) → demands_of (told_now line value s) ≡ demands_of s
unfolding demands_at
demands_told s line value = refl

pub demands_with_goal : (s : PlanState) (g : Goal) → demands_of (with_goal g s) ≡ demands_of s
unfolding demands_at
demands_with_goal s g = refl

pub demands_without_goal : (s : PlanState) (n : ℕ) → demands_of (without_goal n s) ≡ demands_of s
unfolding demands_at
demands_without_goal s n = refl

pub demands_committed : (s : PlanState) (h : ℕ) → demands_of (committed_to h s) ≡ demands_of s
unfolding demands_at
demands_committed s h = refl

hold_same : (lines : List Line) (ds es : List Demand) → es ≡ ds → Hold lines ds → Hold lines es
hold_same lines ds es same hold line f = hold line f ∙ sym (ap (λ (xs : List Demand). asked_at xs line f) same)

-- ---- goals, and what is committed

pub lines_with_goal : (s : PlanState) (g : Goal) (lines : List Line) → AreLinesOf s lines → AreLinesOf (with_goal g s) lines
lines_with_goal s g lines are = record { framed = are.framed; ordered = are.ordered; hold = hold_same lines (demands_of s) (demands_of (with_goal g s)) (demands_with_goal s g) are.hold }

pub lines_without_goal : (s : PlanState) (n : ℕ) (lines : List Line) → AreLinesOf s lines → AreLinesOf (without_goal n s) lines
lines_without_goal s n lines are = record { framed = are.framed; ordered = are.ordered; hold = hold_same lines (demands_of s) (demands_of (without_goal n s)) (demands_without_goal s n) are.hold }

pub lines_committed : (s : PlanState) (h : ℕ) (lines : List Line) → AreLinesOf s lines → AreLinesOf (committed_to h s) lines
lines_committed s h lines are = record { framed = are.framed; ordered = are.ordered; hold = hold_same lines (demands_of s) (demands_of (committed_to h s)) (demands_committed s h) are.hold }

pub lines_next : (s : PlanState) (id : ℕ) (lines : List Line) → AreLinesOf s lines → AreLinesOf (with_next id s) lines
lines_next s id lines are = record { framed = are.framed; ordered = are.ordered; hold = hold_same lines (demands_of s) (demands_of (with_next id s)) (demands_next s id) are.hold }

-- starts and names are the same, so what is told is
pub told_with_goal : (s : PlanState) (g : Goal) (lines : List Line) (set : List Conflict) → IsTold s lines set → IsTold (with_goal g s) lines set
told_with_goal s g lines set told = told

pub told_without_goal : (s : PlanState) (n : ℕ) (lines : List Line) (set : List Conflict) → IsTold s lines set → IsTold (without_goal n s) lines set
told_without_goal s n lines set told = told

pub told_committed : (s : PlanState) (h : ℕ) (lines : List Line) (set : List Conflict) → IsTold s lines set → IsTold (committed_to h s) lines set
told_committed s h lines set told = told

pub told_next : (s : PlanState) (id : ℕ) (lines : List Line) (set : List Conflict) → IsTold s lines set → IsTold (with_next id s) lines set
told_next s id lines set told = told

pub told_moved : (s : PlanState) (now : ℕ) (lines : List Line) (set : List Conflict) → IsTold s lines set → IsTold (moved_on now s) lines set
told_moved s now lines set told = told

pub told_told : (s : PlanState) (line : ℕ) (value : ℤ) (lines : List Line) (set : List Conflict) → IsTold s lines set → IsTold (told_now line value s) lines set
told_told s line value lines set told = told

-- ---- the present

bare_moved : (now : ℕ) (lines : List Line) → map bare (map (at_moment now) lines) ≡ map (at_moment now) (map bare lines)
bare_moved now [] = refl
bare_moved now (l ∷ lines) = ap (λ x. x ∷ map bare (map (at_moment now) lines)) (one l) ∙ ap (λ xs. at_moment now (bare l) ∷ xs) (bare_moved now lines)
  where
    one : (l : Line) → bare (at_moment now l) ≡ at_moment now (bare l)
    one (Capacity c) = refl
    one (Level l) = refl
    one (States x) = refl

idle_moved : (s : PlanState) (now : ℕ) (xs : List (ℕ × Timeline)) → map (at_moment now) (map (idle s) xs) ≡ map (idle (moved_on now s)) xs
idle_moved s now [] = refl
idle_moved s now (x ∷ xs) = ap (λ y. y ∷ map (at_moment now) (map (idle s) xs)) (one x) ∙ ap (λ ys. idle (moved_on now s) x ∷ ys) (idle_moved s now xs)
  where
    one : (p : ℕ × Timeline) → at_moment now (idle s p) ≡ idle (moved_on now s) p
    one (line, timeline.Capacity name most) = refl
    one (line, timeline.Level name least most start) = refl
    one (line, timeline.States name all start any steps) = refl

ordered_moved : (now : ℕ) (l : Line) → IsOrdered l → IsOrdered (at_moment now l)
ordered_moved now (Capacity c) is = tt
ordered_moved now (Level l) is = tt
ordered_moved now (States x) is = is

held_moved : (now : ℕ) (f : Asked → ℤ) (o : Option Line) → held_in f (option_map (at_moment now) o) ≡ held_in f o
held_moved now f None = refl
held_moved now f (Some (Capacity c)) = refl
held_moved now f (Some (Level l)) = refl
held_moved now f (Some (States x)) = refl

pub lines_moved : (s : PlanState) (now : ℕ) (lines : List Line) → AreLinesOf s lines → AreLinesOf (moved_on now s) (map (at_moment now) lines)
lines_moved s now lines are = record {
  framed = bare_moved now lines ∙ (ap (λ (xs : List Line). map (at_moment now) xs) are.framed ∙ idle_moved s now (lines_of s));
  ordered = All-map IsOrdered (at_moment now) lines (All-weaker IsOrdered (λ l. IsOrdered (at_moment now l)) (ordered_moved now) lines are.ordered);
  hold = hold_same (map (at_moment now) lines) (demands_of s) (demands_of (moved_on now s)) (demands_moved s now) (λ line f. ap (held_in f) (slice_get-map (at_moment now) lines line) ∙ (held_moved now f (slice_get lines line) ∙ are.hold line f));
}

-- ---- telemetry

get_set_same : {T : Type 0} (xs : List T) (i : ℕ) (x v : T) → slice_get xs i ≡ Some x → slice_get (slice_set xs i v) i ≡ Some v
get_set_same [] i x v e = absurd (cc)
get_set_same (y ∷ ys) zero x v e = refl
get_set_same (y ∷ ys) (suc i) x v e = get_set_same ys i x v e

get_set_other : {T : Type 0} (xs : List T) (i j : ℕ) (v : T) → j ≢ i → slice_get (slice_set xs i v) j ≡ slice_get xs j
get_set_other [] i j v ne = refl
get_set_other (y ∷ ys) zero zero v ne = absurd (ne refl)
get_set_other (y ∷ ys) zero (suc j) v ne = refl
get_set_other (y ∷ ys) (suc i) zero v ne = refl
get_set_other (y ∷ ys) (suc i) (suc j) v ne = get_set_other ys i j v (λ e. ne (ap suc e))

same_places : {T : Type 0} (xs ys : List T) → ((i : ℕ) → slice_get xs i ≡ slice_get ys i) → xs ≡ ys
same_places [] [] same = refl
same_places [] (y ∷ ys) same = absurd (let bad : None ≡ Some y = same 0 in cc)
same_places (x ∷ xs) [] same = absurd (let bad : Some x ≡ None = same 0 in cc)
same_places (x ∷ xs) (y ∷ ys) same =
    let head : Some x ≡ Some y = same 0 in
    let first : x ≡ y = cc in
    ap (λ z. z ∷ xs) first ∙ ap (λ zs. y ∷ zs) (same_places xs ys (λ i. same (suc i)))

module _ (s : PlanState) (line : ℕ) (value : ℤ) where
  pub base_told : IsWhole s → CanTell value (slice_get s.model.timelines line) → base_of line (told_now line value s).bases ≡ Some (pos s.moment, value)
  base_told whole can = get_or-set_same s.bases line (Some (pos s.moment, value)) None (within_bases line s.bases (can_set s.model s.moment line value s.bases whole.bases (slice_get s.model.timelines line) refl can))

  base_other : (n : ℕ) → n ≢ line → base_of n (told_now line value s).bases ≡ base_of n s.bases
  base_other n ne = get_or-set_other s.bases line n (Some (pos s.moment, value)) None ne

  idle_other : (n : ℕ) (t : Timeline) → n ≢ line → idle s (n, t) ≡ idle (told_now line value s) (n, t)
  idle_other n (timeline.Capacity name most) ne = refl
  idle_other n (timeline.Level name least most start) ne = let P : Option (ℤ × ℤ) → Line = λ b. Level (record { spoiled = false; horizon = s.model.horizon; least = least; most = most; moment = s.moment; base = moment_of_base b; value = value_of_base b; effects = [] }) in ap P (sym (base_other n ne))
  idle_other n (timeline.States name all start any steps) ne = let P : Option (ℤ × ℤ) → Line = λ b. States (record { spoiled = false; horizon = s.model.horizon; any = any; steps = steps; moment = s.moment; base = moment_of_base b; value = natural (value_of_base b); sets = []; musts = [] }) in ap P (sym (base_other n ne))

  idle_there : (l : Line) (t : Timeline) → CanTell value (Some t) → IsFramedAs s line l t → base_of line (told_now line value s).bases ≡ Some (pos s.moment, value) → bare (based_on value l) ≡ idle (told_now line value s) (line, t)
  idle_there l (timeline.Capacity name most) can same based = absurd can
  idle_there (Capacity c) (timeline.Level name least most start) can same based = absurd (cc)
  idle_there (Level l) (timeline.Level name least most start) can same based =
      let frame : no_effects l ≡ empty_level s line least most = same_level (no_effects l) (empty_level s line least most) same in
      let P : Option (ℤ × ℤ) → Line = λ b. Level (record { spoiled = false; horizon = s.model.horizon; least = least; most = most; moment = s.moment; base = moment_of_base b; value = value_of_base b; effects = [] }) in
      ap (λ (z : level.Standing). Level (record z { base = z.moment; value = value })) frame ∙ ap P (sym based)
  idle_there (States x) (timeline.Level name least most start) can same based = absurd (cc)
  idle_there (Capacity c) (timeline.States name all start any steps) can same based = absurd (cc)
  idle_there (Level l) (timeline.States name all start any steps) can same based = absurd (cc)
  idle_there (States x) (timeline.States name all start any steps) can same based =
      let frame : no_items x ≡ empty_states s line any steps = same_states (no_items x) (empty_states s line any steps) same in
      let P : Option (ℤ × ℤ) → Line = λ b. States (record { spoiled = false; horizon = s.model.horizon; any = any; steps = steps; moment = s.moment; base = moment_of_base b; value = natural (value_of_base b); sets = []; musts = [] }) in
      ap (λ (z : state_lines.Standing). States (record z { base = z.moment; value = natural value })) frame ∙ ap P (sym based)

  ordered_rebased : (l : Line) → IsOrdered l → IsOrdered (based_on value l)
  ordered_rebased (Capacity c) is = tt
  ordered_rebased (Level l) is = tt
  ordered_rebased (States x) is = is

  held_rebased : (f : Asked → ℤ) (l : Line) → held f (based_on value l) ≡ held f l
  held_rebased f (Capacity c) = refl
  held_rebased f (Level l) = refl
  held_rebased f (States x) = refl

  module _ (lines : List Line) (whole : IsWhole s) (are : AreLinesOf s lines) (l : Line) (here : slice_get lines line ≡ Some l) (can : CanTell value (slice_get s.model.timelines line)) where
    frame_told : (n : ℕ) → option_map bare (slice_get (slice_set lines line (based_on value l)) n) ≡ option_map (idle (told_now line value s)) (option_map (λ (t : Timeline). (n, t)) (slice_get s.model.timelines n))
    frame_told n = ⊎_elim
        (λ (e : n ≡ line).
        let there = framed_there s lines are.framed line l here in
        let same : bare (based_on value l) ≡ idle (told_now line value s) (line, there.0) = idle_there l there.0 (subst (CanTell value) there.1 can) there.2 (base_told whole can) in
        subst (λ m. option_map bare (slice_get (slice_set lines line (based_on value l)) m) ≡ option_map (idle (told_now line value s)) (option_map (λ (t : Timeline). (m, t)) (slice_get s.model.timelines m))) (sym e)
        (ap (option_map bare) (get_set_same lines line l (based_on value l) here) ∙ (ap (λ (x : Line). Some x) same ∙ sym (ap (λ (o : Option Timeline). option_map (idle (told_now line value s)) (option_map (λ (t : Timeline). (line, t)) o)) there.1))))
        (λ (ne : n ≢ line).
        ap (option_map bare) (get_set_other lines line n (based_on value l) ne) ∙ (frame_at s lines are.framed n ∙ others n ne (slice_get s.model.timelines n)))
        (cases_eq n line)
      where
        others : (n : ℕ) → n ≢ line → (o : Option Timeline) → option_map (idle s) (option_map (λ (t : Timeline). (n, t)) o) ≡ option_map (idle (told_now line value s)) (option_map (λ (t : Timeline). (n, t)) o)
        others n ne None = refl
        others n ne (Some t) = ap (λ (x : Line). Some x) (idle_other n t ne)

    held_told : (n : ℕ) (f : Asked → ℤ) → held_at (slice_set lines line (based_on value l)) n f ≡ held_at lines n f
    held_told n f = ⊎_elim
        (λ (e : n ≡ line). subst (λ m. held_at (slice_set lines line (based_on value l)) m f ≡ held_at lines m f) (sym e)
        (ap (held_in f) (get_set_same lines line l (based_on value l) here) ∙ (held_rebased f l ∙ sym (ap (held_in f) here))))
        (λ (ne : n ≢ line). ap (held_in f) (get_set_other lines line n (based_on value l) ne))
        (cases_eq n line)

    pub lines_told : AreLinesOf (told_now line value s) (slice_set lines line (based_on value l))
    lines_told = record {
      framed = framed_all;
      ordered = All-set IsOrdered lines line (based_on value l) (ordered_rebased l (all_at IsOrdered lines line l are.ordered here)) are.ordered;
      hold = hold_same (slice_set lines line (based_on value l)) (demands_of s) (demands_of (told_now line value s)) (demands_told s line value) (λ n f. held_told n f ∙ are.hold n f);
    }
      where
        framed_all : map bare (slice_set lines line (based_on value l)) ≡ map (idle (told_now line value s)) (lines_of (told_now line value s))
        framed_all = same_places (map bare (slice_set lines line (based_on value l))) (map (idle (told_now line value s)) (lines_of s)) (λ n.
            slice_get-map bare (slice_set lines line (based_on value l)) n
            ∙ (frame_told n
            ∙ (ap (option_map (idle (told_now line value s))) (sym (numbered_at 0 n n s.model.timelines (omega arith)))
            ∙ sym (slice_get-map (idle (told_now line value s)) (lines_of s) n))))

pub lines_rebased : (s : PlanState) (line : ℕ) (value : ℤ) (lines : List Line) → IsWhole s → AreLinesOf s lines → CanTell value (slice_get s.model.timelines line) → AreLinesOf (told_now line value s) (rebased_in lines line value (slice_get lines line))
lines_rebased s line value lines whole are can = by (slice_get lines line) refl
  where
    nowhere : (o : Option Timeline) → slice_get lines line ≡ None → option_map bare (slice_get lines line) ≡ option_map (idle s) (option_map (λ (t : Timeline). (line, t)) o) → CanTell value o → ⊥
    nowhere None none same tells = tells
    nowhere (Some t) none same tells = (let bad : None ≡ Some (idle s (line, t)) = sym (ap (option_map bare) none) ∙ same in absurd (cc))

    by : (o : Option Line) → slice_get lines line ≡ o → AreLinesOf (told_now line value s) (rebased_in lines line value o)
    by None e = absurd (nowhere (slice_get s.model.timelines line) e (frame_at s lines are.framed line) can)
    by (Some l) e = lines_told s line value lines whole are l e can

-- ---- at first

bare_idle : (s : PlanState) (xs : List (ℕ × Timeline)) → map bare (map (idle s) xs) ≡ map (idle s) xs
bare_idle s [] = refl
bare_idle s (x ∷ xs) = ap (λ y. y ∷ map bare (map (idle s) xs)) (one x) ∙ ap (λ ys. idle s x ∷ ys) (bare_idle s xs)
  where
    one : (p : ℕ × Timeline) → bare (idle s p) ≡ idle s p
    one (line, timeline.Capacity name most) = refl
    one (line, timeline.Level name least most start) = refl
    one (line, timeline.States name all start any steps) = refl

ordered_idle : (s : PlanState) (p : ℕ × Timeline) → IsOrdered (idle s p)
ordered_idle s (line, timeline.Capacity name most) = tt
ordered_idle s (line, timeline.Level name least most start) = tt
ordered_idle s (line, timeline.States name all start any steps) = (tt, tt)

held_idle : (s : PlanState) (f : Asked → ℤ) (o : Option (ℕ × Timeline)) → held_in f (option_map (idle s) o) ≡ pos 0
held_idle s f None = refl
held_idle s f (Some (line, timeline.Capacity name most)) = refl
held_idle s f (Some (line, timeline.Level name least most start)) = refl
held_idle s f (Some (line, timeline.States name all start any steps)) = omega (arith, ints)

pub lines_first : (s : PlanState) → s.plan.activities ≡ [] → AreLinesOf s (map (idle s) (lines_of s))
lines_first s none = record {
  framed = bare_idle s (lines_of s);
  ordered = All-map IsOrdered (idle s) (lines_of s) (λ i d lt. ordered_idle s _);
  hold = λ line f. ap (held_in f) (slice_get-map (idle s) (lines_of s) line) ∙ (held_idle s f (slice_get (lines_of s) line) ∙ sym (ap (λ (xs : List Activity). asked_at (flat_map (demands_at s) xs) line f) none));
}
