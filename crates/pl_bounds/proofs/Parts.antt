-- What is wrong with goals and activities, links that are not met, and how often timelines are past limits of their own, are together
-- no more than all that is wrong.
use Rattle.std.proofs.Common.{◌≡◌, ℕ, suc, ◌+◌, ◌-◌, ◌≤◌, Bool, true, false, cond, List, [], ◌∷◌, ◌++◌, map, filter, length, refl, sym, ap, ◌∙◌, arith, inl, inr}
use Rattle.std.specs.Prelude.{◌||◌, ◌&&◌, not, ℤ, All, slice_get, Option, Some}
use Rattle.std.proofs.lemmas.List.{length-append, length-map}
use Rattle.std.proofs.lemmas.List.Elements.{All-head, All-tail}
use Rattle.std.proofs.lemmas.List.Kept.{IsStrictlySortedBy-filter}
use Rattle.std.proofs.Math.Bool.{or-true}
use Rattle.std.proofs.lemmas.Bool.{false_from_ne_true, or_cases}
use Rattle.pl_points.proofs.Maximal.{maximal_spans}
use Rattle.pl_model.specs.declared.timelines.Timeline.{Timeline}
use Rattle.pl_model.specs.declared.timelines.Timeline.TheVariants.{Capacity, Level}
use Rattle.pl_conflict.specs.declared.conflict.Conflict.{Conflict}
use Rattle.pl_conflict.specs.declared.conflict.Code.{Code}
use Rattle.pl_conflict.specs.declared.conflict.Code.TheVariants as code
use Rattle.pl_conflict.specs.Order.{conflict_cmp, has}
use Rattle.pl_conflict.proofs.Sorting.{same, same_is, has-append}
use Rattle.pl_plan.specs.Activities.{AreRising}
use Rattle.pl_semantics.specs.declared.plan_state.PlanState.{PlanState}
use Rattle.pl_semantics.specs.PlanStates.{of_found}
use Rattle.pl_semantics.specs.Parts.{Part, part_of, of_goals, of_activities, of_links, of_timelines}
use Rattle.pl_semantics.specs.Owners.{owner_of}
use Rattle.pl_semantics.specs.Goals.{goal_conflicts}
use Rattle.pl_semantics.specs.Activities.{activity_conflicts}
use Rattle.pl_semantics.specs.Links.{link_conflicts}
use Rattle.pl_semantics.specs.Timelines.{outside, overs, lows, highs, spans_ahead, line_conflicts, line_conflicts_of, timeline_conflicts}
use Rattle.pl_semantics.specs.Conflicts.{conflicts_of}
use Rattle.pl_semantics.specs.Whole.{IsWhole}
use Rattle.pl_semantics.proofs.Owning.{Each, each_map}
use Rattle.pl_semantics.proofs.Lines.{by_line}
use Rattle.pl_semantics.proofs.Standing.{ordered, members, of_timelines_alone}
use Rattle.pl_bounds.specs.declared.outside.Side.{Side}
use Rattle.pl_bounds.specs.declared.outside.Side.TheVariants.{Over, Low, High}
use Rattle.pl_bounds.specs.declared.outside.Outside.{Outside}
use Rattle.pl_bounds.specs.Counts.{AreApart}
use Rattle.pl_bounds.specs.Plain.{is_plain_part, is_plain, count_of_plain}
use Rattle.pl_bounds.specs.Ties.{is_link_part, is_link, count_of_links}
use Rattle.pl_bounds.specs.Sides.{limit_of, value_at, is_past, code_of, HasLimit, IsOther, AreDifferent, spans_past, times_past}
use Rattle.pl_bounds.specs.Marks.{is_of_states, is_state_one, count_of_states}
use Rattle.pl_bounds.proofs.Counted.{held_are_few}
use Rattle.pl_bounds.proofs.Differing.{apart_both, spans_differ}

-- ---- those that pass a test

pub has_kept : (p : Conflict → Bool) (ks : List Conflict) (q : Conflict) → p q ≡ true → has q ks ≡ true → has q (filter p ks) ≡ true
has_kept p [] q passes there = there
has_kept p (k ∷ ks) q passes there = by (same q k) refl (p k) refl there (has_kept p ks q passes)
  where
    by : (b : Bool) → same q k ≡ b → (c : Bool) → p k ≡ c → (b || has q ks) ≡ true → (has q ks ≡ true → has q (filter p ks) ≡ true) → has q (cond c (k ∷ filter p ks) (filter p ks)) ≡ true
    by true is true e h more = ap (λ b. b || has q (filter p ks)) is
    by true is false e h more = absurd (let bad : true ≡ false = sym passes ∙ (ap p (same_is q k is) ∙ e) in cc)
    by false is true e h more = ap (λ b. b || has q (filter p ks)) is ∙ more h
    by false is false e h more = more h

-- ---- the conflicts of timelines past limits

abbrev past_at : PlanState → Outside → List Conflict
past_at s o = map (outside (code_of o.side) o.line) (spans_past s o)

abbrev past_all : PlanState → List Outside → List Conflict
past_all s [] = []
past_all s (o ∷ os) = past_at s o ++ past_all s os

as_often : (s : PlanState) (os : List Outside) → length (past_all s os) ≡ times_past s os
as_often s [] = refl
as_often s (o ∷ os) = omega (
  arith,
  length-append (past_at s o) (past_all s os),
  length-map (spans_past s o) (outside (code_of o.side) o.line),
  as_often s os,
)

-- ---- they differ

abbrev IsAt : Outside → Conflict → Type 0
IsAt o q = (q.subject ≡ o.line) × (q.code ≡ code_of o.side)

at_it : (s : PlanState) (o : Outside) → Each (IsAt o) (past_at s o)
at_it s o = each_map (IsAt o) (outside (code_of o.side) o.line) (spans_past s o) (λ p. (refl, refl))

not_at_both : (o other : Outside) → IsOther o other → (q : Conflict) → IsAt o q → IsAt other q → ⊥
not_at_both o other (inl lines) q one two = lines (sym one.0 ∙ two.0)
not_at_both o other (inr codes) q one two = codes (sym one.1 ∙ two.1)

none_behind : (s : PlanState) (o : Outside) (os : List Outside) → All (IsOther o) os → (q : Conflict) → IsAt o q → has q (past_all s os) ≡ false
none_behind s o [] others q at = refl
none_behind s o (p ∷ os) others q at =
    let here : has q (past_at s p) ≡ false = false_from_ne_true (has q (past_at s p)) (λ e. not_at_both o p (All-head (IsOther o) p os others) q at (at_it s p q e)) in
    let rest : has q (past_all s os) ≡ false = none_behind s o os (All-tail (IsOther o) p os others) q at in
    has-append (past_at s p) (past_all s os) q ∙ rw (here, rest) refl

all_differ : (s : PlanState) (os : List Outside) → AreDifferent os → AreApart (past_all s os)
all_differ s [] different = tt
all_differ s (o ∷ os) different = apart_both (past_at s o) (past_all s os)
    (spans_differ (code_of o.side) o.line s.moment (s.moment + (s.model.horizon - s.moment)) (spans_past s o) (maximal_spans (λ t. is_past o.side o.limit (value_at s o.side o.line t)) s.moment (s.model.horizon - s.moment)).apart)
    (all_differ s os (λ i j d lt within. different (suc i) (suc j) d (omega (arith, lt)) (omega (arith, within))))
    (λ q e. none_behind s o os (λ k d lt. different 0 (suc k) d (omega arith) (omega (arith, lt))) q (at_it s o q e))

-- ---- they stand

module _ (s : PlanState) (rising : AreRising s.plan.activities) (line : ℕ) (q : Conflict) where
  of_line : (t : Timeline) → slice_get s.model.timelines line ≡ Some t → owner_of s q ≡ Some line → has q (line_conflicts s (line, t)) ≡ true → has q (timeline_conflicts s) ≡ true
  of_line t there owner held =
      by_line s rising q
      ∙ (ap (λ o. has q (of_found (line_conflicts_of s) o)) owner
      ∙ (ap (λ o. has q (of_found (λ w. line_conflicts s (line, w)) o)) there ∙ held))

  past_of : (side : Side) (limit : ℤ) (o : Option Timeline) → slice_get s.model.timelines line ≡ o → limit_of side o ≡ Some limit
      → has q (map (outside (code_of side) line) (spans_ahead s (λ t. is_past side limit (value_at s side line t)))) ≡ true → has q (timeline_conflicts s) ≡ true
  unfolding line_conflicts
  past_of Over limit (Some (Capacity name most)) there is e =
      let same_limit : most ≡ limit = cc in
      of_line (Capacity name most) there (each_map (λ k. owner_of s k ≡ Some line) (outside code.Over line) _ (λ p. refl) q e) (ap (λ m. has q (overs s line m)) same_limit ∙ e)
  past_of Low limit (Some (Level name least most start)) there is e =
      let same_limit : least ≡ limit = cc in
      let low : has q (lows s line least) ≡ true = ap (λ m. has q (lows s line m)) same_limit ∙ e in
      of_line (Level name least most start) there (each_map (λ k. owner_of s k ≡ Some line) (outside code.Low line) _ (λ p. refl) q e)
      (has-append (lows s line least) (highs s line most) q ∙ ap (λ b. b || has q (highs s line most)) low)
  past_of High limit (Some (Level name least most start)) there is e =
      let same_limit : most ≡ limit = cc in
      let high : has q (highs s line most) ≡ true = ap (λ m. has q (highs s line m)) same_limit ∙ e in
      of_line (Level name least most start) there (each_map (λ k. owner_of s k ≡ Some line) (outside code.High line) _ (λ p. refl) q e)
      (has-append (lows s line least) (highs s line most) q ∙ ap (λ b. has q (lows s line least) || b) high ∙ or-true (has q (lows s line least)))
  past_of _ limit _ there is e = absurd (cc)

all_stand : (s : PlanState) → AreRising s.plan.activities → (os : List Outside) → All (HasLimit s) os → (q : Conflict) → has q (past_all s os) ≡ true → has q (timeline_conflicts s) ≡ true
all_stand s rising [] limits q e = absurd (cc)
all_stand s rising (o ∷ os) limits q e = by (has q (past_at s o)) refl (sym (has-append (past_at s o) (past_all s os) q) ∙ e) (all_stand s rising os (All-tail (HasLimit s) o os limits) q)
  where
    by : (b : Bool) → has q (past_at s o) ≡ b → (has q (past_at s o) || has q (past_all s os)) ≡ true → (has q (past_all s os) ≡ true → has q (timeline_conflicts s) ≡ true) → has q (timeline_conflicts s) ≡ true
    by true here h more = past_of s rising o.line q o.side o.limit (slice_get s.model.timelines o.line) refl (All-head (HasLimit s) o os limits) here
    by false here h more = more (sym (ap (λ b. b || has q (past_all s os)) here) ∙ h)

-- ---- together

abbrev is_line_part : Part → Bool
is_line_part of_goals = false
is_line_part of_activities = false
is_line_part of_links = false
is_line_part of_timelines = true

abbrev is_of_line : Conflict → Bool
is_of_line q = is_line_part (part_of q.code)

-- each conflict is of goals or activities, of links, or of timelines
three : (ks : List Conflict) → length (filter is_plain ks) + length (filter is_link ks) + length (filter is_of_line ks) ≡ length ks
three [] = omega arith
three (k ∷ ks) = by (part_of k.code) (filter is_plain ks) (filter is_link ks) (filter is_of_line ks) (three ks)
  where
    by : (part : Part) (plain links lines : List Conflict) → length plain + length links + length lines ≡ length ks
        → length (cond (is_plain_part part) (k ∷ plain) plain) + length (cond (is_link_part part) (k ∷ links) links) + length (cond (is_line_part part) (k ∷ lines) lines) ≡ suc (length ks)
    by of_goals plain links lines e = omega (arith, e)
    by of_activities plain links lines e = omega (arith, e)
    by of_links plain links lines e = omega (arith, e)
    by of_timelines plain links lines e = omega (arith, e)

-- of those of timelines, the ones that tell of a state, and the others
abbrev is_other_line : Conflict → Bool
is_other_line q = is_of_line q && not (is_state_one q)

state_part : (c : Code) → is_of_states c ≡ true → is_line_part (part_of c) ≡ true
state_part code.Must e = refl
state_part code.BadStep e = refl
state_part _ e = absurd (cc)

two : (ks : List Conflict) → length (filter is_state_one ks) + length (filter is_other_line ks) ≡ length (filter is_of_line ks)
two [] = omega arith
two (k ∷ ks) = by (is_of_line k) (is_of_states k.code) (state_part k.code) (filter is_state_one ks) (filter is_other_line ks) (filter is_of_line ks) (two ks)
  where
    by : (b m : Bool) → (m ≡ true → b ≡ true) → (states others lines : List Conflict) → length states + length others ≡ length lines
        → length (cond m (k ∷ states) states) + length (cond (b && not m) (k ∷ others) others) ≡ length (cond b (k ∷ lines) lines)
    by true true part states others lines e = omega (arith, e)
    by true false part states others lines e = omega (arith, e)
    by false true part states others lines e = absurd (let bad : false ≡ true = part refl in cc)
    by false false part states others lines e = omega (arith, e)

side_no_state : (side : Side) → is_of_states (code_of side) ≡ false
side_no_state Over = refl
side_no_state Low = refl
side_no_state High = refl

past_no_state : (s : PlanState) (os : List Outside) (q : Conflict) → has q (past_all s os) ≡ true → is_state_one q ≡ false
past_no_state s [] q e = absurd (cc)
past_no_state s (o ∷ os) q e = elim (or_cases (has q (past_at s o)) (has q (past_all s os)) (sym (has-append (past_at s o) (past_all s os) q) ∙ e)) [
  | inl here ↦ ap is_of_states (at_it s o q here).1 ∙ side_no_state o.side
  | inr more ↦ past_no_state s os q more
]

-- a conflict of timelines is one of all
among_lines : (s : PlanState) (q : Conflict) → has q (timeline_conflicts s) ≡ true → is_state_one q ≡ false → has q (filter is_other_line (conflicts_of s)) ≡ true
among_lines s q e other =
    let part : part_of q.code ≡ of_timelines = of_timelines_alone s q e in
    let of_line : is_of_line q ≡ true = ap is_line_part part in
    let is : is_other_line q ≡ true = rw (of_line, other) refl in
    let stands : has q (conflicts_of s) ≡ true =
    members s q ∙ ap (λ b. has q (goal_conflicts s) || (has q (activity_conflicts s) || (has q (link_conflicts s) || b))) e
    ∙ rw (or-true (has q (link_conflicts s)), or-true (has q (activity_conflicts s)), or-true (has q (goal_conflicts s))) refl in
    has_kept is_other_line (conflicts_of s) q is stands

pub three_parts : (s : PlanState) → count_of_plain s + count_of_links s + count_of_states s ≤ length (conflicts_of s)
three_parts s = omega (arith, three (conflicts_of s), two (conflicts_of s))

pub parts : (s : PlanState) (os : List Outside) → IsWhole s → AreDifferent os → All (HasLimit s) os → count_of_plain s + count_of_links s + (count_of_states s + times_past s os) ≤ length (conflicts_of s)
parts s os whole different limits =
    let few : length (past_all s os) ≤ length (filter is_other_line (conflicts_of s)) =
    held_are_few (past_all s os) (filter is_other_line (conflicts_of s)) (all_differ s os different) (IsStrictlySortedBy-filter conflict_cmp is_other_line (conflicts_of s) (ordered s)) (λ q e. among_lines s q (all_stand s whole.rising os limits q e) (past_no_state s os q e)) in
    omega (arith, three (conflicts_of s), two (conflicts_of s), few, as_often s os)
