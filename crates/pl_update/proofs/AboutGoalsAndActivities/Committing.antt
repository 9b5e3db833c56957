-- What a commit leaves alone: the goals and the activities of which no conflict begins before its moment.
use Rattle.std.proofs.Common.{◌≡◌, ℕ, ◌≤◌, Bool, true, false, map, refl, sym, ap, ◌∙◌, subst}
use Rattle.std.specs.Prelude.{◌||◌, filter, nat_lt, nat_le, ◌&&◌, Some}
use Rattle.std.proofs.lemmas.Bool.{false≢true, ltb-false, or_right}
use Rattle.pl_conflict.specs.declared.conflict.Conflict.{Conflict}
use Rattle.pl_conflict.specs.declared.conflict.Code.{Code}
use Rattle.pl_conflict.specs.declared.conflict.Code.TheVariants as code
use Rattle.pl_conflict.specs.Order.{has}
use Rattle.pl_conflict.proofs.Sorting.{same, same_is}
use Rattle.pl_facts.specs.declared.goal.Goal.{Goal}
use Rattle.pl_plan.specs.declared.activity.Activity.{Activity}
use Rattle.pl_detect.proofs.Found.{found_id}
use Rattle.pl_semantics.specs.declared.plan_state.PlanState.{PlanState}
use Rattle.pl_semantics.specs.PlanStates.{among, floor_of, is_open, is_committed, goal_at, found, served_by, of_found}
use Rattle.pl_semantics.specs.Parts.{part_of, of_activities}
use Rattle.pl_semantics.specs.Goals.{open_goal, open_at, open_of, off_goal, off_from, off_at, off_of, goal_conflicts}
use Rattle.pl_semantics.specs.Activities.{wrong_at, wrong_of, activity_conflicts}
use Rattle.pl_semantics.specs.Conflicts.{conflicts_of}
use Rattle.pl_semantics.specs.Grants.{touches_before}
use Rattle.pl_semantics.specs.Whole.{IsWhole}
use Rattle.pl_semantics.proofs.Owning.{Each, each_when, each_planned, each_found}
use Rattle.pl_semantics.proofs.Subjects.{open_is, off_is, wrong_is}
use Rattle.pl_semantics.proofs.Standing.{members, goals_by_subject, activities_by_subject}
use Rattle.pl_update.specs.Changes.Changes.{committed_to}
use Rattle.pl_update.specs.GoalsAndActivities.Near.{Follows}
use Rattle.pl_update.specs.GoalsAndActivities.Passed.{subject_of}
use Rattle.pl_update.specs.GoalsAndActivities.Committed.{early, is_open_goal, names_activity, is_of_activity, missed_goals, early_ids}
use Rattle.pl_update.proofs.AboutGoalsAndActivities.OfGoals.{found_alike}
use Rattle.pl_update.proofs.AboutGoalsAndActivities.Standing.{found_number}
use Rattle.pl_update.proofs.AboutGoalsAndActivities.Passing.{among_subjects}
use Rattle.pl_update.proofs.AboutGoalsAndActivities.Granted.{open_alike, off_alike, wrong_alike}
use Rattle.pl_update.proofs.AboutLinks.Owning.{any-filter}

-- ---- what the conflicts of a goal and of an activity tell

open_tells : (s : PlanState) (g : Goal) → Each (λ k. is_open_goal k ≡ true) (open_at s g)
unfolding open_at
open_tells s g = each_when (λ k. is_open_goal k ≡ true) (is_open s g && nat_le (floor_of s) g.latest) (open_goal g) refl

off_tells : (s : PlanState) (a : Activity) → Each (λ k. is_of_activity k ≡ true) (off_at s a)
unfolding off_at
off_tells s a =
    each_planned (λ k. is_of_activity k ≡ true) (is_committed s a) (of_found (off_from a) (served_by s a))
    (each_found (λ k. is_of_activity k ≡ true) (off_from a) (served_by s a)
    (λ g. each_when (λ k. is_of_activity k ≡ true) (nat_lt a.start g.earliest || nat_lt g.latest a.start) (off_goal a g) refl))

part_tells : (c : Code) → part_of c ≡ of_activities → names_activity c ≡ true
part_tells code.Late e = refl
part_tells code.Unset e = refl
part_tells code.BadValue e = refl
part_tells code.Undetailed e = refl
part_tells code.Overrun e = refl
part_tells code.OffGoal e = refl
part_tells _ e = absurd (cc)

module _ (s : PlanState) (h : ℕ) (whole : IsWhole s) (later : s.committed ≤ h) where
  -- ---- what stands

  goal_stands : (n : ℕ) (g : Goal) → goal_at s n ≡ Some g → (q : Conflict) → has q (open_at s g) ≡ true → has q (conflicts_of s) ≡ true
  goal_stands n g here q there =
      let found_here : goal_at s q.subject ≡ Some g = ap (goal_at s) ((open_is s g q there).0 ∙ found_number n s.goals g here) ∙ here in
      let one : has q (open_of s q.subject) ≡ true = rw found_here there in
      let goals : has q (goal_conflicts s) ≡ true = goals_by_subject s whole.distinct whole.rising q ∙ rw one refl in
      members s q ∙ rw goals refl

  root_stands : (id : ℕ) (a : Activity) → found s id ≡ Some a → (q : Conflict) → has q (off_at s a) ≡ true → has q (conflicts_of s) ≡ true
  root_stands id a here q there =
      let found_here : found s q.subject ≡ Some a = ap (found s) ((off_is s a q there).0 ∙ found_id id s.plan.activities a here) ∙ here in
      let one : has q (off_of s q.subject) ≡ true = rw found_here there in
      let goals : has q (goal_conflicts s) ≡ true = goals_by_subject s whole.distinct whole.rising q ∙ or_right (has q (open_of s q.subject)) (has q (off_of s q.subject)) one in
      members s q ∙ rw goals refl

  activity_stands : (id : ℕ) (a : Activity) → found s id ≡ Some a → (q : Conflict) → has q (wrong_at s a) ≡ true → has q (conflicts_of s) ≡ true
  activity_stands id a here q there =
      let found_here : found s q.subject ≡ Some a = ap (found s) ((wrong_is s a q there).0 ∙ found_id id s.plan.activities a here) ∙ here in
      let one : has q (wrong_of s q.subject) ≡ true = rw found_here there in
      let own : has q (activity_conflicts s) ≡ true = activities_by_subject s whole.rising q ∙ one in
      members s q ∙ or_right (has q (goal_conflicts s)) _ (rw own refl)

  -- ---- what is not named begins no earlier

  among_early : (p : Conflict → Bool) (q : Conflict) → has q (conflicts_of s) ≡ true → p q ≡ true → nat_lt q.from h ≡ true → among q.subject (map subject_of (filter p (early h (conflicts_of s)))) ≡ true
  among_early p q there passes before =
      among_subjects p (early h (conflicts_of s)) q (any-filter same same_is (touches_before h) (conflicts_of s) q ∙ rw (before, there) refl) passes

  none_before : (p : Conflict → Bool) (n : ℕ) → among n (map subject_of (filter p (early h (conflicts_of s)))) ≡ false → (q : Conflict) → has q (conflicts_of s) ≡ true → p q ≡ true → q.subject ≡ n → h ≤ q.from
  none_before p n other q there passes is = by (nat_lt q.from h) refl
    where
      by : (b : Bool) → nat_lt q.from h ≡ b → h ≤ q.from
      by false e = ltb-false q.from h e
      by true e = absurd (false≢true (sym (subst (λ (m : ℕ). among m (map subject_of (filter p (early h (conflicts_of s)))) ≡ false) (sym is) other) ∙ among_early p q there passes e))

  open_kept : (n : ℕ) → among n (missed_goals h (conflicts_of s)) ≡ false → (g : Goal) → goal_at s n ≡ Some g → open_at (committed_to h s) g ≡ open_at s g
  unfolding missed_goals
  open_kept n other g here =
      sym (open_alike s h later g (λ q there. none_before is_open_goal n other q (goal_stands n g here q there) (open_tells s g q there) ((open_is s g q there).0 ∙ found_number n s.goals g here)))

  off_kept : (id : ℕ) → among id (early_ids h (conflicts_of s)) ≡ false → (a : Activity) → found s id ≡ Some a → off_at (committed_to h s) a ≡ off_at s a
  unfolding early_ids
  off_kept id other a here =
      sym (off_alike s h later a (λ q there. none_before is_of_activity id other q (root_stands id a here q there) (off_tells s a q there) ((off_is s a q there).0 ∙ found_id id s.plan.activities a here)))

  wrong_kept : (id : ℕ) → among id (early_ids h (conflicts_of s)) ≡ false → (a : Activity) → found s id ≡ Some a → wrong_at (committed_to h s) a ≡ wrong_at s a
  unfolding early_ids
  wrong_kept id other a here =
      sym (wrong_alike s h later a (λ q there. none_before is_of_activity id other q (activity_stands id a here q there) (part_tells q.code (wrong_is s a q there).1) ((wrong_is s a q there).0 ∙ found_id id s.plan.activities a here)))

  pub follows_committed : Follows s (committed_to h s) (missed_goals h (conflicts_of s)) (early_ids h (conflicts_of s))
  follows_committed = record {
    opens = λ n other. found_alike (open_at (committed_to h s)) (open_at s) (goal_at s n) (open_kept n other);
    offs = λ id other. found_alike (off_at (committed_to h s)) (off_at s) (found s id) (off_kept id other);
    wrongs = λ id other. found_alike (wrong_at (committed_to h s)) (wrong_at s) (found s id) (wrong_kept id other);
  }
