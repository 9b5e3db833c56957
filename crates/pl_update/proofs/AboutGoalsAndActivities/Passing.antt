-- What the present leaves alone as it moves on.
use Rattle.std.proofs.Common.{◌≡◌, ℕ, ◌<◌, ◌≤◌, eqb, Bool, true, false, List, [], ◌∷◌, ◌++◌, map, refl, sym, ap, ◌∙◌, subst, arith}
use Rattle.std.specs.Prelude.{◌&&◌, filter, not, nat_lt, nat_le, Some}
use Rattle.std.proofs.lemmas.Bool.{eq-eqb, false≢true, ltb-false, le-leb, leb-true, leb-false}
use Rattle.std.proofs.lemmas.Bool.Decides.{nat_tests}
use Rattle.std.proofs.lemmas.Grind.{common_steps}
use Rattle.std.proofs.Math.Bool.{or-true}
use Rattle.pl_conflict.specs.declared.conflict.Conflict.{Conflict}
use Rattle.pl_conflict.specs.Order.{has}
use Rattle.pl_conflict.proofs.Sorting.{same, same_is}
use Rattle.pl_facts.specs.declared.goal.Goal.{Goal}
use Rattle.pl_plan.specs.declared.activity.Activity.{Activity}
use Rattle.pl_update.specs.Changes.Changes.{moved_on}
use Rattle.pl_semantics.specs.declared.plan_state.PlanState.{PlanState}
use Rattle.pl_semantics.specs.PlanStates.{among, floor_of, is_open, is_committed, goal_at, found, if_planned}
use Rattle.pl_semantics.specs.Goals.{open_goal, open_at, open_of, off_at, goal_conflicts}
use Rattle.pl_semantics.specs.Activities.{late_at, unset_at, bad_values_at, undetailed_at, overrun_at, wrong_at}
use Rattle.pl_semantics.specs.Conflicts.{conflicts_of}
use Rattle.pl_semantics.specs.Whole.{IsWhole}
use Rattle.pl_semantics.proofs.Standing.{members, goals_by_subject}
use Rattle.pl_update.specs.GoalsAndActivities.Near.{Follows}
use Rattle.pl_update.specs.GoalsAndActivities.Passed.{is_open_by, subject_of, passed_goals, becomes_late, passed_ids}
use Rattle.pl_update.proofs.AboutGoalsAndActivities.OfGoals.{found_alike}
use Rattle.pl_update.proofs.AboutGoalsAndActivities.ByIds.{chosen_among}
use Rattle.pl_update.proofs.AboutGoalsAndActivities.Standing.{found_number}

-- ---- activities

-- what is wrong with an activity, by whether it is late
abbrev wrong_from : PlanState → Activity → List Conflict → List Conflict
wrong_from s a late = if_planned (is_committed s a) (late ++ unset_at s a ++ bad_values_at s a ++ undetailed_at s a ++ overrun_at s a)

is_wrong_from : (s : PlanState) (a : Activity) → wrong_at s a ≡ wrong_from s a (late_at s a)
unfolding wrong_at
is_wrong_from s a = refl

same_side : (moment now start : ℕ) → moment < now → (nat_lt moment start && nat_le start now) ≡ false → nat_le start now ≡ nat_le start moment
same_side moment now start later none = grind (arith, nat_tests)

wrong_kept : (s : PlanState) (now : ℕ) → s.moment < now → (a : Activity) → becomes_late s now a ≡ false → wrong_at (moved_on now s) a ≡ wrong_at s a
wrong_kept s now later a none = is_wrong_from (moved_on now s) a ∙ by (is_committed s a) refl none ∙ sym (is_wrong_from s a)
  where
    by : (b : Bool) → is_committed s a ≡ b → (not b && (nat_lt s.moment a.start && nat_le a.start now)) ≡ false → wrong_from s a (late_at (moved_on now s) a) ≡ wrong_from s a (late_at s a)
    by true e n = rw e refl
    by false e n = rw (same_side s.moment now a.start later n) refl

-- ---- goals

pub has_first : (k : Conflict) (ks : List Conflict) → has k (k ∷ ks) ≡ true
has_first k ks = grind (arith, common_steps)

-- the subject of a conflict that stands and passes a test is among the subjects of those that do
pub among_subjects : (p : Conflict → Bool) (ks : List Conflict) (k : Conflict) → has k ks ≡ true → p k ≡ true → among k.subject (map subject_of (filter p ks)) ≡ true
among_subjects p [] k h passes = absurd (cc)
among_subjects p (x ∷ ks) k h passes = cases (same k x) refl (among_subjects p ks k)
  where
    kept : (b : Bool) → p x ≡ b → among k.subject (map subject_of (filter p ks)) ≡ true → among k.subject (map subject_of (filter p (x ∷ ks))) ≡ true
    kept true e there = rw (e, there) (or-true (eqb x.subject k.subject))
    kept false e there = rw e there

    cases : (b : Bool) → same k x ≡ b → (has k ks ≡ true → p k ≡ true → among k.subject (map subject_of (filter p ks)) ≡ true) → among k.subject (map subject_of (filter p (x ∷ ks))) ≡ true
    cases true e more = subst (λ (y : Conflict). among k.subject (map subject_of (filter p (y ∷ ks))) ≡ true) (same_is k x e) (rw (passes, eq-eqb k.subject k.subject refl) refl)
    cases false e more = kept (p x) refl (more (rw e at h) passes)

module _ (s : PlanState) (whole : IsWhole s) (now : ℕ) (later : s.moment < now) where
  open_stands : (n : ℕ) (g : Goal) → goal_at s n ≡ Some g → is_open s g ≡ true → nat_le (floor_of s) g.latest ≡ true → has (open_goal g) (conflicts_of s) ≡ true
  unfolding open_at
  open_stands n g here opened meets =
      let there : goal_at s g.number ≡ Some g = ap (goal_at s) (found_number n s.goals g here) ∙ here in
      let one : has (open_goal g) (open_of s g.number) ≡ true = rw (there, opened, meets) (has_first (open_goal g) []) in
      let goals : has (open_goal g) (goal_conflicts s) ≡ true = goals_by_subject s whole.distinct whole.rising (open_goal g) ∙ rw one refl in
      members s (open_goal g) ∙ rw goals refl

  open_kept : (n : ℕ) → among n (passed_goals now (conflicts_of s)) ≡ false → (g : Goal) → goal_at s n ≡ Some g → open_at (moved_on now s) g ≡ open_at s g
  unfolding open_at passed_goals
  open_kept n other g here = by (is_open s g) refl (nat_le (floor_of s) g.latest) refl (nat_le (floor_of (moved_on now s)) g.latest) refl
    where
      rises : floor_of s ≤ floor_of (moved_on now s)
      rises = omega (arith, later)

      by : (o : Bool) → is_open s g ≡ o → (a : Bool) → nat_le (floor_of s) g.latest ≡ a → (b : Bool) → nat_le (floor_of (moved_on now s)) g.latest ≡ b → open_at (moved_on now s) g ≡ open_at s g
      by false eo a ea b eb = rw eo refl
      by true eo false ea false eb = rw (eo, ea, eb) refl
      by true eo true ea true eb = rw (eo, ea, eb) refl
      by true eo false ea true eb = absurd (let above : floor_of (moved_on now s) ≤ g.latest = leb-true _ _ eb in let below : g.latest < floor_of s = leb-false _ _ ea in omega (arith, rises, above, below))
      by true eo true ea false eb =
          let below : g.latest < floor_of (moved_on now s) = leb-false _ _ eb in
          let above : floor_of s ≤ g.latest = leb-true _ _ ea in
          let most : g.latest ≤ now = omega (arith, below, above) in
          let passed : among g.number (passed_goals now (conflicts_of s)) ≡ true = among_subjects (is_open_by now) (conflicts_of s) (open_goal g) (open_stands n g here eo ea) (le-leb g.latest now most) in
          absurd (false≢true (sym (subst (λ m. among m (passed_goals now (conflicts_of s)) ≡ false) (sym (found_number n s.goals g here)) other) ∙ passed))

  pub follows_moved : Follows s (moved_on now s) (passed_goals now (conflicts_of s)) (passed_ids s now)
  unfolding off_at passed_ids
  follows_moved = record {
    opens = λ n other. found_alike (open_at (moved_on now s)) (open_at s) (goal_at s n) (open_kept n other);
    offs = λ id other. refl;
    wrongs = λ id other. found_alike (wrong_at (moved_on now s)) (wrong_at s) (found s id) (λ a here. wrong_kept s now later a (not_late id a here other (becomes_late s now a) refl));
  }
    where
      not_late : (id : ℕ) (a : Activity) → found s id ≡ Some a → among id (passed_ids s now) ≡ false → (b : Bool) → becomes_late s now a ≡ b → becomes_late s now a ≡ false
      not_late id a here other false e = e
      not_late id a here other true e = absurd (false≢true (sym other ∙ chosen_among (becomes_late s now) id s.plan.activities a here e))

-- ---- what comes of the first conflicts alone, and of no activities where all of them are committed

pub none_late : (s : PlanState) (now : ℕ) → now < s.committed → [] ≡ passed_ids s now
unfolding passed_ids
none_late s now below = none s.plan.activities
  where
    not_late : (a : Activity) (b c : Bool) → nat_lt a.start s.committed ≡ b → nat_le a.start now ≡ c → becomes_late s now a ≡ false
    not_late a true c e f = rw e refl
    not_late a false false e f = grind (arith, nat_tests)
    not_late a false true e f = absurd (let up = ltb-false a.start s.committed e in let most = leb-true a.start now f in omega (arith, below, up, most))

    none : (xs : List Activity) → [] ≡ map (λ (a : Activity). a.id) (filter (becomes_late s now) xs)
    none [] = refl
    none (x ∷ xs) = rw (not_late x (nat_lt x.start s.committed) (nat_le x.start now) refl refl) (none xs)
