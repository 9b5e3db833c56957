-- What a replacement of activities leaves alone.
use Rattle.std.proofs.Common.{◌≡◌, ℕ, eqb, Bool, true, false, List, [], ◌∷◌, ◌++◌, map, refl, sym, ap, ◌∙◌, subst}
use Rattle.std.specs.Prelude.{◌+◌, All, Option, Some, None, slice_index_or, if◌then◌else◌}
use Rattle.std.specs.List.{flat_map, filter_map}
use Rattle.std.specs.Option.{option_or, option_to_list}
use Rattle.std.proofs.lemmas.Bool.{eqb-true, false≢true}
use Rattle.std.proofs.lemmas.List.Elements.{All-head, All-tail}
use Rattle.std.proofs.lemmas.List.Folds.{list_any-append}
use Rattle.pl_lists.proofs.Tests.{or_first_false, or_second_false}
use Rattle.pl_lists.proofs.Numbers.{eqb_itself}
use Rattle.pl_model.specs.declared.expressions.Expr.{Expr}
use Rattle.pl_conflict.specs.declared.conflict.Conflict.{Conflict}
use Rattle.pl_conflict.specs.declared.conflict.Code.TheVariants as code
use Rattle.pl_plan.specs.declared.activity.Activity.{Activity}
use Rattle.pl_plan.specs.Activities.{IsLive, activity_of}
use Rattle.pl_plan.specs.Index.{is_number}
use Rattle.pl_plan.specs.Serving.{served_in, serves, is_served}
use Rattle.pl_plan.specs.Trees.{id_of, is_child, IsParented}
use Rattle.pl_plan.specs.Fitting.{kind_of}
use Rattle.pl_plan.specs.Known.{is_unset, is_bad_param, is_bad_duration, is_bad_amount}
use Rattle.pl_plan.specs.Values.{Row, values_of, bindings_at, binding_of}
use Rattle.pl_plan.specs.Firm.{end_of}
use Rattle.pl_detect.proofs.Found.{found_id, all_found}
use Rattle.pl_update.specs.Changes.Replaced.{taken, replaced, touched, with_plan, CanReplace}
use Rattle.pl_update.specs.Changes.Putting.{CanPut}
use Rattle.pl_update.proofs.AboutChanges.Putting.{puttable, found-taken, rising-replaced}
use Rattle.pl_update.proofs.AboutChanges.Finding.{none_live, found-replaced}
use Rattle.pl_semantics.specs.declared.plan_state.PlanState.{PlanState}
use Rattle.pl_semantics.specs.PlanStates.{among, found, goal_at, is_committed, row_of, end_at, reservations_of, if_planned, of_found, when}
use Rattle.pl_semantics.specs.Goals.{open_at, open_of, off_at, off_of}
use Rattle.pl_semantics.specs.Activities.{at_start, late_at, params_at, bindings_of, undetailed_at, past_end, row_above, wrong_at, wrong_of}
use Rattle.pl_semantics.specs.Whole.{IsWhole}
use Rattle.pl_update.proofs.AboutEvaluations.Keeping.{not_there, among_neither}
use Rattle.pl_update.specs.GoalsAndActivities.Near.{Follows, HoldSame}
use Rattle.pl_update.specs.GoalsAndActivities.Touched.{served_at, children_at, touched_goals, touched_ids}
use Rattle.pl_update.proofs.AboutGoalsAndActivities.OfGoals.{found_alike}
use Rattle.pl_update.proofs.AboutGoalsAndActivities.ByIds.{any_same, chosen_among}
use Rattle.pl_update.proofs.AboutGoalsAndActivities.Standing.{found_number}

-- ---- which numbers are covered

pub not_left : (n : ℕ) (xs ys : List ℕ) → among n (xs ++ ys) ≡ false → among n xs ≡ false
not_left n xs ys e = or_first_false (among n xs) (among n ys) (sym (list_any-append (λ i. eqb i n) xs ys) ∙ e)

pub not_right : (n : ℕ) (xs ys : List ℕ) → among n (xs ++ ys) ≡ false → among n ys ≡ false
not_right n xs ys e = or_second_false (among n xs) (among n ys) (sym (list_any-append (λ i. eqb i n) xs ys) ∙ e)

not_in_each : (f : ℕ → List ℕ) (n id : ℕ) (ids : List ℕ) → among n (flat_map f ids) ≡ false → among id ids ≡ true → among n (f id) ≡ false
not_in_each f n id [] none there = absurd (cc)
not_in_each f n id (i ∷ ids) none there = cases (eqb i id) refl (not_in_each f n id ids (not_right n (f i) (flat_map f ids) none))
  where
    cases : (b : Bool) → eqb i id ≡ b → (among id ids ≡ true → among n (f id) ≡ false) → among n (f id) ≡ false
    cases true e more = subst (λ k. among n (f k) ≡ false) (eqb-true i id e) (not_left n (f i) (flat_map f ids) none)
    cases false e more = more (rw e at there)

not_number : (n : ℕ) (o : Option ℕ) → among n (option_to_list o) ≡ false → is_number n o ≡ false
not_number n None none = refl
not_number n (Some m) none = or_first_false (eqb m n) false none

not_placed : (n id : ℕ) (more : List Activity) (a : Activity) → among n (filter_map served_in more) ≡ false → activity_of id more ≡ Some a → is_number n (served_in a) ≡ false
not_placed n id [] a none here = absurd (cc)
not_placed n id (x ∷ more) a none here = goals (served_in x) refl (not_placed n id more a)
  where
    cases : (b : Bool) → eqb x.id id ≡ b → is_number n (served_in x) ≡ false → (activity_of id more ≡ Some a → is_number n (served_in a) ≡ false) → is_number n (served_in a) ≡ false
    cases true e first rec = let at : Some x ≡ Some a = rw e at here in let same : x ≡ a = cc in subst (λ (y : Activity). is_number n (served_in y) ≡ false) same first
    cases false e first rec = rec (rw e at here)

    goals : (o : Option ℕ) → served_in x ≡ o → (among n (filter_map served_in more) ≡ false → activity_of id more ≡ Some a → is_number n (served_in a) ≡ false) → is_number n (served_in a) ≡ false
    goals None e rec = cases (eqb x.id id) refl (rw e refl) (rec (rw e at none))
    goals (Some m) e rec =
        let none2 : among n (m ∷ filter_map served_in more) ≡ false = rw e at none in
        cases (eqb x.id id) refl (rw e (or_first_false (eqb m n) (among n (filter_map served_in more)) none2)) (rec (or_second_false (eqb m n) (among n (filter_map served_in more)) none2))

-- what comes and is live goes
comes_gone : (xs : List Activity) (gone : List ℕ) (more : List Activity) (q : ℕ) → All (λ a. IsLive a.id xs → among a.id gone ≡ true) more → IsLive q xs → among q gone ≡ false → among q (map id_of more) ≡ false
comes_gone xs gone [] q free live other = refl
comes_gone xs gone (x ∷ more) q free live other = cases (eqb x.id q) refl (comes_gone xs gone more q (All-tail (λ (a : Activity). IsLive a.id xs → among a.id gone ≡ true) x more free) live other)
  where
    cases : (b : Bool) → eqb x.id q ≡ b → among q (map id_of more) ≡ false → among q (map id_of (x ∷ more)) ≡ false
    cases true e rest = absurd (let goes : IsLive q xs → among q gone ≡ true = subst (λ n. IsLive n xs → among n gone ≡ true) (eqb-true x.id q e) (All-head (λ (a : Activity). IsLive a.id xs → among a.id gone ≡ true) x more free) in false≢true (sym other ∙ goes live))
    cases false e rest = rw e rest

is_child_of : (a : Activity) (p : ℕ × ℕ) → a.parent ≡ Some p → is_child p.0 a ≡ true
is_child_of a p e = rw e (eqb_itself p.0)

-- what is wrong with an activity, by its values, by what its slot binds, by the values above it, and by its end
abbrev wrong_by : PlanState → Activity → Row → List (ℕ × Expr) → Row → Option ℕ → List Conflict
wrong_by s a own bindings above end =
    if_planned (is_committed s a)
    (late_at s a ++ flat_map (λ p. when (is_unset (binding_of p.0 bindings) p.1.origin (slice_index_or own p.0 None)) (at_start a code.Unset p.0 0)) (params_at s a)
    ++ (flat_map (λ p. when (is_bad_param (binding_of p.0 bindings) p.1 above own (slice_index_or own p.0 None)) (at_start a code.BadValue p.0 0)) (params_at s a)
    ++ of_found (λ k. when (is_bad_duration s.model.horizon k own) (at_start a code.BadValue 16 0)) (kind_of s.model a)
    ++ flat_map (λ r. when (is_bad_amount own r.1) (at_start a code.BadValue (17 + r.0) 0)) (reservations_of s a))
    ++ undetailed_at s a ++ of_found (past_end s a) end)

is_wrong_by : (s : PlanState) (a : Activity) → wrong_at s a ≡ wrong_by s a (row_of s a) (bindings_of s a) (row_above s a.parent) (end_at s a)
unfolding wrong_at
is_wrong_by s a = refl

wrong_alike : (s t : PlanState) (a : Activity) → ((own above : Row) (bindings : List (ℕ × Expr)) (end : Option ℕ) → wrong_by t a own bindings above end ≡ wrong_by s a own bindings above end)
    → row_of t a ≡ row_of s a → bindings_of t a ≡ bindings_of s a → row_above t a.parent ≡ row_above s a.parent → end_at t a ≡ end_at s a → wrong_at t a ≡ wrong_at s a
wrong_alike s t a same own bindings above end =
    is_wrong_by t a ∙ same (row_of t a) (row_above t a.parent) (bindings_of t a) (end_at t a)
    ∙ ap (λ x. wrong_by s a x (bindings_of t a) (row_above t a.parent) (end_at t a)) own
    ∙ ap (λ x. wrong_by s a (row_of s a) x (row_above t a.parent) (end_at t a)) bindings
    ∙ ap (λ x. wrong_by s a (row_of s a) (bindings_of s a) x (end_at t a)) above
    ∙ ap (λ x. wrong_by s a (row_of s a) (bindings_of s a) (row_above s a.parent) x) end
    ∙ sym (is_wrong_by s a)

module _ (s : PlanState) (gone : List ℕ) (more : List Activity) (whole : IsWhole s) (can : CanReplace s gone more) where
  abbrev now : List Activity
  now = replaced s.plan.activities gone more

  putting : CanPut (taken s.plan.activities gone) more
  putting = puttable s.plan.activities gone more whole.rising can.once can.free

  found_now : (id : ℕ) → activity_of id now ≡ option_or (activity_of id more) (if among id gone then None else activity_of id s.plan.activities)
  found_now id = found-replaced s.plan.activities gone more id whole.rising putting

  -- ---- goals

  served_same : (n : ℕ) → among n (touched_goals s gone more) ≡ false → is_served n now ≡ is_served n s.plan.activities
  unfolding touched_goals
  served_same n other = any_same (serves n) s.plan.activities now whole.rising (rising-replaced s.plan.activities gone more putting whole.rising) there back
    where
      of_gone : (id : ℕ) (a : Activity) → among id gone ≡ true → activity_of id s.plan.activities ≡ Some a → serves n a ≡ true → ⊥
      of_gone id a goes here passes =
          let h = not_in_each (served_at s) n id gone (not_left n (flat_map (served_at s) gone) (filter_map served_in more) other) goes in
          let bad : serves n a ≡ false = not_number n (served_in a) (rw here at h) in
          false≢true (sym bad ∙ passes)

      of_more : (id : ℕ) (a : Activity) → activity_of id more ≡ Some a → serves n a ≡ true → ⊥
      of_more id a here passes =
          let bad : serves n a ≡ false = not_placed n id more a (not_right n (flat_map (served_at s) gone) (filter_map served_in more) other) here in
          false≢true (sym bad ∙ passes)

      there : (id : ℕ) (a : Activity) → serves n a ≡ true → activity_of id s.plan.activities ≡ Some a → activity_of id now ≡ Some a
      there id a passes here = by (among id gone) refl
        where
          by : (b : Bool) → among id gone ≡ b → activity_of id now ≡ Some a
          by true e = absurd (of_gone id a e here passes)
          by false e =
              let stays : activity_of id (taken s.plan.activities gone) ≡ Some a = found-taken s.plan.activities gone id whole.rising ∙ rw (e, here) refl in
              let none : activity_of id more ≡ None = none_live (taken s.plan.activities gone) more id putting (rw stays refl) in
              found_now id ∙ rw (none, e, here) refl

      back : (id : ℕ) (a : Activity) → serves n a ≡ true → activity_of id now ≡ Some a → activity_of id s.plan.activities ≡ Some a
      back id a passes here = by (activity_of id more) refl (among id gone) refl (sym (found_now id) ∙ here)
        where
          by : (o : Option Activity) → activity_of id more ≡ o → (b : Bool) → among id gone ≡ b → option_or (activity_of id more) (if among id gone then None else activity_of id s.plan.activities) ≡ Some a → activity_of id s.plan.activities ≡ Some a
          by (Some x) e b f is = let at : Some x ≡ Some a = rw e at is in absurd (of_more id a (e ∙ at) passes)
          by None e true f is = let bad : None ≡ Some a = rw (e, f) at is in absurd (cc)
          by None e false f is = rw (e, f) at is

  pub open_same : (n : ℕ) → among n (touched_goals s gone more) ≡ false → open_of (with_plan gone more s) n ≡ open_of s n
  unfolding open_at
  open_same n other = found_alike (open_at (with_plan gone more s)) (open_at s) (goal_at s n) (λ g here.
      let served : is_served g.number now ≡ is_served g.number s.plan.activities = subst (λ m. is_served m now ≡ is_served m s.plan.activities) (sym (found_number n s.goals g here)) (served_same n other) in
      rw served refl)

  -- ---- activities

  same_there : (id : ℕ) → among id (touched gone more) ≡ false → activity_of id now ≡ activity_of id s.plan.activities
  same_there id other = found_now id ∙ rw (not_there id more (not_right id gone (map id_of more) other), not_left id gone (map id_of more) other) refl

  off_same : (id : ℕ) → among id (touched gone more) ≡ false → off_of (with_plan gone more s) id ≡ off_of s id
  unfolding off_at
  off_same id other = ap (of_found (off_at s)) (same_there id other)

  -- the parent of an activity that is none of these, nor a child of one that goes
  parent_other : (id : ℕ) (a : Activity) (p : ℕ × ℕ) → activity_of id s.plan.activities ≡ Some a → a.parent ≡ Some p → among id (flat_map (children_at s) gone) ≡ false → among p.0 (touched gone more) ≡ false
  parent_other id a p here is other =
      let parented : IsParented s.plan.activities a = all_found (IsParented s.plan.activities) id s.plan.activities a whole.fits.rooted.parents here in
      let both = rw is at parented in
      let stays : among p.0 gone ≡ false = by (among p.0 gone) refl in
      among_neither p.0 gone (map id_of more) stays (comes_gone s.plan.activities gone more p.0 can.free both.0 stays)
    where
      by : (b : Bool) → among p.0 gone ≡ b → among p.0 gone ≡ false
      by false e = e
      by true e = absurd (let no : among id (children_at s p.0) ≡ false = not_in_each (children_at s) id p.0 gone other e in false≢true (sym no ∙ chosen_among (is_child p.0) id s.plan.activities a here (is_child_of a p is)))

  bindings_same : (id : ℕ) (a : Activity) → activity_of id s.plan.activities ≡ Some a → among id (flat_map (children_at s) gone) ≡ false → bindings_at s.model now a.parent ≡ bindings_at s.model s.plan.activities a.parent
  bindings_same id a here other = by a.parent refl
    where
      by : (o : Option (ℕ × ℕ)) → a.parent ≡ o → bindings_at s.model now o ≡ bindings_at s.model s.plan.activities o
      by None e = refl
      by (Some p) e = rw (same_there p.0 (parent_other id a p here e other)) refl

  above_same : (id : ℕ) (a : Activity) → activity_of id s.plan.activities ≡ Some a → among id (flat_map (children_at s) gone) ≡ false → row_above (with_plan gone more s) a.parent ≡ row_above s a.parent
  above_same id a here other = by a.parent refl
    where
      by : (o : Option (ℕ × ℕ)) → a.parent ≡ o → row_above (with_plan gone more s) o ≡ row_above s o
      by None e = refl
      by (Some p) e = can.kept p.0 (parent_other id a p here e other)

  end_same : (id : ℕ) → among id (touched gone more) ≡ false → end_of s.model now id ≡ end_of s.model s.plan.activities id
  unfolding end_of
  end_same id other = rw (same_there id other, can.kept id other) refl

  wrong_same : (id : ℕ) → among id (touched_ids s gone more) ≡ false → wrong_of (with_plan gone more s) id ≡ wrong_of s id
  unfolding touched_ids
  wrong_same id other =
      let here = not_left id (touched gone more) (flat_map (children_at s) gone) other in
      let apart = not_right id (touched gone more) (flat_map (children_at s) gone) other in
      ap (of_found (wrong_at (with_plan gone more s))) (same_there id here) ∙ found_alike (wrong_at (with_plan gone more s)) (wrong_at s) (found s id) (λ a at.
      let is : a.id ≡ id = found_id id s.plan.activities a at in
      let values : values_of s.model now a.id ≡ values_of s.model s.plan.activities a.id = subst (λ n. values_of s.model now n ≡ values_of s.model s.plan.activities n) (sym is) (can.kept id here) in
      let end : end_of s.model now a.id ≡ end_of s.model s.plan.activities a.id = subst (λ n. end_of s.model now n ≡ end_of s.model s.plan.activities n) (sym is) (end_same id here) in
      wrong_alike s (with_plan gone more s) a (λ own above bindings end. refl) values (bindings_same id a at apart) (above_same id a at apart) end)

  pub follows_plan : Follows s (with_plan gone more s) (touched_goals s gone more) (touched_ids s gone more)
  unfolding touched_ids
  follows_plan = record {
    opens = open_same;
    offs = λ id other. off_same id (not_left id (touched gone more) (flat_map (children_at s) gone) other);
    wrongs = wrong_same;
  }

-- the same of lists that hold the same numbers
pub follows_same : (s t : PlanState) (numbers ids numbers2 ids2 : List ℕ) → Follows s t numbers ids → HoldSame numbers2 numbers → HoldSame ids2 ids → Follows s t numbers2 ids2
follows_same s t numbers ids numbers2 ids2 change sames same = record {
  opens = λ n other. change.opens n (sym (sames n) ∙ other);
  offs = λ id other. change.offs id (sym (same id) ∙ other);
  wrongs = λ id other. change.wrongs id (sym (same id) ∙ other);
}
