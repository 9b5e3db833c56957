-- What a goal that comes or is dropped leaves alone, and what telemetry and ids do.
use Rattle.std.proofs.Common.{◌≡◌, ℕ, ℤ, eqb, Bool, true, false, cond, List, [], ◌∷◌, ◌++◌, Option, Some, None, IsSome, IfSome, refl, sym, ap, ◌∙◌}
use Rattle.std.specs.Prelude.{option_and_then, if◌then◌else◌}
use Rattle.std.specs.Option.{option_map, option_or}
use Rattle.std.proofs.lemmas.Bool.{eqb-true, eqb-false, ne_eqb}
use Rattle.std.proofs.Math.Bool.{or-false}
use Rattle.pl_conflict.specs.declared.conflict.Conflict.{Conflict}
use Rattle.pl_facts.specs.declared.goal.Goal.{Goal}
use Rattle.pl_facts.specs.Goals.{is_numbered, goal_of, with_dropped}
use Rattle.pl_plan.specs.declared.activity.Activity.{Activity}
use Rattle.pl_plan.specs.Serving.{served_in}
use Rattle.pl_detect.proofs.Found.{all_found}
use Rattle.pl_update.specs.Changes.Changes.{with_goal, without_goal, told_now, with_next}
use Rattle.pl_semantics.specs.declared.plan_state.PlanState.{PlanState}
use Rattle.pl_semantics.specs.PlanStates.{found, served_by, of_found}
use Rattle.pl_semantics.specs.Goals.{open_at, off_from, off_at}
use Rattle.pl_semantics.specs.Activities.{wrong_at}
use Rattle.pl_semantics.specs.Whole.{IsWhole, IsCarried}
use Rattle.pl_update.specs.GoalsAndActivities.Near.{Follows}

-- what is found is alike where the rule is alike there
pub found_alike : {X : Type 0} (f h : X → List Conflict) (o : Option X) → ((x : X) → o ≡ Some x → f x ≡ h x) → of_found f o ≡ of_found h o
found_alike f h None alike = refl
found_alike f h (Some x) alike = alike x refl

-- a root is off its goal alike where the goal that it serves is one that it is off alike
off_alike : (s t : PlanState) (a : Activity) → t.committed ≡ s.committed → of_found (off_from a) (served_by t a) ≡ of_found (off_from a) (served_by s a) → off_at t a ≡ off_at s a
unfolding off_at
off_alike s t a same alike = rw (same, alike) refl

-- ---- a goal that comes

some_or : (a b : Option Goal) → IsSome a → option_or a b ≡ a
some_or None b some = absurd (cc)
some_or (Some g) b some = refl

goal_of-more : (n : ℕ) (goals : List Goal) (g : Goal) → IsSome (goal_of n goals) → goal_of n (goals ++ g ∷ []) ≡ goal_of n goals
goal_of-more n [] g some = absurd (cc)
goal_of-more n (x ∷ goals) g some = cases (is_numbered n x) refl (goal_of-more n goals g)
  where
    cases : (b : Bool) → is_numbered n x ≡ b → (IsSome (goal_of n goals) → goal_of n (goals ++ g ∷ []) ≡ goal_of n goals) → goal_of n (x ∷ (goals ++ g ∷ [])) ≡ goal_of n (x ∷ goals)
    cases true e more = rw e refl
    cases false e more = let rest : IsSome (goal_of n goals) = rw e at some in rw e (more rest)

goal_of-other : (n : ℕ) (goals : List Goal) (g : Goal) → eqb g.number n ≡ false → goal_of n (goals ++ g ∷ []) ≡ goal_of n goals
goal_of-other n [] g e = rw e refl
goal_of-other n (x ∷ goals) g e = ap (λ o. cond (is_numbered n x) (Some x) o) (goal_of-other n goals g e)

same_served : (goals : List Goal) (g : Goal) (o : Option ℕ) → IfSome o (λ n. IsSome (goal_of n goals)) → option_and_then (λ n. goal_of n (goals ++ g ∷ [])) o ≡ option_and_then (λ n. goal_of n goals) o
same_served goals g None some = refl
same_served goals g (Some n) some = goal_of-more n goals g some

-- the goal that is served is carried
served_carried : (goals : List Goal) (a : Activity) → IsCarried goals a → IfSome (served_in a) (λ n. IsSome (goal_of n goals))
served_carried goals a some = by a.parent refl
  where
    by : (o : Option (ℕ × ℕ)) → a.parent ≡ o → IfSome (served_in a) (λ n. IsSome (goal_of n goals))
    by None e = rw e some
    by (Some p) e = rw e tt

pub follows_goal : (s : PlanState) (g : Goal) → IsWhole s → Follows s (with_goal g s) (g.number ∷ []) []
unfolding open_at wrong_at
follows_goal s g whole = record {
  opens = λ n other. let apart : eqb g.number n ≡ false = sym (or-false (eqb g.number n)) ∙ other in ap (of_found (open_at s)) (goal_of-other n s.goals g apart);
  offs = λ id none. found_alike (off_at (with_goal g s)) (off_at s) (found s id) (λ a e. off_alike s (with_goal g s) a refl (ap (of_found (off_from a)) (same_served s.goals g (served_in a) (served_carried s.goals a (all_found (IsCarried s.goals) id s.plan.activities a whole.carried e)))));
  wrongs = λ id none. refl;
}

-- ---- a goal that is dropped

abbrev drop_if : ℕ → Goal → Goal
drop_if n g = if is_numbered n g then record g { dropped = true } else g

drop_number : (n : ℕ) (g : Goal) → (drop_if n g).number ≡ g.number
drop_number n g = by (is_numbered n g)
  where
    by : (b : Bool) → (if b then record g { dropped = true } else g).number ≡ g.number
    by true = refl
    by false = refl

drop_off : (a : Activity) (n : ℕ) (g : Goal) → off_from a (drop_if n g) ≡ off_from a g
drop_off a n g = by (is_numbered n g)
  where
    by : (b : Bool) → off_from a (if b then record g { dropped = true } else g) ≡ off_from a g
    by true = refl
    by false = refl

goal_of-dropped : (n m : ℕ) (goals : List Goal) → goal_of m (with_dropped n goals) ≡ option_map (drop_if n) (goal_of m goals)
goal_of-dropped n m [] = refl
goal_of-dropped n m (g ∷ goals) = rw (drop_number n g) (cases (eqb g.number m) refl (goal_of-dropped n m goals))
  where
    cases : (b : Bool) → eqb g.number m ≡ b → goal_of m (with_dropped n goals) ≡ option_map (drop_if n) (goal_of m goals) → cond (eqb g.number m) (Some (drop_if n g)) (goal_of m (with_dropped n goals)) ≡ option_map (drop_if n) (goal_of m (g ∷ goals))
    cases true e more = rw e refl
    cases false e more = rw e more

goal_of-kept : (n m : ℕ) (goals : List Goal) → eqb n m ≡ false → goal_of m (with_dropped n goals) ≡ goal_of m goals
goal_of-kept n m [] other = refl
goal_of-kept n m (g ∷ goals) other = rw (drop_number n g) (cases (eqb g.number m) refl (goal_of-kept n m goals other))
  where
    same : eqb g.number m ≡ true → drop_if n g ≡ g
    same e = let apart : eqb g.number n ≡ false = ne_eqb g.number n (λ is. eqb-false n m other (sym is ∙ eqb-true g.number m e)) in rw apart refl

    cases : (b : Bool) → eqb g.number m ≡ b → goal_of m (with_dropped n goals) ≡ goal_of m goals → cond (eqb g.number m) (Some (drop_if n g)) (goal_of m (with_dropped n goals)) ≡ goal_of m (g ∷ goals)
    cases true e more = rw (e, same e) refl
    cases false e more = rw e more

mapped_off : (n : ℕ) (a : Activity) (o : Option Goal) → of_found (off_from a) (option_map (drop_if n) o) ≡ of_found (off_from a) o
mapped_off n a None = refl
mapped_off n a (Some g) = drop_off a n g

dropped_off : (n : ℕ) (goals : List Goal) (a : Activity) (o : Option ℕ) → of_found (off_from a) (option_and_then (λ m. goal_of m (with_dropped n goals)) o) ≡ of_found (off_from a) (option_and_then (λ m. goal_of m goals) o)
dropped_off n goals a None = refl
dropped_off n goals a (Some m) = ap (of_found (off_from a)) (goal_of-dropped n m goals) ∙ mapped_off n a (goal_of m goals)

pub follows_no_goal : (s : PlanState) (n : ℕ) → Follows s (without_goal n s) (n ∷ []) []
unfolding open_at wrong_at
follows_no_goal s n = record {
  opens = λ m other. ap (of_found (open_at s)) (goal_of-kept n m s.goals (sym (or-false (eqb n m)) ∙ other));
  offs = λ id none. found_alike (off_at (without_goal n s)) (off_at s) (found s id) (λ a e. off_alike s (without_goal n s) a refl (dropped_off n s.goals a (served_in a)));
  wrongs = λ id none. refl;
}

-- ---- what no goal and no activity hangs on

pub follows_told : (s : PlanState) (line : ℕ) (value : ℤ) → Follows s (told_now line value s) [] []
unfolding open_at off_at wrong_at
follows_told s line value = record { opens = λ n none. refl; offs = λ id none. refl; wrongs = λ id none. refl }

pub follows_next : (s : PlanState) (next : ℕ) → Follows s (with_next next s) [] []
unfolding open_at off_at wrong_at
follows_next s next = record { opens = λ n none. refl; offs = λ id none. refl; wrongs = λ id none. refl }
