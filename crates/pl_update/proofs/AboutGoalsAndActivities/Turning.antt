-- A goal that is served before and after a replacement is open neither before nor after it.
use Rattle.std.proofs.Common.{◌≡◌, ℕ, eqb, Bool, true, false, List, [], ◌∷◌, ◌++◌, Option, Some, None, refl, sym, ap, ◌∙◌, subst}
use Rattle.std.specs.Prelude.{◌||◌, ◌&&◌, not, All, nat_le, filter}
use Rattle.std.specs.List.{flat_map, filter_map, list_any}
use Rattle.std.specs.Option.{option_to_list}
use Rattle.std.proofs.lemmas.Bool.{eqb-true, and_parts}
use Rattle.std.proofs.Math.Bool.{or-true}
use Rattle.std.proofs.lemmas.Grind.{flat_map-append}
use Rattle.std.proofs.lemmas.List.{append-nil}
use Rattle.std.proofs.lemmas.List.Elements.{All-head, All-tail}
use Rattle.pl_lists.proofs.Numbers.{eqb_itself}
use Rattle.pl_conflict.specs.declared.conflict.Conflict.{Conflict}
use Rattle.pl_facts.specs.declared.goal.Goal.{Goal}
use Rattle.pl_plan.specs.declared.activity.Activity.{Activity}
use Rattle.pl_plan.specs.Activities.{activity_of}
use Rattle.pl_plan.specs.Index.{is_number}
use Rattle.pl_plan.specs.Serving.{served_in, serves, is_served}
use Rattle.pl_semantics.specs.declared.plan_state.PlanState.{PlanState}
use Rattle.pl_semantics.specs.PlanStates.{among, found, goal_at, floor_of, of_found, when}
use Rattle.pl_semantics.specs.Goals.{open_at, open_goal, open_of, off_of}
use Rattle.pl_semantics.specs.Activities.{wrong_of}
use Rattle.pl_semantics.specs.Whole.{IsWhole}
use Rattle.pl_update.specs.Changes.Replaced.{with_plan, CanReplace}
use Rattle.pl_update.specs.GoalsAndActivities.Near.{near, Follows}
use Rattle.pl_update.specs.GoalsAndActivities.Touched.{served_at, served_by_id, served_before, served_after, touched_goals, lost_goals, met_goals, turned_goals, touched_ids}
use Rattle.pl_update.proofs.AboutGoalsAndActivities.ByIds.{found_any}
use Rattle.pl_update.proofs.AboutGoalsAndActivities.Standing.{found_number}
use Rattle.pl_update.proofs.AboutGoalsAndActivities.Touching.{open_same, follows_plan}
use Rattle.pl_update.proofs.AboutLinks.Nearby.{among-append}
use Rattle.pl_update.proofs.AboutTimelines.Replacing.{found_placed}

-- ---- whether a number is among those of some elements

among_one : (n : ℕ) (p : ℕ → Bool) (o : Option ℕ) → among n (filter p (option_to_list o)) ≡ (is_number n o && p n)
among_one n p None = refl
among_one n p (Some m) = cases (p m) refl (eqb m n) refl
  where
    cases : (b : Bool) → p m ≡ b → (d : Bool) → eqb m n ≡ d → among n (filter p (m ∷ [])) ≡ (eqb m n && p n)
    cases true e true f = let is : p n ≡ true = subst (λ k. p k ≡ true) (eqb-true m n f) e in rw (e, f, is) refl
    cases true e false f = rw (e, f) refl
    cases false e true f = let is : p n ≡ false = subst (λ k. p k ≡ false) (eqb-true m n f) e in rw (e, f, is) refl
    cases false e false f = rw (e, f) refl

spread : (a b c : Bool) → ((a && c) || (b && c)) ≡ ((a || b) && c)
spread true true true = refl
spread true true false = refl
spread true false true = refl
spread true false false = refl
spread false b c = refl

any_of : {X : Type 0} → (n : ℕ) (f : X → List ℕ) (g : X → Bool) (c : Bool) → ((x : X) → among n (f x) ≡ (g x && c)) → (xs : List X) → among n (flat_map f xs) ≡ (list_any g xs && c)
any_of n f g c each [] = refl
any_of n f g c each (x ∷ xs) = among-append n (f x) (flat_map f xs) ∙ rw (each x, any_of n f g c each xs) (spread (g x) (list_any g xs) c)

none_of : (n : ℕ) (s : PlanState) (gone : List ℕ) → served_before s gone n ≡ false → among n (flat_map (served_at s) gone) ≡ false
none_of n s [] none = refl
none_of n s (id ∷ gone) none = among-append n (served_at s id) (flat_map (served_at s) gone) ∙ by (is_number n (served_by_id s id)) refl (none_of n s gone)
  where
    one : (o : Option ℕ) → is_number n o ≡ false → among n (option_to_list o) ≡ false
    one None e = refl
    one (Some m) e = rw e refl

    by : (b : Bool) → is_number n (served_by_id s id) ≡ b → (served_before s gone n ≡ false → among n (flat_map (served_at s) gone) ≡ false) → (among n (served_at s id) || among n (flat_map (served_at s) gone)) ≡ false
    by true f rest = absurd (let bad : true ≡ false = rw f at none in cc)
    by false f rest = rw (one (served_by_id s id) f) (rest (rw f at none))

none_in : (n : ℕ) (more : List Activity) → served_after more n ≡ false → among n (filter_map served_in more) ≡ false
none_in n [] none = refl
none_in n (a ∷ more) none = by (served_in a) refl (none_in n more)
  where
    by : (o : Option ℕ) → served_in a ≡ o → (served_after more n ≡ false → among n (filter_map served_in more) ≡ false) → among n (filter_map served_in (a ∷ more)) ≡ false
    by None e rest = rw e (rest (rw e at none))
    by (Some m) e rest = test (eqb m n) refl
      where
        here : (eqb m n || served_after more n) ≡ false
        here = rw e at none

        test : (b : Bool) → eqb m n ≡ b → among n (filter_map served_in (a ∷ more)) ≡ false
        test true f = absurd (let bad : true ≡ false = rw f at here in cc)
        test false f = rw (e, f) (rest (rw f at here))

nothing : (f : ℕ → List Conflict) (xs : List ℕ) → ((n : ℕ) → among n xs ≡ true → f n ≡ []) → flat_map f xs ≡ []
nothing f [] none = refl
nothing f (x ∷ xs) none = rw (none x (rw (eqb_itself x) refl)) (nothing f xs (λ n there. none n (rw there (or-true (eqb x n)))))

-- ---- goals that are served

closed : (s : PlanState) (n : ℕ) → is_served n s.plan.activities ≡ true → open_of s n ≡ []
unfolding open_at
closed s n served = by (goal_at s n) refl
  where
    none : (d b : Bool) (k : Conflict) → when ((not d && false) && b) k ≡ []
    none true b k = refl
    none false b k = refl

    by : (o : Option Goal) → goal_at s n ≡ o → of_found (open_at s) o ≡ []
    by None e = refl
    by (Some g) e =
        let is : is_served g.number s.plan.activities ≡ true = subst (λ m. is_served m s.plan.activities ≡ true) (sym (found_number n s.goals g e)) served in
        rw is (none g.dropped (nat_le (floor_of s) g.latest) (open_goal g))

before_served : (s : PlanState) (gone : List ℕ) (n : ℕ) → served_before s gone n ≡ true → is_served n s.plan.activities ≡ true
before_served s [] n e = absurd (cc)
before_served s (id ∷ gone) n e = by (found s id) refl (before_served s gone n)
  where
    by : (o : Option Activity) → found s id ≡ o → (served_before s gone n ≡ true → is_served n s.plan.activities ≡ true) → is_served n s.plan.activities ≡ true
    by None f rest = rest (rw f at e)
    by (Some a) f rest = test (serves n a) refl
      where
        test : (b : Bool) → serves n a ≡ b → is_served n s.plan.activities ≡ true
        test true g = found_any (serves n) s.plan.activities id a f g
        test false g = rest (let at : (serves n a || served_before s gone n) ≡ true = rw f at e in rw g at at)

after_served : (xs more : List Activity) (n : ℕ) → All (λ (a : Activity). activity_of a.id xs ≡ Some a) more → served_after more n ≡ true → is_served n xs ≡ true
after_served xs [] n all e = absurd (cc)
after_served xs (a ∷ more) n all e = test (serves n a) refl (after_served xs more n (All-tail (λ (x : Activity). activity_of x.id xs ≡ Some x) a more all))
  where
    test : (b : Bool) → serves n a ≡ b → (served_after more n ≡ true → is_served n xs ≡ true) → is_served n xs ≡ true
    test true g rest = found_any (serves n) xs a.id a (All-head (λ (x : Activity). activity_of x.id xs ≡ Some x) a more all) g
    test false g rest = rest (rw g at e)

-- ---- a replacement

module _ (s : PlanState) (gone : List ℕ) (more : List Activity) (whole : IsWhole s) (can : CanReplace s gone more) where
  lost_is : (n : ℕ) → among n (lost_goals s gone more) ≡ (served_before s gone n && not (served_after more n))
  unfolding lost_goals
  lost_is n = any_of n (λ id. filter (λ m. not (served_after more m)) (served_at s id)) (λ id. is_number n (served_by_id s id)) (not (served_after more n)) (λ id. among_one n (λ m. not (served_after more m)) (served_by_id s id)) gone

  met_is : (n : ℕ) → among n (met_goals s gone more) ≡ (served_after more n && not (served_before s gone n))
  unfolding met_goals
  met_is n = any_of n (λ (a : Activity). filter (λ m. not (served_before s gone m)) (option_to_list (served_in a))) (serves n) (not (served_before s gone n)) (λ a. among_one n (λ m. not (served_before s gone m)) (served_in a)) more

  turned_is : (n : ℕ) → among n (turned_goals s gone more) ≡ ((served_before s gone n && not (served_after more n)) || (served_after more n && not (served_before s gone n)))
  turned_is n = among-append n (lost_goals s gone more) (met_goals s gone more) ∙ rw (lost_is n, met_is n) refl

  none_touched : (n : ℕ) → served_before s gone n ≡ false → served_after more n ≡ false → among n (touched_goals s gone more) ≡ false
  unfolding touched_goals
  none_touched n e f = among-append n (flat_map (served_at s) gone) (filter_map served_in more) ∙ rw (none_of n s gone e, none_in n more f) refl

  open_turned : (n : ℕ) → among n (turned_goals s gone more) ≡ false → open_of (with_plan gone more s) n ≡ open_of s n
  open_turned n other = by (served_before s gone n) refl (served_after more n) refl (sym (turned_is n) ∙ other)
    where
      by : (b : Bool) → served_before s gone n ≡ b → (d : Bool) → served_after more n ≡ d
          → ((served_before s gone n && not (served_after more n)) || (served_after more n && not (served_before s gone n))) ≡ false
          → open_of (with_plan gone more s) n ≡ open_of s n
      by true e true f same =
          closed (with_plan gone more s) n (after_served (with_plan gone more s).plan.activities more n (found_placed s gone more whole can) f)
          ∙ sym (closed s n (before_served s gone n e))
      by true e false f same = absurd (let bad : true ≡ false = rw (e, f) at same in cc)
      by false e true f same = absurd (let bad : true ≡ false = rw (e, f) at same in cc)
      by false e false f same = open_same s gone more whole can n (none_touched n e f)

  pub follows_turned : Follows s (with_plan gone more s) (turned_goals s gone more) (touched_ids s gone more)
  follows_turned =
      let all = follows_plan s gone more whole can in
      record { opens = open_turned; offs = all.offs; wrongs = all.wrongs }

  -- what is lost was served before, and what is met is served after
  lost_served : (n : ℕ) → among n (lost_goals s gone more) ≡ true → open_of s n ≡ []
  lost_served n there = closed s n (before_served s gone n (and_parts (served_before s gone n) (not (served_after more n)) (sym (lost_is n) ∙ there)).0)

  met_served : (n : ℕ) → among n (met_goals s gone more) ≡ true → open_of (with_plan gone more s) n ≡ []
  met_served n there =
      closed (with_plan gone more s) n (after_served (with_plan gone more s).plan.activities more n (found_placed s gone more whole can) (and_parts (served_after more n) (not (served_before s gone n)) (sym (met_is n) ∙ there)).0)

  -- so it is enough to look before a replacement at what it meets, and after it at what it loses
  pub near_before : (ids : List ℕ) → near s (met_goals s gone more) ids ≡ near s (turned_goals s gone more) ids
  unfolding near
  near_before ids =
      ap (λ l. (l ++ flat_map (off_of s) ids) ++ flat_map (wrong_of s) ids)
      (sym (flat_map-append (open_of s) (lost_goals s gone more) (met_goals s gone more) ∙ rw (nothing (open_of s) (lost_goals s gone more) lost_served) refl))

  pub near_after : (ids : List ℕ) → near (with_plan gone more s) (lost_goals s gone more) ids ≡ near (with_plan gone more s) (turned_goals s gone more) ids
  unfolding near
  near_after ids =
      let t = with_plan gone more s in
      ap (λ l. (l ++ flat_map (off_of t) ids) ++ flat_map (wrong_of t) ids)
      (sym (flat_map-append (open_of t) (lost_goals s gone more) (met_goals s gone more) ∙ rw (nothing (open_of t) (met_goals s gone more) met_served) (append-nil (flat_map (open_of t) (lost_goals s gone more)))))
